use Rattle.std.proofs.Common.{◌≡◌, ◌≤◌, ◌+◌, ◌*◌, ℕ, List, length, Some, refl, sym, ap, arith}
use Rattle.std.proofs.lemmas.List.{length-take-le}
use Rattle.perf_base.specs.Refusals.{refusal_kind}
use Rattle.perf_reader.specs.ReaderState.{ReaderState, state_of}
use Rattle.perf_reader.proofs.AtHand.{never_short, block_keeps, shown_there}
use Rattle.perf_reader.proofs.Calls.{array_keeps}
use Rattle.perf_reader.proofs.reader.Reader.read_shown.Goals as goal

pub returns-in-Err-clause-refused : goal.returns-in-Err-clause-refused
returns-in-Err-clause-refused g c =
    let old : ReaderState = state_of g.I.Input.source g.E.Endian.order c.args.self.now in
    let new : ReaderState = record { settings = old.settings; order = old.order; source = g.I.Input.source c.skip.new.self; reads = c.tick.new.self } in
    let e = c.in-Err.ensures in
    let k = length c.args.numbers.now in
    let shown : List ℕ = c.shown_bytes-front.result.now in
    let within : 8 * k ≤ length shown = omega (arith, c.if-front-numbers.false) in record {
      config = refl;
      whole = e.stays.0;
      told = e.stays.3;
      answer = λ told kind. let s = c.shown_bytes-front.ensures told in
          never_short k (8 * k) old.order old.source new.source (refusal_kind c.in-Err.refusal) old.reads new.reads (omega (arith, within, s.0)) (e.err told) kind;
      keeps = λ start p. array_keeps start old new (8 * k) (Some (refusal_kind c.in-Err.refusal)) p (omega (arith, c.requires)) c.tick.ensures e.stays e.can_fail (λ told. e.err told);
    }

pub returns-clause-shown : goal.returns-clause-shown
returns-clause-shown g c =
    let old : ReaderState = state_of g.I.Input.source g.E.Endian.order c.args.self.now in
    let new : ReaderState = record { settings = old.settings; order = old.order; source = g.I.Input.source c.skip.new.self; reads = c.add.new.self } in
    let e = c.in-Ok.ensures in
    let k = length c.args.numbers.now in
    let shown : List ℕ = c.shown_bytes-front.result.now in
    let within : 8 * k ≤ length shown = omega (arith, c.if-front-numbers.false) in
    let same : length c.convert.new.numbers ≡ k = c.convert.auto.numbers in
    let count : new.reads ≡ old.reads + k = omega (arith, c.add.ensures, c.tick.ensures, c.of.ensures, c.requires, same) in λ is. record {
      config = refl;
      whole = e.stays.0;
      told = e.stays.3;
      answer = λ told. let s = c.shown_bytes-front.ensures told in
          shown_there old.order (g.E.Endian.order c.endian.result.now) old.source new.source k old.reads new.reads shown c.convert.new.numbers
          (ap g.E.Endian.order c.endian.ensures) count within s.1 (e.ok told) c.convert.ensures;
      keeps = λ start p. block_keeps start old new (8 * k) k refl p count e.stays e.ok;
    }

pub convert-requires : goal.convert-requires
convert-requires g c =
    let k = length c.args.numbers.now in
    let shown : List ℕ = c.shown_bytes-front.result.now in
    length-take-le (8 * k) shown (omega (arith, c.if-front-numbers.false))

pub slice_bounds-convert-end : goal.slice_bounds-convert-end
slice_bounds-convert-end g c =
    let k = length c.args.numbers.now in
    let shown : List ℕ = c.shown_bytes-front.result.now in
    sym (length-take-le (8 * k) shown (omega (arith, c.if-front-numbers.false)))
