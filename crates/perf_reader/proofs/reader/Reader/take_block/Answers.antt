use Rattle.std.proofs.Common.{◌≡◌, ◌+◌, ◌*◌, ◌++◌, ℕ, List, length, take, drop, replicate, Some, refl, ap, arith}
use Rattle.std.proofs.lemmas.List.{length-take-le, length-append}
use Rattle.perf_base.specs.Refusals.{refusal_kind}
use Rattle.perf_reader.specs.ReaderState.{ReaderState, state_of}
use Rattle.perf_reader.proofs.AtHand.{never_short, block_keeps, block_there}
use Rattle.perf_reader.proofs.Calls.{array_keeps}
use Rattle.perf_reader.proofs.reader.Reader.take_block.Goals as goal

pub returns-in-Err-clause-call : goal.returns-in-Err-clause-call
returns-in-Err-clause-call g c =
    let old : ReaderState = state_of g.I.Input.source g.E.Endian.order c.args.self.now in
    let new : ReaderState = record { settings = old.settings; order = old.order; source = g.I.Input.source c.fill.new.self; reads = c.tick.new.self } in
    let e = c.in-Err.ensures in
    let k = length c.args.numbers.now in
    let zeros : List ℕ = replicate 384 0 in
    let n : length (take (8 * k) zeros) ≡ 8 * k = length-take-le (8 * k) zeros (omega (arith, c.requires.most)) in record {
      config = refl;
      whole = e.stays.0;
      told = e.stays.3;
      answer = λ told kind. never_short k _ old.order old.source new.source (refusal_kind c.in-Err.refusal) old.reads new.reads (omega (arith, n, c.requires.there told)) (e.err told) kind;
      keeps = λ start p. array_keeps start old new _ (Some (refusal_kind c.in-Err.refusal)) p (omega (arith, n, c.requires.some)) c.tick.ensures e.stays e.can_fail (λ told. e.err told);
    }

pub returns-clause-call : goal.returns-clause-call
returns-clause-call g c =
    let old : ReaderState = state_of g.I.Input.source g.E.Endian.order c.args.self.now in
    let new : ReaderState = record { settings = old.settings; order = old.order; source = g.I.Input.source c.fill.new.self; reads = c.add.new.self } in
    let e = c.in-Ok.ensures in
    let k = length c.args.numbers.now in
    let zeros : List ℕ = replicate 384 0 in
    let n : length (take (8 * k) zeros) ≡ 8 * k = length-take-le (8 * k) zeros (omega (arith, c.requires.most)) in
    let count : new.reads ≡ old.reads + k = omega (arith, c.add.ensures, c.tick.ensures, c.of.ensures, c.requires.some) in record {
      config = refl;
      whole = e.stays.0;
      told = e.stays.3;
      answer = λ told.
          let t = e.ok told in
          block_there old.order (g.E.Endian.order c.endian.result.now) old.source new.source _ k old.reads new.reads c.fill.new.out (drop (8 * k) zeros) c.convert.new.numbers
          (ap g.E.Endian.order c.endian.ensures) n count t.0 t.1 c.convert.ensures;
      keeps = λ start p. block_keeps start old new _ k n p count e.stays (λ told. (e.ok told).0);
    }

pub overflow_mul-len : goal.overflow_mul-len
overflow_mul-len g c = omega (arith, c.requires.most)

pub slice_bounds-bytes-end : goal.slice_bounds-bytes-end
slice_bounds-bytes-end g c = omega (arith, c.requires.most)

pub overflow_sub-numbers : goal.overflow_sub-numbers
overflow_sub-numbers g c = omega (arith, c.requires.some)

pub convert-requires : goal.convert-requires
convert-requires g c =
    let k = length c.args.numbers.now in
    let zeros : List ℕ = replicate 384 0 in
    let n : length (take (8 * k) zeros) ≡ 8 * k = length-take-le (8 * k) zeros (omega (arith, c.requires.most)) in
    let out : length c.fill.new.out ≡ length (take (8 * k) zeros) = c.fill.auto.out in
    let all : length (c.fill.new.out ++ drop (8 * k) zeros) ≡ length c.fill.new.out + length (drop (8 * k) zeros) = length-append c.fill.new.out (drop (8 * k) zeros) in
    length-take-le (8 * k) (c.fill.new.out ++ drop (8 * k) zeros) (omega (arith, n, out, all))
