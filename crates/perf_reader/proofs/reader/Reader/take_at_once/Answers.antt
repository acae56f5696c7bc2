use Rattle.std.proofs.Common.{◌≡◌, ◌+◌, Some, refl, arith}
use Rattle.perf_base.specs.Refusals.{refusal_kind}
use Rattle.perf_reader.specs.ReaderState.{ReaderState, state_of}
use Rattle.perf_reader.proofs.AtOnce.{never_lacking, at_once_keeps}
use Rattle.perf_reader.proofs.Calls.{array_keeps}
use Rattle.perf_reader.proofs.reader.Reader.take_at_once.Goals as goal

pub returns-in-Err-clause-call : goal.returns-in-Err-clause-call
returns-in-Err-clause-call g c =
    let old : ReaderState = state_of g.I.Input.source g.E.Endian.order c.args.self.now in
    let new : ReaderState = record { settings = old.settings; order = old.order; source = g.I.Input.source c.take_array.new.input; reads = c.tick.new.self } in
    let e = c.in-Err.ensures in record {
      config = refl;
      whole = e.stays.0;
      told = e.stays.3;
      answer = λ told kind. never_lacking old.source new.source g.row.N (refusal_kind c.in-Err.refusal) (c.requires.has told) (e.err told) kind;
      keeps = λ start p. array_keeps start old new g.row.N (Some (refusal_kind c.in-Err.refusal)) p (omega (arith, c.requires.some, c.requires.room)) c.tick.ensures e.stays e.can_fail (λ told. e.err told);
    }

pub returns-clause-call : goal.returns-clause-call
returns-clause-call g c =
    let old : ReaderState = state_of g.I.Input.source g.E.Endian.order c.args.self.now in
    let new : ReaderState = record { settings = old.settings; order = old.order; source = g.I.Input.source c.take_array.new.input; reads = c.add.new.self } in
    let e = c.in-Ok.ensures in
    let count : new.reads ≡ old.reads + c.args.numbers = omega (arith, c.add.ensures, c.tick.ensures, c.of.ensures, c.requires.some) in record {
      config = refl;
      whole = e.stays.0;
      told = e.stays.3;
      answer = λ told. let t = e.ok told in (t.0.0, t.1, t.0.1, count);
      keeps = λ start p. at_once_keeps start old new g.row.N c.args.numbers c.requires.room p count e.stays (λ told. (e.ok told).0);
    }
