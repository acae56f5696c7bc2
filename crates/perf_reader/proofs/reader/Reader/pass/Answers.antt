use Rattle.std.proofs.Common.{Some, refl, arith}
use Rattle.perf_base.specs.Refusals.{refusal_kind}
use Rattle.perf_reader.specs.ReaderState.{ReaderState, state_of}
use Rattle.perf_reader.proofs.AtOnce.{never_lacking, at_once_keeps}
use Rattle.perf_reader.proofs.Calls.{array_keeps}
use Rattle.perf_reader.proofs.reader.Reader.pass.Goals as goal

pub returns-in-Ok-clause-call : goal.returns-in-Ok-clause-call
returns-in-Ok-clause-call g c =
    let old : ReaderState = state_of g.I.Input.source g.E.Endian.order c.args.self.now in
    let new : ReaderState = record { settings = old.settings; order = old.order; source = g.I.Input.source c.skip.new.self; reads = c.add.new.self } in
    let e = c.in-Ok.ensures in record {
      config = refl;
      whole = e.stays.0;
      told = e.stays.3;
      answer = λ told. let t = e.ok told in (t.0, t.1, c.add.ensures);
      keeps = λ start p. at_once_keeps start old new c.args.len c.args.reads c.requires.few p c.add.ensures e.stays (λ told. e.ok told);
    }

pub returns-in-Err-clause-call : goal.returns-in-Err-clause-call
returns-in-Err-clause-call g c =
    let old : ReaderState = state_of g.I.Input.source g.E.Endian.order c.args.self.now in
    let new : ReaderState = record { settings = old.settings; order = old.order; source = g.I.Input.source c.skip.new.self; reads = c.tick.new.self } in
    let e = c.in-Err.ensures in record {
      config = refl;
      whole = e.stays.0;
      told = e.stays.3;
      answer = λ told kind. never_lacking old.source new.source c.args.len (refusal_kind c.in-Err.refusal) (c.requires.has told) (e.err told) kind;
      keeps = λ start p. array_keeps start old new c.args.len (Some (refusal_kind c.in-Err.refusal)) p (omega (arith, c.if-len-eq0.false)) c.tick.ensures e.stays e.can_fail (λ told. e.err told);
    }
