use Rattle.std.proofs.Common.{◌≡◌, ◌∙◌, ap, ◌+◌, refl, length}
use Rattle.perf_base.specs.Cow.{cow_items}
use Rattle.perf_base.specs.LayoutReads.{one_if_any}
use Rattle.perf_base.specs.Refusals.{refusal_kind}
use Rattle.perf_reader.specs.ReaderState.{ReaderState, state_of}
use Rattle.perf_reader.proofs.Calls.{rest_keeps, rest_fails}
use Rattle.perf_reader.proofs.Steps.{rest_taken, rest_refused}
use Rattle.perf_reader.proofs.reader.Reader.read_rest.Goals as goal

pub returns-in-Ok-clause-call : goal.returns-in-Ok-clause-call
returns-in-Ok-clause-call g c =
    let old : ReaderState = state_of g.I.Input.source g.E.Endian.order c.args.self.now in
    let new : ReaderState = record { settings = old.settings; order = old.order; source = g.I.Input.source c.take_rest.new.self; reads = c.tick_if_any.new.self } in
    let e = c.in-Ok.ensures in
    let count : new.reads ≡ old.reads + one_if_any (length (cow_items c.in-Ok.bytes)) = c.tick_if_any.ensures ∙ ap (λ n. old.reads + one_if_any n) c.len.ensures in record {
      config = refl;
      whole = e.stays.0;
      told = e.stays.3;
      answer = λ told. let t = e.ok told in rest_taken old.order old.source new.source (cow_items c.in-Ok.bytes) old.reads new.reads t.0 t.1 count;
      keeps = λ start p. rest_keeps start old new (cow_items c.in-Ok.bytes) p count e.stays (λ told. e.ok told);
    }

pub returns-in-Err-clause-call : goal.returns-in-Err-clause-call
returns-in-Err-clause-call g c =
    let old : ReaderState = state_of g.I.Input.source g.E.Endian.order c.args.self.now in
    let new : ReaderState = record { settings = old.settings; order = old.order; source = g.I.Input.source c.take_rest.new.self; reads = c.tick.new.self } in
    let e = c.in-Err.ensures in record {
      config = refl;
      whole = e.stays.0;
      told = e.stays.3;
      answer = λ told kind. rest_refused old.order old.source new.source (refusal_kind c.in-Err.refusal) old.reads new.reads (e.err told) kind;
      keeps = λ start p. rest_fails start old new (refusal_kind c.in-Err.refusal) p c.tick.ensures e.stays e.can_fail (λ told. e.err told);
    }
