use Rattle.std.proofs.Common.{None, Some, refl, ◌<◌, arith}
use Rattle.std.proofs.lemmas.Bool.Decides.{nat_tests}
use Rattle.perf_base.specs.Refusals.{refusal_kind}
use Rattle.perf_reader.specs.ReaderState.{ReaderState, state_of}
use Rattle.perf_reader.proofs.Calls.{array_keeps}
use Rattle.perf_reader.proofs.ZeroTails.{zeros_none, zeros_there, others_there, zeros_short, tail_keeps}
use Rattle.perf_reader.proofs.reader.Reader.read_zero_tail.Goals as goal

pub returns-then-len-eq0-clause-call : goal.returns-then-len-eq0-clause-call
returns-then-len-eq0-clause-call g c =
    let old : ReaderState = state_of g.I.Input.source g.E.Endian.order c.args.self.now in record {
      config = refl;
      whole = refl;
      told = λ told. told;
      answer = λ told. zeros_none old.order c.args.len old.source.left old.reads c.if-len-eq0.true;
      keeps = λ start p. p;
    }

pub returns-in-Ok-true-clause-call : goal.returns-in-Ok-true-clause-call
returns-in-Ok-true-clause-call g c =
    let old : ReaderState = state_of g.I.Input.source g.E.Endian.order c.args.self.now in
    let new : ReaderState = record { settings = old.settings; order = old.order; source = g.I.Input.source c.take_zeros.new.self; reads = c.tick.new.self } in
    let some : 0 < c.args.len = grind (arith, nat_tests) in
    let e = c.in-Ok-true.ensures in record {
      config = refl;
      whole = e.stays.0;
      told = e.stays.3;
      answer = λ told. zeros_there old.order c.args.len old.source new.source old.reads new.reads c.in-Ok-true.field-0 some (e.ok told) c.in-Ok-true.field-0-test c.tick.ensures;
      keeps = λ start p. array_keeps start old new c.args.len None p some c.tick.ensures e.stays e.can_fail (λ told. (e.ok told).0);
    }

pub returns-in-Ok-false-clause-call : goal.returns-in-Ok-false-clause-call
returns-in-Ok-false-clause-call g c =
    let old : ReaderState = state_of g.I.Input.source g.E.Endian.order c.args.self.now in
    let new : ReaderState = record { settings = old.settings; order = old.order; source = g.I.Input.source c.take_zeros.new.self; reads = c.tick.new.self } in
    let some : 0 < c.args.len = grind (arith, nat_tests) in
    let e = c.in-Ok-false.ensures in record {
      config = refl;
      whole = e.stays.0;
      told = e.stays.3;
      answer = λ told kind. others_there old.order c.args.len old.source new.source old.reads new.reads c.in-Ok-false.field-0 some (e.ok told) c.in-Ok-false.field-0-test c.tick.ensures;
      keeps = λ start p. tail_keeps start new (array_keeps start old new c.args.len None p some c.tick.ensures e.stays e.can_fail (λ told. (e.ok told).0));
    }

pub returns-in-Err-clause-call : goal.returns-in-Err-clause-call
returns-in-Err-clause-call g c =
    let old : ReaderState = state_of g.I.Input.source g.E.Endian.order c.args.self.now in
    let new : ReaderState = record { settings = old.settings; order = old.order; source = g.I.Input.source c.take_zeros.new.self; reads = c.tick.new.self } in
    let some : 0 < c.args.len = grind (arith, nat_tests) in
    let e = c.in-Err.ensures in record {
      config = refl;
      whole = e.stays.0;
      told = e.stays.3;
      answer = λ told kind. zeros_short old.order c.args.len old.source new.source (refusal_kind c.in-Err.refusal) old.reads new.reads (e.err told) c.tick.ensures kind;
      keeps = λ start p. array_keeps start old new c.args.len (Some (refusal_kind c.in-Err.refusal)) p some c.tick.ensures e.stays e.can_fail (λ told. e.err told);
    }
