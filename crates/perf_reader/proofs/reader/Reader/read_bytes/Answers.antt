use Rattle.std.proofs.Common.{None, refl, ◌≡◌, ◌<◌, arith, sym, ◌∙◌, ap}
use Rattle.std.proofs.lemmas.Bool.Decides.{nat_tests}
use Rattle.perf_base.specs.Layout.{byte_string}
use Rattle.perf_base.specs.LayoutReads.{one_if_any}
use Rattle.perf_base.specs.Refusals.{refusal_kind}
use Rattle.perf_base.specs.Took.{one_took}
use Rattle.perf_reader.specs.ReaderState.{ReaderState, state_of}
use Rattle.perf_reader.proofs.Calls.{array_keeps, kept_keeps}
use Rattle.perf_reader.proofs.Steps.{run_none, run_there, kept_short}
use Rattle.perf_reader.proofs.reader.Reader.read_bytes.Goals as goal

pub returns-in-Ok-clause-call : goal.returns-in-Ok-clause-call
returns-in-Ok-clause-call g c =
    let old : ReaderState = state_of g.I.Input.source g.E.Endian.order c.args.self.now in
    let new : ReaderState = record { settings = old.settings; order = old.order; source = g.I.Input.source c.cut.new.self; reads = c.tick.new.self } in
    let some : 0 < c.args.len = grind (arith, nat_tests) in
    let e = c.in-Ok.ensures in record {
      config = refl;
      whole = e.stays.0;
      told = e.stays.3;
      answer = λ told. let t = e.ok told in rw (c.into_bytes.ensures.items, t.1, t.0.1, c.tick.ensures) (run_there old.order c.args.len old.source.left old.reads some t.0.0);
      keeps = λ start p. array_keeps start old new c.args.len None p some c.tick.ensures e.stays e.can_fail (λ told. (e.ok told).0);
    }

pub returns-in-Err-clause-call : goal.returns-in-Err-clause-call
returns-in-Err-clause-call g c =
    let old : ReaderState = state_of g.I.Input.source g.E.Endian.order c.args.self.now in
    let new : ReaderState = record { settings = old.settings; order = old.order; source = g.I.Input.source c.cut.new.self; reads = c.tick.new.self } in
    let some : 0 < c.args.len = grind (arith, nat_tests) in
    let e = c.in-Err.ensures in record {
      config = refl;
      whole = e.stays.0;
      told = e.stays.3;
      answer = λ told kind. kept_short old.order c.args.len old.source new.source (refusal_kind c.in-Err.refusal) old.reads new.reads (e.err told) c.tick.ensures kind;
      keeps = λ start p. kept_keeps start old new c.args.len (refusal_kind c.in-Err.refusal) p some c.tick.ensures e.stays e.can_fail (λ told. e.err told);
    }

pub returns-then-len-eq0 : goal.returns-then-len-eq0
returns-then-len-eq0 g c =
    let old : ReaderState = state_of g.I.Input.source g.E.Endian.order c.args.self.now in
    let none : c.args.len ≡ 0 = c.if-len-eq0.true in
    let nothing : one_if_any c.args.len ≡ 0 = ap one_if_any none in record {
      whole = λ whole. refl;
      whole_memory = λ whole. tt;
      nothing = λ zero. (refl, refl, refl);
      short = λ lacks. tt;
      beforehand = λ told first. tt;
      counted = omega (arith, nothing);
      length = sym none;
      call = record {
        config = refl;
        whole = refl;
        told = λ told. told;
        answer = λ told. ap (λ k. one_took old.order (byte_string k) old.source.left old.reads) none ∙ run_none old.order old.source.left old.reads;
        keeps = λ start p. p;
      };
    }
