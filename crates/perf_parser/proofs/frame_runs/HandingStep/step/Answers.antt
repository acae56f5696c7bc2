use Rattle.std.proofs.Common.{◌≡◌, ◌∙◌, true, sym, ap, subst, None, Some, arith}
use Rattle.std.specs.Prelude.{Option, Bool}
use Rattle.perf_base.specs.Configured.{configuration_of, endian_of}
use Rattle.perf_base.specs.Configuration.{Configuration}
use Rattle.perf_base.specs.Header.{header_of}
use Rattle.perf_base.specs.Order.{Order}
use Rattle.perf_base.specs.Refusals.{refusal_kind}
use Rattle.perf_base.specs.declared.config.ParseConfig.{ParseConfig}
use Rattle.perf_base.specs.declared.error.ErrorKind.{ErrorKind}
use Rattle.perf_buffers.specs.declared.outer.Outer.{Outer}
use Rattle.perf_reader.specs.ReaderState.{ReaderState, state_of}
use Rattle.perf_reader.specs.Reading.{CallInvariant}
use Rattle.perf_reader.proofs.Calls.{can_fault, keeps_none, keeps_more}
use Rattle.perf_records.specs.Answers.{length_after}
use Rattle.perf_records.specs.Sights.{Sight, sight_after, sight_in}
use Rattle.perf_records.proofs.Headers.{after_frame}
use Rattle.perf_records.proofs.Preservation.{moved_keeps}
use Rattle.perf_records.specs.Frames.{first_frames}
use Rattle.perf_parser.specs.FrameRuns.{Handed}
use Rattle.perf_parser.proofs.RunEnds.{stops_after, run_more, run_stops}
use Rattle.perf_records.proofs.Handovers.{sight_take}
use Rattle.perf_parser.proofs.FrameHandovers.{HandsNext, hands_more, moved_by}
use Rattle.perf_parser.proofs.frame_runs.HandingStep.step.Goals as goal

-- no header
pub returns-in-Err-clause-step : goal.returns-in-Err-clause-step
returns-in-Err-clause-step g c =
    let source = λ (o : Outer g.row.B.Denot). g.B.ParseBuf.source o.buf in
    let old : ReaderState = state_of source g.E.Endian.order c.args.reader.now in
    let new : ReaderState = state_of source g.E.Endian.order c.next_header.new.self in
    let e = c.in-Err.ensures in record {
      so_far = tt;
      takes = λ told. tt;
      same = λ start first k so_far. so_far;
      stop = e.stop;
      memory = λ told whole. ((λ kind. absurd (e.memory told kind)), (λ kind. e.memory told kind));
      keeps = λ start k. run_stops start old new 0 c.in-Err.stop k (e.call.keeps old (keeps_none old));
    }

-- a frame
pub returns-in-Ok-hand_after-clause-step : goal.returns-in-Ok-hand_after-clause-step
returns-in-Ok-hand_after-clause-step g c =
    let source = λ (o : Outer g.row.B.Denot). g.B.ParseBuf.source o.buf in
    let old : ReaderState = state_of source g.E.Endian.order c.args.reader.now in
    let mid : ReaderState = state_of source g.E.Endian.order c.next_header.new.self in
    let new : ReaderState = state_of source g.E.Endian.order c.hand_after.new.reader in
    let h = c.in-Ok.header in let call = c.in-Ok.ensures.call in let e = c.in-Ok-hand_after.ensures in let f = e.handed in
    let was = c.args.handler.now in let now = c.hand_after.new.handler in let go = c.in-Ok-hand_after.go in
    let gets : Configuration → Order → _ → Sight → Bool → _ → Type 0 = λ c o s x. g.H.FrameHandler.gets s c o x in
    let P : ParseConfig g.row.E.Denot → Type 0 = λ k. gets (configuration_of k) (g.E.Endian.order (endian_of k)) was (sight_after h f.0 f.1) go now in
    let next : HandsNext (gets old.settings old.order) old was go new now = λ told.
    let head = call.answer told in let t = f.3 (call.told told) in
    let outcome : sight_after h f.0 f.1 ≡ sight_in old.order old.source.left f.1 =
    ap (λ xs. sight_after h xs f.1) t.0 ∙ sight_take h mid.source.left f.1 ∙ ap (λ k. sight_after k mid.source.left f.1) head.1 ∙ ap (λ xs. sight_after (header_of old.order old.source.left) xs f.1) head.2 in (
      head.0,
      (f.1, (λ whole. f.4 (call.whole ∙ whole)), subst (λ x. gets old.settings old.order was x go now) outcome (subst P call.config f.2)),
      after_frame old.order old.source.left mid.source.left new.source.left h head.1 head.2 t.1,
      e.reads ∙ head.3,
    ) in record {
      so_far = λ start first k taken so_far told. hands_more gets start old new first was now k go taken told (so_far told) next;
      takes = λ told. let n = next told in (n.0, n.2, n.3);
      same = tt;
      stop = λ told. tt;
      memory = λ told whole. tt;
      keeps = λ start k.
          let first : CallInvariant old None mid = call.keeps old (keeps_none old) in
          let second : CallInvariant mid None new = moved_keeps mid new None 0 (omega (arith, e.reads)) e.stays (λ x. cc)
          (λ told. let m = moved_by (length_after h) mid.source new.source (f.3 told).1 in (m, omega (arith, m.0))) in
          run_more start old new 0 None k (keeps_more old mid new None first second);
    }

-- no frame
pub returns-in-Err-hand_after-clause-step : goal.returns-in-Err-hand_after-clause-step
returns-in-Err-hand_after-clause-step g c =
    let source = λ (o : Outer g.row.B.Denot). g.B.ParseBuf.source o.buf in
    let old : ReaderState = state_of source g.E.Endian.order c.args.reader.now in
    let mid : ReaderState = state_of source g.E.Endian.order c.next_header.new.self in
    let new : ReaderState = state_of source g.E.Endian.order c.hand_after.new.reader in
    let call = c.in-Ok.ensures.call in let e = c.in-Err-hand_after.ensures in
    let kind : Option ErrorKind = Some (refusal_kind c.in-Err-hand_after.refusal) in record {
      so_far = tt;
      takes = λ told. tt;
      same = λ start first k so_far told. subst (λ s. Handed (λ s x. g.H.FrameHandler.gets s start.settings start.order x) start.order start.source.whole first (first_frames start.order k start.source.left) true s) (sym e.same) (so_far told);
      stop = λ told. let head = call.answer told in let still = call.told told in stops_after old mid new c.in-Ok.header c.in-Err-hand_after.refusal (e.stops still) head.0 head.1 head.2 (e.left still);
      memory = λ told whole. let none = e.memory (call.whole ∙ whole) in ((λ kind. absurd (none kind)), none);
      keeps = λ start k.
          let first : CallInvariant old None mid = call.keeps old (keeps_none old) in
          let second : CallInvariant mid kind new = moved_keeps mid new kind 0 (omega (arith, e.reads)) e.stays (can_fault mid.source kind e.can_fail) (λ told. let m = e.left told in (m.1, omega (arith, m.1.0))) in
          run_more start old new 0 kind k (keeps_more old mid new kind first second);
    }
