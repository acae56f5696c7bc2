use Rattle.std.proofs.Common.{◌≡◌, ◌+◌, [], ◌∷◌, ◌++◌, sym, ◌∙◌, ap, subst, true, Err, Ok, Some, inl}
use Rattle.std.specs.Prelude.{IsTrue, Option}
use Rattle.perf_base.specs.Configured.{configuration_of, endian_of}
use Rattle.perf_base.specs.Refusals.{refusal_kind}
use Rattle.perf_base.specs.declared.config.ParseConfig.{ParseConfig}
use Rattle.perf_base.specs.declared.error.ErrorKind.{ErrorKind}
use Rattle.perf_buffers.specs.declared.outer.Outer.{Outer}
use Rattle.perf_reader.specs.ReaderState.{ReaderState, state_of}
use Rattle.perf_reader.proofs.Calls.{keeps_none}
use Rattle.perf_parser.specs.Runs.{Pairs, RunInvariant, refused_count}
use Rattle.perf_parser.specs.Steps.{ListsFirst, stopped_by}
use Rattle.perf_parser.proofs.RunEnds.{stops_after, stops_spent, run_more, run_stops, run_lists, said_frame}
use Rattle.perf_parser.proofs.Lists.{lists_more, listed_alone}
use Rattle.perf_parser.proofs.Lookaheads.{looked_call, looked_stops}
use Rattle.perf_parser.proofs.runs.ListingStepFrames.step.Goals as goal

-- no capacity
pub returns-in-Err-clause-step : goal.returns-in-Err-clause-step
returns-in-Err-clause-step g c =
    let source = λ (o : Outer g.row.B.Denot). g.B.ParseBuf.source o.buf in
    let old : ReaderState = state_of source g.E.Endian.order c.args.reader.now in
    let new : ReaderState = state_of source g.E.Endian.order c.make_room.new.reader in
    let e = c.in-Err.ensures in record {
      so_far = tt;
      takes = λ told. tt;
      same = λ start first k so_far. subst (ListsFirst start k true) (sym e.items) so_far;
      stop = e.stop;
      memory = λ told whole. ((λ kind. inl (e.call.answer told)), (λ kind. tt));
      keeps = λ start k. subst (λ (xs : Pairs). RunInvariant start (refused_count xs + 1) (stopped_by {A = Unit {0}} (Err c.in-Err.stop)) new) (sym e.items)
          (run_stops start old new (refused_count c.args.frames.now.items) c.in-Err.stop k (e.call.keeps old (keeps_none old)));
    }

-- no header
pub returns-in-Err-next_header-clause-step : goal.returns-in-Err-next_header-clause-step
returns-in-Err-next_header-clause-step g c =
    let source = λ (o : Outer g.row.B.Denot). g.B.ParseBuf.source o.buf in
    let old : ReaderState = state_of source g.E.Endian.order c.args.reader.now in
    let mid : ReaderState = state_of source g.E.Endian.order c.make_room.new.reader in
    let new : ReaderState = state_of source g.E.Endian.order c.next_header.new.self in
    let look = c.in-Ok.ensures.call in let e = c.in-Err-next_header.ensures in let items = c.in-Ok.ensures.items in record {
      so_far = tt;
      takes = λ told. tt;
      same = λ start first k so_far. subst (ListsFirst start k true) (sym items) so_far;
      stop = λ told. let same = look.answer told in looked_stops old mid new (ap (λ (k : ParseConfig g.row.E.Denot). g.E.Endian.order (endian_of k)) look.config) same.0 same.1 c.in-Err-next_header.stop (e.stop (look.told told));
      memory = λ told whole. ((λ kind. absurd (e.memory (look.told told) kind)), (λ kind. tt));
      keeps = λ start k. subst (λ (xs : Pairs). RunInvariant start (refused_count xs + 1) (stopped_by {A = Unit {0}} (Err c.in-Err-next_header.stop)) new) (sym items)
          (run_stops start old new (refused_count c.args.frames.now.items) c.in-Err-next_header.stop k (e.call.keeps old (look.keeps old (keeps_none old))));
    }

-- a frame
pub returns-in-Ok-list_frame-clause-step : goal.returns-in-Ok-list_frame-clause-step
returns-in-Ok-list_frame-clause-step g c =
    let source = λ (o : Outer g.row.B.Denot). g.B.ParseBuf.source o.buf in
    let old : ReaderState = state_of source g.E.Endian.order c.args.reader.now in
    let mid : ReaderState = state_of source g.E.Endian.order c.next_header.new.self in
    let new : ReaderState = state_of source g.E.Endian.order c.list_frame.new.reader in
    let h = c.in-Ok-next_header.header in
    let call = looked_call g.B.ParseBuf.source g.E.Endian.order c.args.reader.now c.make_room.new.reader c.next_header.new.self (Ok h) c.in-Ok.ensures.call c.in-Ok-next_header.ensures.call in
    let was : Pairs = c.args.frames.now.items in let now : Pairs = c.list_frame.new.frames.items in
    let read = c.in-Ok-list_frame.ensures.listed in let r = read.0 in
    let pushed : now ≡ was ++ (h, r) ∷ [] = read.1 ∙ ap (λ (xs : Pairs). xs ++ (h, r) ∷ []) c.in-Ok.ensures.items in
    let seen = λ (told : IsTrue old.source.told). let head = call.answer told in
    said_frame old mid new h r head.0 head.1 (ap (λ (k : ParseConfig g.row.E.Denot). configuration_of k) call.config) (ap (λ (k : ParseConfig g.row.E.Denot). g.E.Endian.order (endian_of k)) call.config) head.2 head.3 read.3 (read.4.answer (call.told told)) in record {
      so_far = λ start first k taken so_far. lists_more start old was now k h r taken so_far pushed (λ whole. read.2 (call.whole ∙ whole)) (λ told. let head = call.answer told in (head.0, head.1, (seen told).0));
      takes = λ told. ((call.answer told).0, (seen told).1, (seen told).2 ∙ ap (λ n. old.reads + n) (sym (listed_alone old.settings old.order old.source.left)));
      same = tt;
      stop = λ told. tt;
      memory = λ told whole. tt;
      keeps = λ start k. run_lists start old new was now h r pushed read.3 k (read.4.keeps old (call.keeps old (keeps_none old)));
    }

-- no frame
pub returns-in-Err-list_frame-clause-step : goal.returns-in-Err-list_frame-clause-step
returns-in-Err-list_frame-clause-step g c =
    let source = λ (o : Outer g.row.B.Denot). g.B.ParseBuf.source o.buf in
    let old : ReaderState = state_of source g.E.Endian.order c.args.reader.now in
    let mid : ReaderState = state_of source g.E.Endian.order c.next_header.new.self in
    let new : ReaderState = state_of source g.E.Endian.order c.list_frame.new.reader in
    let h = c.in-Ok-next_header.header in
    let call = looked_call g.B.ParseBuf.source g.E.Endian.order c.args.reader.now c.make_room.new.reader c.next_header.new.self (Ok h) c.in-Ok.ensures.call c.in-Ok-next_header.ensures.call in
    let e = c.in-Err-list_frame.ensures in let r = c.in-Err-list_frame.refusal in let kind : Option ErrorKind = Some (refusal_kind r) in
    let items = e.kept ∙ c.in-Ok.ensures.items in record {
      so_far = tt;
      takes = λ told. tt;
      same = λ start first k so_far. subst (ListsFirst start k true) (sym items) so_far;
      stop = λ told. let head = call.answer told in stops_after old mid new h r e.stops.0 head.0 head.1 head.2 (e.within (call.told told));
      memory = λ told whole. let head = call.answer told in (stops_spent old mid new h r head.1 head.2 (e.spent (call.told told) (call.whole ∙ whole)), (λ refused. tt));
      keeps = λ start k. subst (λ (xs : Pairs). RunInvariant start (refused_count xs + 1) kind new) (sym items)
          (run_more start old new (refused_count c.args.frames.now.items) kind k (e.stops.1.keeps old (call.keeps old (keeps_none old))));
    }
