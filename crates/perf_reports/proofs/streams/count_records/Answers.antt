use Rattle.std.proofs.Common.{List, ℕ, sym, subst}
use Rattle.std.specs.Prelude.{Option}
use Rattle.perf_parser.specs.ReaderState.{parser_buffer, parser_state}
use Rattle.perf_parser.specs.declared.run.RunEnd.{RunEnd}
use Rattle.perf_reader.specs.ReaderState.{ReaderState}
use Rattle.perf_reports.specs.Counting.{CountsRun, EndsBy}
use Rattle.perf_reports.specs.declared.counts.Counts.{Counts}
use Rattle.perf_reports.specs.declared.streams.TheConstants.{MOST_FRAMES}
use Rattle.perf_reports.proofs.Counted.{IsRunEnd, run_counts, run_keeps}
use Rattle.perf_reports.proofs.streams.count_records.Goals as goal
use Rattle.perf_reports.proofs.streams.count_records.Goals.{in-Some, in-None}

pub returns-clause-counts : goal.returns-clause-counts
returns-clause-counts g c = λ told.
    let old : ReaderState = parser_state g.B.ParseBuf.source g.E.Endian.order c.args.parser.now in
    let left : List ℕ = (g.B.ParseBuf.source (parser_buffer c.each_frame-run.new.parser)).left in
    let run = c.each_frame-run in
    let now = run.new.handler in
    let e = c.match-run.end in
    let ended : IsRunEnd run.result.end now e = elim c.match-run.branch [
      | in-Some w ↦ subst (λ (x : Option RunEnd). IsRunEnd x now e) (sym w.in-Some.is) w.end-is
      | in-None w ↦ subst (λ (x : Option RunEnd). IsRunEnd x now e) (sym w.in-None.is) (subst (λ (x : RunEnd). EndsBy now.error x) (sym w.end-is) w.end-end.ensures.end)
    ] in
    subst (λ (k : Counts). CountsRun old.settings old.order MOST_FRAMES old.source.left k e left) (sym c.counts-counts.ensures)
    (run_counts old MOST_FRAMES run.result.count run.result.end e c.new-counter.result now left c.new-counter.ensures (run.ensures.handed told) (run.ensures.end told) ended)

pub returns-clause-buffer : goal.returns-clause-buffer
returns-clause-buffer g c = λ told.
    let old : ReaderState = parser_state g.B.ParseBuf.source g.E.Endian.order c.args.parser.now in
    let run = c.each_frame-run in
    let now = run.new.handler in
    let e = c.match-run.end in
    let ended : IsRunEnd run.result.end now e = elim c.match-run.branch [
      | in-Some w ↦ subst (λ (x : Option RunEnd). IsRunEnd x now e) (sym w.in-Some.is) w.end-is
      | in-None w ↦ subst (λ (x : Option RunEnd). IsRunEnd x now e) (sym w.in-None.is) (subst (λ (x : RunEnd). EndsBy now.error x) (sym w.end-is) w.end-end.ensures.end)
    ] in
    (run_keeps old _ run.result.count run.result.end e c.new-counter.result now _ c.new-counter.ensures (run.ensures.handed told) ended run.ensures.keeps).0

pub returns-clause-fault : goal.returns-clause-fault
returns-clause-fault g c = λ told.
    let old : ReaderState = parser_state g.B.ParseBuf.source g.E.Endian.order c.args.parser.now in
    let run = c.each_frame-run in
    let now = run.new.handler in
    let e = c.match-run.end in
    let ended : IsRunEnd run.result.end now e = elim c.match-run.branch [
      | in-Some w ↦ subst (λ (x : Option RunEnd). IsRunEnd x now e) (sym w.in-Some.is) w.end-is
      | in-None w ↦ subst (λ (x : Option RunEnd). IsRunEnd x now e) (sym w.in-None.is) (subst (λ (x : RunEnd). EndsBy now.error x) (sym w.end-is) w.end-end.ensures.end)
    ] in
    (run_keeps old _ run.result.count run.result.end e c.new-counter.result now _ c.new-counter.ensures (run.ensures.handed told) ended run.ensures.keeps).1
