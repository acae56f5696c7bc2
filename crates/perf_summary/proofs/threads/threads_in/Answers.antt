use Rattle.std.proofs.Common.{[], ap, ◌∙◌, arith}
use Rattle.std.proofs.lemmas.List.{drop_all}
use Rattle.perf_file.specs.Views.{view}
use Rattle.perf_summary.proofs.InTurn.{start, moved, all_threads}
use Rattle.perf_summary.proofs.threads.threads_in.Goals as goal

pub loop-index-init : goal.loop-index-init
loop-index-init c = record {
  recording = c.new-walk.ensures.recording;
  ordered = c.new-threads.ensures.ordered;
  threads = ([], c.new-walk.ensures.known, start (view c.args.recording.now) c.args.entries.now c.new-threads.result c.new-threads.ensures.empty);
}

pub loop-index-preserved : goal.loop-index-preserved
loop-index-preserved c =
    let f = view c.args.recording.now in
    let before = c.loop-index.invariant in
    record {
      recording = c.in_ok-go_on.ensures.recording ∙ before.recording;
      ordered = c.in_ok-go_on.ensures.ordered before.ordered;
      threads =
          moved f (view c.loop-index.walk.recording.now) c.args.entries.now c.loop-index.index _ before.threads.0 c.loop-index.threads c.go_on.new.threads c.go_on.new.walk.history
          (ap view before.recording) (omega (arith, c.loop-index-test.true)) before.threads.2 (c.in_ok-go_on.ensures.gone before.threads.0 before.threads.1);
    }

pub returns : goal.returns
returns c =
    let f = view c.args.recording.now in
    let last = c.loop-index.invariant in
    all_threads f c.args.entries.now _ last.threads.0 c.loop-index.threads (drop_all c.loop-index.index c.args.entries.now (omega (arith, c.loop-index-test.false))) (omega (arith, c.loop-index.auto.index-end)) last.ordered last.threads.2
