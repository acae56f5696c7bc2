use Rattle.std.proofs.Common.{ℕ, List, reverse, ap, ◌∙◌}
use Rattle.std.proofs.lemmas.Result.{on_ok_weaker}
use Rattle.perf_flame.specs.Tallies.{tally_lines}
use Rattle.perf_flame.specs.Lines.{add_count}
use Rattle.perf_walk.specs.declared.calls.Call.{Call}
use Rattle.perf_fold.specs.EventLabels.{labels_view}
use Rattle.perf_fold.specs.SampleStacks.{sample_calls, stack_text}
use Rattle.perf_fold.proofs.folding.Folder.add_sample.Goals as goal

pub returns-clause-added : goal.returns-clause-added
returns-clause-added c = λ m s is past sampled same.
    let own = c.args.self.now in
    let sample = c.args.sample.now in
    let frames = own.how.frames in
    let labels = labels_view own.labels.now in
    let calls = c.in_ok-put_calls.ensures m s is sampled same in
    let text : List ℕ = stack_text frames labels m.event m.known sample (reverse (sample_calls c.args.walk.now.frame.misc s)) in
    let stack =
    c.text.ensures ∙ c.in_ok-put_stack.ensures m.known past
    ∙ ap (λ (event : ℕ). stack_text frames labels event m.known sample (reverse c.deref.result.now)) is.event
    ∙ ap (λ (xs : List Call). stack_text frames labels m.event m.known sample (reverse xs)) (c.deref.ensures.value ∙ calls) in
    let line = ap (λ (t : List ℕ). add_count (tally_lines own.tally) t c.weight-weight.result) stack in
    on_ok_weaker c.add.result (λ e. e ∙ line ∙ ap (λ (n : ℕ). add_count (tally_lines own.tally) text n) (c.weight-weight.ensures m s is sampled)) c.add.ensures.added
