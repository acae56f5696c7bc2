use Rattle.std.proofs.Common.{◌∙◌, ap}
use Rattle.perf_file.specs.Views.{view}
use Rattle.perf_file.specs.declared.opening.Recording.{Recording}
use Rattle.perf_fold.proofs.Found.{flat_found, sample_found}
use Rattle.perf_fold.proofs.stack.push_found.Goals as goal

pub returns : goal.returns
returns c = λ m s is sampled.
    let f = view c.args.walk.now.recording.now in
    let order = c.order.ensures ∙ ap (λ (r : Recording). (view r).order) c.recording.ensures in
    c.push_calls.ensures m.config s (flat_found f m c.args.found.now c.args.walk.now.frame c.frame.result.now c.order.result order c.frame.ensures is)
    (sample_found f m c.args.found.now c.args.walk.now.frame c.order.result s order is sampled)
