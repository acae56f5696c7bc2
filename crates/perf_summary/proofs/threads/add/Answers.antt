use Rattle.std.proofs.Common.{ap, ◌∙◌}
use Rattle.perf_summary.specs.ThreadSteps.{grown}
use Rattle.perf_summary.proofs.Same.{added}
use Rattle.perf_summary.proofs.threads.add.Goals as goal

pub returns-clause-adds : goal.returns-clause-adds
returns-clause-adds c =
    let x = c.args.fact.now in
    added x c.args.threads.now c.insert.new.self c.grown.result c.in_ok-insert.ensures.updates.0 (c.grown.ensures ∙ ap (λ t. grown t x) c.thread_or_none-before.ensures)
