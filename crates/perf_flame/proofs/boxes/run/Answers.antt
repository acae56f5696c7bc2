use Rattle.std.proofs.Common.{◌≡◌, drop, map, inl, inr, arith}
use Rattle.perf_flame.specs.FoldedLines.{entry_line}
use Rattle.perf_flame.specs.Scans.{run}
use Rattle.perf_flame.proofs.Passing.{run_end}
use Rattle.perf_flame.proofs.boxes.run.Goals as goal

pub returns-after-loop-at : goal.returns-after-loop-at
returns-after-loop-at c =
    let stacks = c.args.stacks.now in
    let at = c.loop-at.at in
    let none : run c.args.place (drop at c.args.shares.now) (map entry_line (drop at stacks)) ≡ 0 =
    run_end c.args.place c.args.shares.now stacks at (inr (inl c.loop-at-test.false)) in
    omega (arith, c.loop-at.invariant.sum, none)
