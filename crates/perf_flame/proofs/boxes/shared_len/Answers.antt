use Rattle.std.proofs.Common.{◌≡◌, drop, eqb, inr, arith}
use Rattle.std.specs.List.{common_prefix_len}
use Rattle.perf_flame.proofs.Passing.{common_end}
use Rattle.perf_flame.proofs.boxes.shared_len.Goals as goal

pub returns-else-len-second : goal.returns-else-len-second
returns-else-len-second c =
    let first = c.args.first.now in
    let second = c.args.second.now in
    let n = c.loop-len.len in
    let none : common_prefix_len eqb (drop n first) (drop n second) ≡ 0 = common_end first second n (inr (omega (arith, c.if-len-second.false))) in
    omega (arith, c.loop-len.invariant.1, none)
