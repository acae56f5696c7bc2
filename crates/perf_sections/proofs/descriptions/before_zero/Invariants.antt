use Rattle.std.proofs.Common.{◌≡◌, ◌+◌, drop}
use Rattle.perf_sections.specs.Descriptions.{zero_at}
use Rattle.perf_sections.proofs.descriptions.before_zero.Given as goal

abbrev pub invariant-loop-index : goal.invariant-loop-index
invariant-loop-index l = l.index + zero_at (drop l.index l.bytes) ≡ zero_at l.bytes
