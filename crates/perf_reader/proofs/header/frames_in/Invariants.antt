use Rattle.std.proofs.Common.{◌≤◌, length, ◌*◌, ◌+◌}
use Rattle.perf_reader.proofs.header.frames_in.Given as goal

abbrev pub invariant-loop-count : goal.invariant-loop-count
invariant-loop-count g l = 8 * l.count + length l.rest ≤ length l.initial.bytes
