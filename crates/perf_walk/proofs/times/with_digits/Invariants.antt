use Rattle.std.proofs.Common.{◌≡◌, take}
use Rattle.std.specs.Prelude.{Some}
use Rattle.perf_walk.specs.Times.{with_digits}
use Rattle.perf_walk.proofs.times.with_digits.Given as goal

-- the number of the digits so far
abbrev pub invariant-loop-digit : goal.invariant-loop-digit
invariant-loop-digit l = Some l.number ≡ with_digits l.fn.number (take l.digit-index l.digits)
