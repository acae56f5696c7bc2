use Rattle.std.proofs.Common.{ℕ, ◌<◌, ◌^◌, arith}
use Rattle.perf_fold.proofs.Remembered.{named_there, named_nowhere}
use Rattle.perf_fold.proofs.stack.place_at.Goals as goal

pub returns-in-User : goal.returns-in-User
returns-in-User c = λ frames pid known is.
    let address : ℕ = c.args.address in
    let below : address < 2 ^ 64 = omega (arith, c.ranges.address) in
    named_there frames pid known c.args.memory.now c.args.mode address c.place.result is below c.in-User.is c.place.ensures

pub returns-in_default : goal.returns-in_default
returns-in_default c = λ frames pid known is. named_nowhere frames pid known c.args.mode c.args.address c.in_default.not-User
