use Rattle.perf_walk.proofs.Made.{comm_made}
use Rattle.perf_walk.proofs.changing.comm_in.Goals as goal

pub returns : goal.returns
returns c = λ r has. comm_made c.args.bytes.now c.args.frame.now r has c.short_number.result c.string.result.now c.short_number.ensures c.string.ensures
