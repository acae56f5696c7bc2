use Rattle.perf_base.specs.Configuration.{Configuration}
use Rattle.perf_base.specs.Configured.{configuration_of, endian_of}
use Rattle.perf_base.specs.Order.{Order}
use Rattle.perf_buffers.specs.Prelude.{chunk_bytes, chunk_is_borrowed}
use Rattle.perf_records.proofs.FrameErrors.{error_gives}
use Rattle.perf_records.proofs.frame.Frame.visit.Goals as goal

pub returns-in-Err : goal.returns-in-Err
returns-in-Err g c =
    let f = c.args.self.now in
    let settings : Configuration = configuration_of c.args.config.now in
    let order : Order = g.E.Endian.order (endian_of c.args.config.now) in
    rw c.refused.ensures.1 (error_gives g.V.Visitor.gives f.header settings order (chunk_bytes f.rest) (chunk_is_borrowed f.rest) c.in-Err.bad c.refused.ensures.0 c.in-Err.ensures c.refused.ensures.2)
