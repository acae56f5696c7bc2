use Rattle.perf_base.specs.Configured.{configuration_of, endian_of}
use Rattle.perf_flat.proofs.ManyFrames.{rest_is}
use Rattle.perf_flat.proofs.read.read_next.Goals as goal

pub returns-clause-after : goal.returns-clause-after
returns-clause-after g c =
    rest_is (configuration_of c.args.config.now) (g.E.Endian.order (endian_of c.args.config.now)) c.args.bytes.now c.read_first.new.frame c.frame_len-len.result c.read_first.ensures c.frame_len-len.ensures
