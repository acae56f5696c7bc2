use Rattle.std.proofs.Common.{◌≡◌, ◌<◌, length, ap, arith}
use Rattle.std.proofs.lemmas.Bool.{ltb-true}
use Rattle.perf_base.specs.Configured.{configuration_of, endian_of}
use Rattle.perf_buffers.specs.Prelude.{chunk_bytes}
use Rattle.perf_reports.proofs.Counted.{short_refused}
use Rattle.perf_reports.proofs.counting.is_short.Goals as goal

pub returns : goal.returns
returns g c = λ is.
    let f = c.args.frame.now in
    let rest : length c.rest.result.now ≡ length (chunk_bytes f.rest) = ap length c.rest.ensures in
    let less : length c.rest.result.now < c.least_len.result = ltb-true _ _ is in
    short_refused (configuration_of c.args.config.now) (g.E.Endian.order (endian_of c.args.config.now)) f.header (chunk_bytes f.rest) f.sized f.whole c.requires (omega (arith, less, rest, c.least_len.ensures.value))
