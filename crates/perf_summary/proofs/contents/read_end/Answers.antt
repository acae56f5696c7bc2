use Rattle.std.proofs.Common.{ℕ, List, ◌++◌, refl, replicate}
use Rattle.perf_base.specs.Configuration.{under_misc}
use Rattle.perf_base.specs.Configured.{configuration_of, endian_of}
use Rattle.perf_base.specs.Dynamic.{order_of}
use Rattle.perf_base.specs.Layout.{layout}
use Rattle.perf_records.specs.Bodies.{body}
use Rattle.perf_flat.specs.FlatBodies.{header_before}
use Rattle.perf_summary.proofs.Records.{body_reads}
use Rattle.perf_summary.proofs.contents.read_end.Goals as goal

pub returns-then-read_body : goal.returns-then-read_body
returns-then-read_body c =
    let settings = configuration_of c.args.config.now in
    let order = order_of (endian_of c.args.config.now) in
    let h = c.args.header in
    let bytes = c.args.bytes.now in
    let front : List ℕ = replicate 8 0 in
    let flat = c.read_body.ensures.read c.if-read_body.true in
    body_reads settings order (header_before h.type_ h.misc bytes) (front ++ bytes) (layout order (body (under_misc h.misc settings) h.type_) bytes) c.read_body.new.frame
    (flat.answer front refl)
