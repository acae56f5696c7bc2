use Rattle.std.proofs.Common.{sym, ap, subst, ◌∙◌}
use Rattle.perf_base.specs.Configured.{configuration_of, endian_of}
use Rattle.perf_buffers.specs.Buffer.{chunk_bytes, chunk_is_borrowed}
use Rattle.perf_records.specs.Sights.{sight_of}
use Rattle.perf_flat.specs.Flat.{IsBad, IsFlatAfter}
use Rattle.perf_flat.proofs.FrameAnswers.{whole_first, bad_first}
use Rattle.perf_flat.proofs.read.flat_first.Goals as goal

pub returns-in-Ok : goal.returns-in-Ok
returns-in-Ok g c = λ bytes fits seen.
    let f = c.in-Ok.whole in
    let settings = configuration_of c.args.config.now in
    let order = g.E.Endian.order (endian_of c.args.config.now) in
    whole_first settings order bytes (chunk_bytes f.rest) f.header (chunk_is_borrowed f.rest) fits (seen ∙ ap sight_of c.in-Ok.is) _ c.flat_frame.ensures

pub returns-in-Err : goal.returns-in-Err
returns-in-Err g c = λ bytes fits seen.
    let b = c.in-Err.bad in
    let settings = configuration_of c.args.config.now in
    let order = g.E.Endian.order (endian_of c.args.config.now) in
    bad_first settings order bytes b.header _ c.bad_frame.new.frame fits (seen ∙ ap sight_of c.in-Err.is)
    (λ rest bad.
    subst (λ h. IsFlatAfter settings order h rest c.bad_frame.new.frame) c.header.ensures
    (c.bad_frame.ensures settings order rest (subst (λ h. IsBad h rest) (sym c.header.ensures) bad)))
