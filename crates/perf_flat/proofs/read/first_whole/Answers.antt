use Rattle.std.proofs.Common.{◌≡◌, ◌∷◌, ap, ◌∙◌}
use Rattle.perf_buffers.specs.Buffer.{chunk_bytes, chunk_is_borrowed}
use Rattle.perf_records.specs.FrameList.{sights}
use Rattle.perf_records.specs.Sights.{sight_of}
use Rattle.perf_flat.proofs.Identifiers.{whole_at, bad_at}
use Rattle.perf_flat.proofs.read.first_whole.Goals as goal

pub returns-in-Ok : goal.returns-in-Ok
returns-in-Ok g c =
    let o = g.E.Endian.order c.args.order.now in
    let p = g.E.Endian.order c.frames.result.order.now in
    let f = c.in-Ok.frame in
    let next = sights (g.E.Endian.order c.next.new.self.order.now) c.next.new.self.left.now in
    let same : p ≡ o = ap (λ e. g.E.Endian.order e.now) c.frames.ensures.order in
    let first = whole_at o p c.args.bytes.now c.frames.result.left.now (chunk_bytes f.rest) f.header (chunk_is_borrowed f.rest) next same c.frames.ensures.left
    (c.in_ok-frame.ensures.steps ∙ ap (λ x. sight_of x ∷ next) c.in-Ok.is) in
    (first.whole, first.header, first.after)

pub returns-in-Err : goal.returns-in-Err
returns-in-Err g c =
    let o = g.E.Endian.order c.args.order.now in
    let p = g.E.Endian.order c.frames.result.order.now in
    let next = sights (g.E.Endian.order c.next.new.self.order.now) c.next.new.self.left.now in
    let same : p ≡ o = ap (λ e. g.E.Endian.order e.now) c.frames.ensures.order in
    bad_at o p c.args.bytes.now c.frames.result.left.now c.in-Err.field-0.header _ next same c.frames.ensures.left
    (c.in_ok-frame.ensures.steps ∙ ap (λ x. sight_of x ∷ next) c.in-Err.is)
