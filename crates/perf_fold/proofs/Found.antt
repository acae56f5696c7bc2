-- The flat frame of a frame that was found.
use Rattle.std.proofs.Common.{◌≡◌, ℕ, List, sym, ◌∙◌, ap, subst}
use Rattle.std.specs.Prelude.{Some}
use Rattle.perf_base.specs.Dynamic.{order_of}
use Rattle.perf_base.specs.declared.endian.Dynamic.{Dynamic}
use Rattle.perf_sections.specs.Opened.{File}
use Rattle.perf_flat.specs.Flat.{IsFlat}
use Rattle.perf_flat.specs.declared.frame.FlatFrame.{FlatFrame}
use Rattle.perf_sample_types.specs.Sample.{SampleValue}
use Rattle.perf_walk.specs.Moments.{Moment}
use Rattle.perf_walk.specs.Samples.{sample_of}
use Rattle.perf_walk.specs.Steps.{IsFrameOf}
use Rattle.perf_walk.specs.declared.walk.Found.{Found}

pub flat_found : (f : File) (m : Moment) (found : Found) (flat seen : FlatFrame) (order : Dynamic) → order ≡ f.order → seen ≡ flat → IsFrameOf f m found flat → IsFlat m.config (order_of order) found.bytes.now seen
flat_found f m found flat seen order ordered same is =
    subst (λ (x : FlatFrame). IsFlat m.config (order_of order) found.bytes.now x) (sym same)
    (subst (λ (b : List ℕ). IsFlat m.config (order_of order) b flat) (sym is.bytes)
    (subst (λ (p : Dynamic). IsFlat m.config (order_of p) m.frame flat) (sym ordered) is.states))

pub sample_found : (f : File) (m : Moment) (found : Found) (flat : FlatFrame) (order : Dynamic) (s : SampleValue) → order ≡ f.order → IsFrameOf f m found flat → sample_of m.config (order_of f.order) m.frame ≡ Some s
    → sample_of m.config (order_of order) found.bytes.now ≡ Some s
sample_found f m found flat order s ordered is sampled =
    ap (λ (p : Dynamic). sample_of m.config (order_of p) found.bytes.now) ordered ∙ ap (sample_of m.config (order_of f.order)) is.bytes ∙ sampled
