use Rattle.std.proofs.Common.{◌*◌, sym, ap, subst, ◌∙◌, inl, inr, refl}
use Rattle.perf_words.specs.SetBits.{sample_flags_bits}
use Rattle.perf_base.specs.Configured.{configuration_of, endian_of}
use Rattle.perf_sample_types.specs.SampleId.{sample_id_flags, sample_id_fields}
use Rattle.perf_records.specs.Metadata.{carries_sample_id}
use Rattle.perf_records.specs.FrameEnds.{EndsWithId}
use Rattle.perf_records.proofs.FrameEnds.{type_there, type_absent}
use Rattle.perf_records.proofs.frame_end.frame_end.Goals.{else-carries_sample_id-via-then-carries_sample_id+else-sample_id_all, else-carries_sample_id-via-else-carries_sample_id}
use Rattle.perf_records.proofs.frame_end.frame_end.Goals as goal

pub returns-then-sample_id_all : goal.returns-then-sample_id_all
returns-then-sample_id_all g c =
    let s = configuration_of c.args.config.now in
    let o = g.E.Endian.order (endian_of c.args.config.now) in
    let bytes = c.args.bytes.now in
    let r = c.last_fields.result in
    let u = sample_flags_bits c.sample_type.result in
    let order = ap g.E.Endian.order c.endian.ensures in
    let ends = subst (λ t. EndsWithId o (8 * sample_id_flags t) (sample_id_fields t) bytes r) c.sample_type.ensures
    (subst (λ p. EndsWithId p (8 * sample_id_flags u) (sample_id_fields u) bytes r) order c.last_fields.ensures) in
    type_there o s.sample_type bytes r (carries_sample_id c.args.ty) s.sample_id_all (sym c.carries_sample_id.ensures ∙ c.if-carries_sample_id.true) (sym c.sample_id_all.ensures ∙ c.if-sample_id_all.true) ends

pub returns-else-carries_sample_id : goal.returns-else-carries_sample_id
returns-else-carries_sample_id g c =
    let s = configuration_of c.args.config.now in
    let o = g.E.Endian.order (endian_of c.args.config.now) in
    type_absent o s.sample_type c.args.bytes.now _ (carries_sample_id c.args.ty) s.sample_id_all
    (elim c.else-carries_sample_id.branch [
      | else-carries_sample_id-via-then-carries_sample_id+else-sample_id_all w ↦ inr (sym w.sample_id_all.ensures ∙ w.if-sample_id_all.false)
      | else-carries_sample_id-via-else-carries_sample_id w ↦ inl (sym c.carries_sample_id.ensures ∙ w.if-carries_sample_id.false)
    ])
    c.default.ensures refl c.new.ensures
