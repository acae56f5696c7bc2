use Rattle.std.proofs.Common.{◌≡◌, ◌≤◌, Bool, true, false, arith, ap, subst, ◌∙◌, refl}
use Rattle.std.proofs.lemmas.Bool.Decides.{nat_tests}
use Rattle.perf_base.specs.Configured.{configuration_of, endian_of}
use Rattle.perf_base.specs.Refusals.{refusal_kind}
use Rattle.perf_base.specs.declared.error.ErrorKind.{ErrorKind}
use Rattle.perf_base.specs.declared.error.ErrorKind.TheVariants.{Eof}
use Rattle.perf_base.specs.declared.refusal.Refusal.TheVariants as why
use Rattle.perf_base.specs.declared.config.ParseConfig.{ParseConfig}
use Rattle.perf_buffers.specs.Buffer.{Source}
use Rattle.perf_buffers.specs.Taking.{FailsToKeep}
use Rattle.perf_records.specs.Answers.{length_after}
use Rattle.perf_records.specs.Sights.{Sight, bad}
use Rattle.perf_records.proofs.Handovers.{hands_unfinished}
use Rattle.perf_records.proofs.frame_after.hand_after.Goals as goal

pub returns-else-not-is_eof-clause-handed : goal.returns-else-not-is_eof-clause-handed
returns-else-not-is_eof-clause-handed g c =
    let h = c.args.header in
    let old : Source = g.B.ParseBuf.source c.args.reader.now.input.buf in
    let new : Source = g.B.ParseBuf.source c.with_frame.new.self.input.buf in
    let gets : _ → Sight → Bool → _ → Type 0 = λ s x. g.H.FrameHandler.gets s (configuration_of c.args.reader.now.config) (g.E.Endian.order (endian_of c.args.reader.now.config)) x in
    let go = c.frame-in-Err.result in
    let now = c.frame-in-Err.new.self in
    let sized : 8 ≤ h.size = grind (arith, nat_tests) in
    let e = c.in-Err.ensures in
    let kind : refusal_kind c.in-Err.refusal ≡ Eof = c.if-not-is_eof.ensures.eof refl in
    let b = c.new-bad-in-Err.ensures in
    let config : c.config-in-Err.result.now ≡ c.args.reader.now.config = c.config-in-Err.ensures ∙ e.config in
    let P : ParseConfig g.row.E.Denot → Type 0 = λ k. g.H.FrameHandler.gets c.args.handler.now (configuration_of k) (g.E.Endian.order (endian_of k)) (bad h why.Eof) go now in
    let as-refused : g.H.FrameHandler.gets c.args.handler.now (configuration_of c.config-in-Err.result.now) (g.E.Endian.order (endian_of c.config-in-Err.result.now)) (bad c.new-bad-in-Err.result.header c.new-bad-in-Err.result.refusal) go now =
    subst (λ s. g.H.FrameHandler.gets s (configuration_of c.config-in-Err.result.now) (g.E.Endian.order (endian_of c.config-in-Err.result.now)) (bad c.new-bad-in-Err.result.header c.new-bad-in-Err.result.refusal) go now) e.same c.frame-in-Err.ensures in
    let outcome : bad c.new-bad-in-Err.result.header c.new-bad-in-Err.result.refusal ≡ bad h why.Eof = ap (λ k. bad k c.new-bad-in-Err.result.refusal) b.header ∙ ap (bad h) b.refusal in
    let got : gets c.args.handler.now (bad h why.Eof) go now = subst P config (subst (λ x. g.H.FrameHandler.gets c.args.handler.now (configuration_of c.config-in-Err.result.now) (g.E.Endian.order (endian_of c.config-in-Err.result.now)) x go now) outcome as-refused) in
    hands_unfinished gets h old new c.args.handler.now now go sized (λ none. let never : false ≡ true = (e.nothing none).0 in absurd (cc))
    (λ told. subst (λ (k : ErrorKind). FailsToKeep old (length_after h) k new) kind (e.err.1 told)) got
