use Rattle.std.proofs.Common.{◌≡◌, ◌∷◌, List, All, drop, ap, sym, subst, ◌∙◌}
use Rattle.std.specs.Prelude.{option_map}
use Rattle.std.proofs.lemmas.List.Elements.{All-tail}
use Rattle.perf_base.specs.Dynamic.{order_of}
use Rattle.perf_outlines.specs.NotePlaces.{IsPlaced, bytes_of}
use Rattle.perf_file.specs.NoteViews.{note_of, notes_left}
use Rattle.perf_file.specs.Pipes.{FrameNote, all_frames, noted_feature, own_feature, newer}
use Rattle.perf_file.proofs.Noted.{newer_older, newer_none}
use Rattle.perf_outlines.proofs.NotePlacing.{all_placed}
use Rattle.perf_outlines.proofs.feature_places.noted_section.Goals as goal

pub loop-note-init : goal.loop-note-init
loop-note-init c =
    let o = order_of c.args.order in
    let bytes = c.args.bytes.now in
    let same : notes_left c.into_iter-note-iterator.result ≡ all_frames c.args.order (drop 16 bytes) = ap notes_left c.into_iter-note-iterator.ensures.into_iter_gives ∙ c.frames_of-note-items.ensures ∙ ap (all_frames c.args.order) c.split_at.ensures.back in (
      subst (All (IsPlaced bytes)) (sym same) (all_placed c.args.order bytes c.requires),
      tt,
      newer_none (noted_feature o c.args.feature (notes_left c.into_iter-note-iterator.result)) ∙ ap (noted_feature o c.args.feature) same,
    )

pub loop-note-preserved : goal.loop-note-preserved
loop-note-preserved c =
    let o = order_of c.args.order in
    let f = c.args.feature in
    let bytes = c.args.bytes.now in
    let x = note_of c.in-Some.note in
    let rest : List FrameNote = notes_left c.next.new.self in
    let steps : notes_left c.loop-note.note-iterator ≡ x ∷ rest = c.in-Some.ensures.steps in
    let placed = subst (All (IsPlaced bytes)) steps c.loop-note.invariant.0 in
    let old = option_map (bytes_of bytes) c.loop-note.found in (
      All-tail (IsPlaced bytes) x rest placed,
      c.newer-found.ensures.inside c.own_section.ensures.inside c.loop-note.invariant.1,
      ap (λ v. newer (noted_feature o f rest) v) (c.newer-found.ensures.value ∙ ap (λ v. newer v old) c.own_section.ensures.value)
          ∙ sym (newer_older (noted_feature o f rest) (own_feature o f x) old)
          ∙ sym (ap (λ (ns : List FrameNote). newer (noted_feature o f ns) old) steps)
          ∙ c.loop-note.invariant.2,
    )
