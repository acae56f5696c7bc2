use Rattle.std.proofs.Common.{◌≡◌, ◌∷◌, List, All, drop, get_or, refl, ap, sym, subst, ◌∙◌, arith}
use Rattle.std.proofs.lemmas.List.Elements.{All-head, All-tail}
use Rattle.perf_base.specs.Dynamic.{order_of}
use Rattle.perf_outlines.specs.NotePlaces.{IsPlaced}
use Rattle.perf_file.specs.NoteViews.{note_of, notes_left}
use Rattle.perf_file.specs.Pipes.{FrameNote, named_by, last_name, all_frames}
use Rattle.perf_outlines.proofs.NotePlacing.{all_placed}
use Rattle.perf_outlines.specs.FlatNames.{flat_name}
use Rattle.perf_outlines.proofs.file_names.rename_all.Goals as goal

pub loop-note-init : goal.loop-note-init
loop-note-init c =
    let o = order_of c.args.order in
    let bytes = c.args.bytes.now in
    let same : notes_left c.into_iter-note-iterator.result ≡ all_frames c.args.order (drop 16 bytes) = ap notes_left c.into_iter-note-iterator.ensures.into_iter_gives ∙ c.frames_of-note-items.ensures ∙ ap (all_frames c.args.order) c.split_at.ensures.back in
    record {
      same = refl;
      placed = subst (All (IsPlaced bytes)) (sym same) (all_placed c.args.order bytes c.requires);
      named = λ rises k d lt. ap (λ (ns : List FrameNote). named_by (last_name o c.args.ids.now k ns) (flat_name bytes (get_or c.args.all.now k d))) same;
    }

pub loop-note-preserved : goal.loop-note-preserved
loop-note-preserved c =
    let o = order_of c.args.order in
    let bytes = c.args.bytes.now in
    let x = note_of c.in-Some.note in
    let rest : List FrameNote = notes_left c.next.new.self in
    let steps : notes_left c.loop-note.note-iterator ≡ x ∷ rest = c.in-Some.ensures.steps in
    let placed = subst (All (IsPlaced bytes)) steps c.loop-note.invariant.placed in
    record {
      same = c.rename_by.ensures.same ∙ c.loop-note.invariant.same;
      placed = All-tail (IsPlaced bytes) x rest placed;
      named = λ rises k d lt.
          c.rename_by.ensures.named rises bytes (All-head (IsPlaced bytes) x rest placed) k d rest (omega (arith, lt, c.loop-note.auto.all))
          ∙ sym (ap (λ (ns : List FrameNote). named_by (last_name o c.args.ids.now k ns) (flat_name bytes (get_or c.loop-note.all k d))) steps)
          ∙ c.loop-note.invariant.named rises k d lt;
    }

pub returns-clause-same : goal.returns-clause-same
returns-clause-same c = c.loop-note.invariant.same

pub returns-clause-named : goal.returns-clause-named
returns-clause-named c rises k d lt =
    sym (ap (λ (ns : List FrameNote). named_by (last_name (order_of c.args.order) c.args.ids.now k ns) (flat_name c.args.bytes.now (get_or c.loop-note.all k d))) c.in-None.ensures.steps.0)
    ∙ c.loop-note.invariant.named rises k d lt
