use Rattle.std.proofs.Common.{◌≡◌, ◌+◌, ◌++◌, ◌∷◌, [], List, Bool, Vec, Global, map, drop, ap, sym, subst, ◌∙◌}
use Rattle.std.specs.List.{filter}
use Rattle.std.proofs.lemmas.Bool.{eq-eqb}
use Rattle.perf_file.specs.NoteViews.{note_of}
use Rattle.perf_file.specs.Pipes.{FrameNote, is_of}
use Rattle.perf_file.specs.declared.note_frames.Note.{Note}
use Rattle.perf_file.proofs.EachNote.{none_yet, one_more, no_more, all_found, other_type}
use Rattle.perf_file.proofs.noting.notes_of_type.Goals as goal
use Rattle.perf_file.proofs.noting.notes_of_type.Goals.{then-note-ty+in_ok-push, else-note-ty}

pub loop-note-init : goal.loop-note-init
loop-note-init c = none_yet (is_of c.args.ty) c.new-found.result.items c.args.notes.now c.new-found.ensures.items

pub loop-note-preserved : goal.loop-note-preserved
loop-note-preserved c =
    let keep : FrameNote → Bool = is_of c.args.ty in
    let list : List Note = c.args.notes.now in
    let i = c.loop-note.note-index in
    let x = c.note-item.result in
    let total : List FrameNote = filter keep (map note_of list) in
    elim c.if-note-ty.branch [
      | then-note-ty+in_ok-push w ↦
          let items : c.if-note-ty.found.items ≡ c.loop-note.found.items ++ x ∷ [] = ap (λ (v : Vec Note Global). v.items) w.found-is ∙ w.in_ok-push.ensures.items in
          subst (λ (xs : List Note). map note_of xs ++ filter keep (map note_of (drop (i + 1) list)) ≡ total) (sym items)
          (one_more keep c.loop-note.found.items list i x total c.loop-note-test.true c.note-item.is (eq-eqb x.header.type_ c.args.ty w.if-note-ty.true) c.loop-note.invariant)
      | else-note-ty w ↦
          let items : c.if-note-ty.found.items ≡ c.loop-note.found.items = ap (λ (v : Vec Note Global). v.items) w.found-is in
          subst (λ (xs : List Note). map note_of xs ++ filter keep (map note_of (drop (i + 1) list)) ≡ total) (sym items)
          (no_more keep c.loop-note.found.items list i x total c.loop-note-test.true c.note-item.is (other_type x.header.type_ c.args.ty w.if-note-ty.false) c.loop-note.invariant)
    ]

pub returns : goal.returns
returns c = all_found (is_of c.args.ty) c.loop-note.found.items c.args.notes.now c.loop-note.note-index (filter (is_of c.args.ty) (map note_of c.args.notes.now)) c.loop-note-test.false c.loop-note.invariant
