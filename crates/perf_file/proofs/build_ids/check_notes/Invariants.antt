use Rattle.std.proofs.Common.{◌≡◌, drop, map}
use Rattle.std.specs.List.{list_any}
use Rattle.perf_file.specs.BuildIds.{is_cut}
use Rattle.perf_file.specs.NoteViews.{note_of}
use Rattle.perf_file.proofs.build_ids.check_notes.Given as goal

abbrev pub invariant-loop-note : goal.invariant-loop-note
invariant-loop-note l = list_any is_cut (map note_of (drop l.note-index l.notes)) ≡ list_any is_cut (map note_of l.notes)
