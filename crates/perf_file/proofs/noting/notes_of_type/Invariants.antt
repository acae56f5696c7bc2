use Rattle.std.proofs.Common.{◌≡◌, ◌++◌, drop, map}
use Rattle.std.specs.List.{filter}
use Rattle.perf_file.specs.NoteViews.{note_of}
use Rattle.perf_file.specs.Pipes.{is_of}
use Rattle.perf_file.proofs.noting.notes_of_type.Given as goal

abbrev pub invariant-loop-note : goal.invariant-loop-note
invariant-loop-note l = map note_of l.found.items ++ filter (is_of l.ty) (map note_of (drop l.note-index l.notes)) ≡ filter (is_of l.ty) (map note_of l.notes)
