use Rattle.std.proofs.Common.{◌≡◌, ◌++◌, map}
use Rattle.std.specs.List.{filter, list_any}
use Rattle.perf_file.specs.NoteViews.{note_of, notes_left}
use Rattle.perf_file.specs.Pipes.{is_note, is_compressed, all_frames}
use Rattle.perf_file.proofs.noting.notes_in.Given as goal

abbrev pub invariant-loop-note : goal.invariant-loop-note
invariant-loop-note l = (map note_of l.found.items ++ filter is_note (notes_left l.note-iterator) ≡ filter is_note (all_frames l.fn.order l.frames))
    × (list_any is_compressed (notes_left l.note-iterator) ≡ list_any is_compressed (all_frames l.fn.order l.frames))
