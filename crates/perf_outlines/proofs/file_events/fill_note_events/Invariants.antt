use Rattle.std.proofs.Common.{◌≡◌, ◌+◌, ◌++◌, Ok, map, length, take, drop, zip}
use Rattle.std.specs.List.{filter}
use Rattle.perf_file.specs.NoteViews.{notes_left}
use Rattle.perf_outlines.specs.PipeOutlines.{from_notes}
use Rattle.perf_file.specs.Pipes.{is_of, all_frames, noted_attribute}
use Rattle.perf_outlines.specs.FileEvents.{flat_event, note_events}
use Rattle.perf_outlines.proofs.file_events.fill_note_events.Given as goal

abbrev pub invariant-loop-note : goal.invariant-loop-note
invariant-loop-note l =
    (l.index + length (filter (is_of 64) (notes_left l.note-iterator)) ≡ length l.all)
    × (from_notes (noted_attribute l.order) l.index (notes_left l.note-iterator) (λ ats. Ok (take l.index l.all ++ map (flat_event l.order) (zip ats (drop l.index l.sections)))) ≡ note_events l.order (all_frames l.order l.frames) l.sections)
