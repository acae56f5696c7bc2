use Rattle.std.proofs.Common.{◌≡◌, ◌+◌, ◌++◌, Ok, All, length, take}
use Rattle.std.specs.List.{filter}
use Rattle.perf_file.specs.NoteViews.{notes_left}
use Rattle.perf_outlines.specs.PipeOutlines.{from_notes, note_sections}
use Rattle.perf_file.specs.Pipes.{is_of, all_frames, noted_ids}
use Rattle.perf_sections.specs.Sections.{IsInside}
use Rattle.perf_outlines.proofs.pipe_outline.fill_sections.Given as goal

abbrev pub invariant-loop-note : goal.invariant-loop-note
invariant-loop-note l =
    (l.index + length (filter (is_of 64) (notes_left l.note-iterator)) ≡ length l.sections)
    × All (IsInside l.bytes) (take l.index l.sections)
    × (from_notes (noted_ids l.order l.bytes) l.index (notes_left l.note-iterator) (λ all. Ok (take l.index l.sections ++ all)) ≡ note_sections l.order l.bytes (all_frames l.order l.frames))
