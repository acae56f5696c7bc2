use Rattle.std.proofs.Common.{◌≡◌, ◌+◌, ◌≤◌, Ok, length}
use Rattle.perf_file.specs.NoteViews.{notes_left}
use Rattle.perf_outlines.specs.PipeOutlines.{from_notes, counted_attributes}
use Rattle.perf_file.specs.Pipes.{all_frames, noted_attribute}
use Rattle.perf_outlines.proofs.pipe_outline.count_attributes.Given as goal

abbrev pub invariant-loop-note : goal.invariant-loop-note
invariant-loop-note l =
    (l.count + length (notes_left l.note-iterator) ≤ length l.frames)
    × (from_notes (noted_attribute l.order) l.count (notes_left l.note-iterator) (λ all. Ok (l.count + length all)) ≡ counted_attributes l.order (all_frames l.order l.frames))
