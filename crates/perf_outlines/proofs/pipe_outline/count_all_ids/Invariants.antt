use Rattle.std.proofs.Common.{◌≡◌, ◌+◌, ◌/◌, ◌≤◌, Ok, min, length}
use Rattle.perf_file.specs.NoteViews.{notes_left}
use Rattle.perf_outlines.specs.Outlines.{id_count}
use Rattle.perf_outlines.specs.PipeOutlines.{from_notes, counted_note_ids}
use Rattle.perf_file.specs.Pipes.{all_frames, noted_ids}
use Rattle.perf_outlines.proofs.pipe_outline.count_all_ids.Given as goal

abbrev pub invariant-loop-note : goal.invariant-loop-note
invariant-loop-note l =
    (l.count.events + length (notes_left l.note-iterator) ≤ length l.frames)
    × (l.count.ids ≤ length l.bytes / 8)
    × (from_notes (noted_ids l.order l.bytes) l.count.events (notes_left l.note-iterator) (λ all. Ok (min (l.count.ids + id_count all) (length l.bytes / 8))) ≡ counted_note_ids l.order l.bytes (all_frames l.order l.frames))
