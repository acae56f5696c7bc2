use Rattle.std.proofs.Common.{◌≡◌}
use Rattle.std.specs.List.{list_any}
use Rattle.perf_file.specs.NoteViews.{notes_left}
use Rattle.perf_file.specs.Pipes.{is_compressed, all_frames}
use Rattle.perf_outlines.proofs.pipe_outline.check_frames.Given as goal

abbrev pub invariant-loop-note : goal.invariant-loop-note
invariant-loop-note l = list_any is_compressed (notes_left l.note-iterator) ≡ list_any is_compressed (all_frames l.fn.order l.frames)
