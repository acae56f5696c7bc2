use Rattle.std.proofs.Common.{◌≡◌, drop, map}
use Rattle.perf_file.specs.NoteViews.{note_of}
use Rattle.perf_file.specs.Pipes.{each_of, noted_attribute}
use Rattle.perf_sections.proofs.InTurn.{with_front}
use Rattle.perf_file.proofs.piped.noted_attributes.Given as goal

abbrev pub invariant-loop-index : goal.invariant-loop-index
invariant-loop-index l = with_front l.found.items (each_of (noted_attribute l.order) l.index (map note_of (drop l.index l.notes))) ≡ each_of (noted_attribute l.order) 0 (map note_of l.notes)
