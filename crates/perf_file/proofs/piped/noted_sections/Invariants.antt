use Rattle.std.proofs.Common.{◌≡◌, All, drop, map}
use Rattle.perf_file.specs.NoteViews.{note_of}
use Rattle.perf_file.specs.Pipes.{each_of, noted_ids}
use Rattle.perf_sections.specs.Sections.{IsInside}
use Rattle.perf_sections.proofs.InTurn.{with_front}
use Rattle.perf_file.proofs.piped.noted_sections.Given as goal

abbrev pub invariant-loop-index : goal.invariant-loop-index
invariant-loop-index l = All (IsInside l.bytes) l.found.items
    × (with_front l.found.items (each_of (noted_ids l.order l.bytes) l.index (map note_of (drop l.index l.notes))) ≡ each_of (noted_ids l.order l.bytes) 0 (map note_of l.notes))
