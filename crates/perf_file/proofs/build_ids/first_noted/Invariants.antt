use Rattle.std.proofs.Common.{◌≡◌, drop, map}
use Rattle.perf_base.specs.Dynamic.{order_of}
use Rattle.perf_file.specs.BuildIds.{noted_builds}
use Rattle.perf_file.specs.NoteViews.{note_of}
use Rattle.perf_file.proofs.build_ids.first_noted.Given as goal

abbrev pub invariant-loop-index : goal.invariant-loop-index
invariant-loop-index l = noted_builds (order_of l.order) (map note_of (drop l.index l.notes)) ≡ noted_builds (order_of l.order) (map note_of l.notes)
