use Rattle.std.proofs.Common.{◌≡◌, drop, map}
use Rattle.std.specs.Prelude.{option_map}
use Rattle.perf_base.specs.Dynamic.{order_of}
use Rattle.perf_file.specs.NoteViews.{note_of}
use Rattle.perf_file.specs.Pipes.{noted_feature, newer}
use Rattle.perf_file.proofs.noting.noted_feature.Given as goal

abbrev pub invariant-loop-index : goal.invariant-loop-index
invariant-loop-index l = newer (noted_feature (order_of l.order) l.feature (map note_of (drop l.index l.notes))) (option_map (λ b. b.now) l.found) ≡ noted_feature (order_of l.order) l.feature (map note_of l.notes)
