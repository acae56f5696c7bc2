use Rattle.std.proofs.Common.{◌≡◌, All, drop}
use Rattle.std.specs.Prelude.{option_map, IfSome}
use Rattle.perf_base.specs.Dynamic.{order_of}
use Rattle.perf_outlines.specs.NotePlaces.{IsPlaced, bytes_of}
use Rattle.perf_file.specs.NoteViews.{notes_left}
use Rattle.perf_file.specs.Pipes.{all_frames, noted_feature, newer}
use Rattle.perf_sections.specs.Sections.{IsInside}
use Rattle.perf_outlines.proofs.feature_places.noted_section.Given as goal

abbrev pub invariant-loop-note : goal.invariant-loop-note
invariant-loop-note l =
    All (IsPlaced l.bytes) (notes_left l.note-iterator)
    × IfSome l.found (IsInside l.bytes)
    × (newer (noted_feature (order_of l.order) l.feature (notes_left l.note-iterator)) (option_map (bytes_of l.bytes) l.found) ≡ noted_feature (order_of l.order) l.feature (all_frames l.order (drop 16 l.bytes)))
