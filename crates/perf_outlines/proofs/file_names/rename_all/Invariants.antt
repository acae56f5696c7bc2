use Rattle.std.proofs.Common.{◌≡◌, ◌<◌, ℕ, All, length, map, drop, get_or}
use Rattle.std.specs.List.Sorted.{IsNonDecreasingBy}
use Rattle.perf_base.specs.Dynamic.{order_of}
use Rattle.perf_outlines.specs.NotePlaces.{IsPlaced}
use Rattle.perf_file.specs.NoteViews.{notes_left}
use Rattle.perf_file.specs.Pipes.{named_by, last_name, all_frames}
use Rattle.perf_sections.specs.declared.ids.IdOfEvent.{IdOfEvent}
use Rattle.perf_outlines.specs.FlatNames.{flat_name, nameless}
use Rattle.perf_outlines.specs.declared.file_events.FlatEvent.{FlatEvent}
use Rattle.perf_outlines.proofs.file_names.rename_all.Given as goal

abbrev pub invariant-loop-note : goal.invariant-loop-note
invariant-loop-note l = record {
  same : map nameless l.all ≡ map nameless l.initial.all;
  placed : All (IsPlaced l.bytes) (notes_left l.note-iterator);
  named : IsNonDecreasingBy (λ (e : IdOfEvent). e.id) l.ids → (k : ℕ) (d : FlatEvent) → k < length l.initial.all →
      named_by (last_name (order_of l.order) l.ids k (notes_left l.note-iterator)) (flat_name l.bytes (get_or l.all k d))
      ≡ named_by (last_name (order_of l.order) l.ids k (all_frames l.order (drop 16 l.bytes))) (flat_name l.bytes (get_or l.initial.all k d));
}
