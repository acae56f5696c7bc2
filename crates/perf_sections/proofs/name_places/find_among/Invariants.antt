use Rattle.std.proofs.Common.{◌-◌, ◌≤◌, ℕ, drop, length}
use Rattle.perf_base.specs.Dynamic.{order_of}
use Rattle.perf_sections.specs.Descriptions.{first_name, descriptions}
use Rattle.perf_sections.specs.NamePlaces.{Rises, HasRank}
use Rattle.perf_sections.specs.declared.descriptions.EventKey.{EventKey}
use Rattle.perf_sections.proofs.NamePlacing.{AreLeft}
use Rattle.perf_sections.proofs.name_places.find_among.Given as goal

abbrev pub invariant-loop-index : goal.invariant-loop-index
invariant-loop-index l = record {
  inside : l.at ≤ length l.bytes;
  sorted : Rises l.names;
  kept : (r : ℕ) → HasRank l.initial.names r → HasRank l.names r;
  left : AreLeft l.bytes l.names (descriptions (order_of l.order) l.size (l.count - l._index) (drop l.at l.bytes)) (λ (key : EventKey). first_name key (descriptions (order_of l.order) l.size l.count (drop 8 l.bytes)));
}
