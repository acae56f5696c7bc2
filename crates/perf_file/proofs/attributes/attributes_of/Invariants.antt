use Rattle.std.proofs.Common.{◌≡◌, ◌-◌}
use Rattle.perf_sections.specs.Attributes.{attribute_at, attributes_in}
use Rattle.perf_sections.specs.IdSections.{entry_count}
use Rattle.perf_sections.specs.Opens.{each_from}
use Rattle.perf_sections.proofs.InTurn.{with_front}
use Rattle.perf_file.proofs.attributes.attributes_of.Given as goal

abbrev pub invariant-loop-index : goal.invariant-loop-index
invariant-loop-index l = with_front l.found.items (each_from (attribute_at l.bytes l.head) l.index (entry_count l.head - l.index)) ≡ attributes_in l.bytes l.head
