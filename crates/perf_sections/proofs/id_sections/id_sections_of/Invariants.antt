use Rattle.std.proofs.Common.{◌≡◌, ◌-◌, All}
use Rattle.perf_sections.specs.Sections.{IsInside}
use Rattle.perf_sections.specs.IdSections.{id_section_at, id_sections_in, entry_count}
use Rattle.perf_sections.specs.Opens.{each_from}
use Rattle.perf_sections.proofs.InTurn.{with_front}
use Rattle.perf_sections.proofs.id_sections.id_sections_of.Given as goal

abbrev pub invariant-loop-index : goal.invariant-loop-index
invariant-loop-index l = All (IsInside l.bytes) l.found.items
    × (with_front l.found.items (each_from (id_section_at l.bytes l.head) l.index (entry_count l.head - l.index)) ≡ id_sections_in l.bytes l.head)
