use Rattle.std.proofs.Common.{◌≡◌, ◌-◌, ◌+◌, ◌++◌, Ok, All, take}
use Rattle.perf_sections.specs.IdSections.{id_section_at, entry_count}
use Rattle.perf_sections.specs.Opens.{◌>>=◌, each_from}
use Rattle.perf_outlines.specs.Outlines.{parts_in}
use Rattle.perf_sections.specs.Sections.{IsInside}
use Rattle.perf_outlines.proofs.parts.fill_parts.Given as goal

abbrev pub invariant-loop-index : goal.invariant-loop-index
invariant-loop-index l = All (IsInside l.bytes) (take (3 + l.index) l.parts)
    × ((each_from (id_section_at l.bytes l.head) l.index (entry_count l.head - l.index) >>= λ ids. Ok (take (3 + l.index) l.parts ++ ids)) ≡ parts_in l.bytes l.head)
