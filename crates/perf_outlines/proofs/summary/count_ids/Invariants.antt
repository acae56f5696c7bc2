use Rattle.std.proofs.Common.{◌≡◌, ◌-◌, ◌+◌, ◌/◌, ◌≤◌, Ok, min, length}
use Rattle.perf_sections.specs.IdSections.{id_section_at, entry_count}
use Rattle.perf_sections.specs.Opens.{◌>>=◌, each_from}
use Rattle.perf_outlines.specs.Outlines.{id_count, counted_ids}
use Rattle.perf_outlines.proofs.summary.count_ids.Given as goal

abbrev pub invariant-loop-index : goal.invariant-loop-index
invariant-loop-index l = (l.total ≤ length l.bytes / 8)
    × ((each_from (id_section_at l.bytes l.head) l.index (entry_count l.head - l.index) >>= λ all. Ok (min (l.total + id_count all) (length l.bytes / 8))) ≡ counted_ids l.bytes l.head)
