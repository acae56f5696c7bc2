use Rattle.std.proofs.Common.{◌≡◌, ◌-◌, Ok}
use Rattle.perf_sections.specs.Attributes.{attribute_at}
use Rattle.perf_sections.specs.IdSections.{entry_count}
use Rattle.perf_sections.specs.Opens.{◌>>=◌, each_from}
use Rattle.perf_outlines.specs.Outlines.{checked_attributes}
use Rattle.perf_outlines.proofs.summary.check_attributes.Given as goal

abbrev pub invariant-loop-index : goal.invariant-loop-index
invariant-loop-index l = (each_from (attribute_at l.bytes l.head) l.index (entry_count l.head - l.index) >>= λ all. Ok tt) ≡ checked_attributes l.bytes l.head
