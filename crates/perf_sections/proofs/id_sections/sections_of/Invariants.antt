use Rattle.std.proofs.Common.{◌≡◌, take}
use Rattle.perf_sections.specs.IdSections.{sections_of}
use Rattle.perf_sections.proofs.id_sections.sections_of.Given as goal

abbrev pub invariant-loop-section : goal.invariant-loop-section
invariant-loop-section l = l.sections.items ≡ sections_of l.fn.head (take l.section-index l.ids)
