use Rattle.perf_sections.proofs.Sweeping.{Swept}
use Rattle.perf_sections.proofs.apart.sorted_are_apart.Given as goal

abbrev pub invariant-loop-section : goal.invariant-loop-section
invariant-loop-section l = Swept l.sections l.section-index l.reach
