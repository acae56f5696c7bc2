use Rattle.std.proofs.Common.{◌+◌, get_or, sym, subst, arith}
use Rattle.std.proofs.lemmas.List.{get_or_default}
use Rattle.perf_sections.specs.declared.section.Section.{Section}
use Rattle.perf_sections.proofs.Sweeping.{Swept, swept_stops, swept_some, swept_empty, swept_all, nothing_is_apart}
use Rattle.perf_sections.proofs.apart.sorted_are_apart.Goals as goal
use Rattle.perf_sections.proofs.apart.sorted_are_apart.Goals.{then-section-gt0+else-section-reach, else-section-gt0}

abbrev zero_section : Section
zero_section = record { start = 0; size = 0 }

pub returns-then-section-reach-clause-value : goal.returns-then-section-reach-clause-value
returns-then-section-reach-clause-value c =
    sym (swept_stops c.args.sections.now c.loop-section.section-index c.loop-section.reach (get_or c.args.sections.now c.loop-section.section-index zero_section) c.requires.sorted c.loop-section-test.true (get_or_default c.args.sections.now c.loop-section.section-index zero_section (get_or c.args.sections.now c.loop-section.section-index zero_section) c.loop-section-test.true) c.if-section-gt0.true c.if-section-reach.true c.loop-section.invariant)

pub loop-section-preserved : goal.loop-section-preserved
loop-section-preserved c =
    elim c.if-section-gt0.branch [
      | then-section-gt0+else-section-reach w ↦ subst (Swept c.args.sections.now (c.loop-section.section-index + 1)) (sym w.reach-is)
          (swept_some c.args.sections.now c.loop-section.section-index c.loop-section.reach (get_or c.args.sections.now c.loop-section.section-index zero_section) c.loop-section-test.true (get_or_default c.args.sections.now c.loop-section.section-index zero_section (get_or c.args.sections.now c.loop-section.section-index zero_section) c.loop-section-test.true) w.if-section-reach.false c.loop-section.invariant)
      | else-section-gt0 w ↦ subst (Swept c.args.sections.now (c.loop-section.section-index + 1)) (sym w.reach-is)
          (swept_empty c.args.sections.now c.loop-section.section-index c.loop-section.reach (get_or c.args.sections.now c.loop-section.section-index zero_section) c.loop-section-test.true (get_or_default c.args.sections.now c.loop-section.section-index zero_section (get_or c.args.sections.now c.loop-section.section-index zero_section) c.loop-section-test.true) (omega (arith, w.if-section-gt0.false)) c.loop-section.invariant)
    ]

pub returns-clause-value : goal.returns-clause-value
returns-clause-value c = sym (nothing_is_apart c.args.sections.now (swept_all c.args.sections.now c.loop-section.section-index c.loop-section.reach c.loop-section-test.false c.loop-section.invariant))

pub returns-clause-nothing : goal.returns-clause-nothing
returns-clause-nothing c = swept_all c.args.sections.now c.loop-section.section-index c.loop-section.reach c.loop-section-test.false c.loop-section.invariant
