use Rattle.std.proofs.Common.{Ok, sym, ◌∙◌}
use Rattle.std.proofs.lemmas.Result.{err_from_is_err_and}
use Rattle.perf_sections.specs.Attributes.{attribute_at}
use Rattle.perf_sections.specs.IdSections.{entry_count}
use Rattle.perf_outlines.proofs.Stepping.{step, stop, over}
use Rattle.perf_outlines.proofs.summary.check_attributes.Goals as goal

pub returns-in_err-attribute_at : goal.returns-in_err-attribute_at
returns-in_err-attribute_at c =
    let p = err_from_is_err_and c.from_residual.result c.from_residual.ensures.1 in
    rw (p.1, p.2) (sym (sym c.loop-index.invariant ∙ stop (attribute_at c.args.bytes.now c.args.head) (entry_count c.args.head) c.loop-index.index c.in_err-attribute_at.field-0.0 (λ all. Ok tt) c.loop-index-test.true (sym c.in_err-attribute_at.ensures)))

pub loop-index-preserved : goal.loop-index-preserved
loop-index-preserved c =
    sym (step (attribute_at c.args.bytes.now c.args.head) (entry_count c.args.head) c.loop-index.index c.in_ok-attribute_at.field-0 (λ all. Ok tt) c.loop-index-test.true (sym c.in_ok-attribute_at.ensures)) ∙ c.loop-index.invariant

pub returns : goal.returns
returns c = sym (over (attribute_at c.args.bytes.now c.args.head) (entry_count c.args.head) c.loop-index.index (λ all. Ok tt) c.loop-index-test.false) ∙ c.loop-index.invariant
