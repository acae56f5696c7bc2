use Rattle.std.proofs.Common.{sym}
use Rattle.std.proofs.lemmas.Result.{err_from_is_err_and}
use Rattle.perf_sections.specs.Attributes.{attribute_at, attributes_in}
use Rattle.perf_sections.specs.IdSections.{entry_count}
use Rattle.perf_sections.proofs.InTurn.{goes_on, ends, is_done, fails}
use Rattle.perf_file.proofs.attributes.attributes_of.Goals as goal

pub returns-in_err-attr : goal.returns-in_err-attr
returns-in_err-attr c =
    let p = err_from_is_err_and c.from_residual.result c.from_residual.ensures.1 in
    rw (p.1, p.2) (fails c.in_err-attr.field-0.0 (attributes_in c.args.bytes.now c.args.head) (ends (attribute_at c.args.bytes.now c.args.head) c.loop-index.found.items (entry_count c.args.head) c.loop-index.index c.in_err-attr.field-0.0 (attributes_in c.args.bytes.now c.args.head) c.loop-index-test.true (sym c.in_err-attr.ensures) c.loop-index.invariant))

pub loop-index-preserved : goal.loop-index-preserved
loop-index-preserved c =
    rw c.in_ok-push.ensures.items (goes_on (attribute_at c.args.bytes.now c.args.head) c.loop-index.found.items (entry_count c.args.head) c.loop-index.index c.in_ok-attr.attr (attributes_in c.args.bytes.now c.args.head) c.loop-index-test.true (sym c.in_ok-attr.ensures) c.loop-index.invariant)

pub returns : goal.returns
returns c = is_done (attribute_at c.args.bytes.now c.args.head) c.loop-index.found.items (entry_count c.args.head) c.loop-index.index (attributes_in c.args.bytes.now c.args.head) c.loop-index-test.false c.loop-index.invariant
