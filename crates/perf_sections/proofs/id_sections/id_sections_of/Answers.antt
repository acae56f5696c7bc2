use Rattle.std.proofs.Common.{sym}
use Rattle.std.proofs.lemmas.Result.{err_from_is_err_and}
use Rattle.std.proofs.lemmas.List.Elements.{All-push}
use Rattle.perf_sections.specs.Sections.{IsInside}
use Rattle.perf_sections.specs.IdSections.{id_section_at, id_sections_in, entry_count}
use Rattle.perf_sections.proofs.InTurn.{goes_on, ends, is_done, fails}
use Rattle.perf_sections.proofs.id_sections.id_sections_of.Goals as goal

pub returns-in_err-ids-clause-exact : goal.returns-in_err-ids-clause-exact
returns-in_err-ids-clause-exact c =
    let p = err_from_is_err_and c.from_residual.result c.from_residual.ensures.1 in
    rw (p.1, p.2) (fails c.in_err-ids.field-0.0 (id_sections_in c.args.bytes.now c.args.head) (ends (id_section_at c.args.bytes.now c.args.head) c.loop-index.found.items (entry_count c.args.head) c.loop-index.index c.in_err-ids.field-0.0 (id_sections_in c.args.bytes.now c.args.head) c.loop-index-test.true (sym c.in_err-ids.ensures.value) c.loop-index.invariant.1))

pub loop-index-preserved : goal.loop-index-preserved
loop-index-preserved c = (
  rw c.in_ok-push.ensures.items (All-push (IsInside c.args.bytes.now) _ _ c.loop-index.invariant.0 c.in_ok-ids.ensures.inside),
  rw c.in_ok-push.ensures.items (goes_on (id_section_at c.args.bytes.now c.args.head) c.loop-index.found.items (entry_count c.args.head) c.loop-index.index c.in_ok-ids.ids (id_sections_in c.args.bytes.now c.args.head) c.loop-index-test.true (sym c.in_ok-ids.ensures.value) c.loop-index.invariant.1),
)

pub returns-clause-exact : goal.returns-clause-exact
returns-clause-exact c = is_done (id_section_at c.args.bytes.now c.args.head) c.loop-index.found.items (entry_count c.args.head) c.loop-index.index (id_sections_in c.args.bytes.now c.args.head) c.loop-index-test.false c.loop-index.invariant.1
