use Rattle.std.proofs.Common.{map, sym}
use Rattle.std.proofs.lemmas.Result.{err_from_is_err_and}
use Rattle.std.proofs.lemmas.List.Elements.{All-push}
use Rattle.perf_file.specs.NoteViews.{note_of}
use Rattle.perf_file.specs.Pipes.{each_of, noted_ids}
use Rattle.perf_sections.specs.Sections.{IsInside}
use Rattle.perf_file.proofs.EachNote.{goes_on, ends, is_done}
use Rattle.perf_sections.proofs.InTurn.{fails}
use Rattle.perf_file.proofs.piped.noted_sections.Goals as goal

pub returns-in_err-ids-clause-exact : goal.returns-in_err-ids-clause-exact
returns-in_err-ids-clause-exact c =
    let p = err_from_is_err_and c.from_residual.result c.from_residual.ensures.1 in
    let item = noted_ids c.args.order c.args.bytes.now in
    let total = each_of item 0 (map note_of c.args.notes.now) in
    rw (p.1, p.2) (fails c.in_err-ids.field-0.0 total (ends item c.loop-index.found.items c.args.notes.now c.loop-index.index c.index-notes-index.result c.in_err-ids.field-0.0 total c.loop-index-test.true c.index-notes-index.is (sym c.in_err-ids.ensures.value) c.loop-index.invariant.1))

pub loop-index-preserved : goal.loop-index-preserved
loop-index-preserved c =
    let item = noted_ids c.args.order c.args.bytes.now in
    let total = each_of item 0 (map note_of c.args.notes.now) in (
      rw c.in_ok-push.ensures.items (All-push (IsInside c.args.bytes.now) _ _ c.loop-index.invariant.0 c.in_ok-ids.ensures.inside),
      rw c.in_ok-push.ensures.items (goes_on item c.loop-index.found.items c.args.notes.now c.loop-index.index c.index-notes-index.result c.in_ok-ids.ids total c.loop-index-test.true c.index-notes-index.is (sym c.in_ok-ids.ensures.value) c.loop-index.invariant.1),
    )

pub returns-clause-exact : goal.returns-clause-exact
returns-clause-exact c = is_done (noted_ids c.args.order c.args.bytes.now) c.loop-index.found.items c.args.notes.now c.loop-index.index (each_of (noted_ids c.args.order c.args.bytes.now) 0 (map note_of c.args.notes.now)) c.loop-index-test.false c.loop-index.invariant.1
