use Rattle.std.proofs.Common.{map, sym}
use Rattle.std.proofs.lemmas.Result.{err_from_is_err_and}
use Rattle.perf_file.specs.NoteViews.{note_of}
use Rattle.perf_file.specs.Pipes.{each_of, noted_attribute}
use Rattle.perf_file.proofs.EachNote.{goes_on, ends, is_done}
use Rattle.perf_sections.proofs.InTurn.{fails}
use Rattle.perf_file.proofs.piped.noted_attributes.Goals as goal

pub returns-in_err-attr : goal.returns-in_err-attr
returns-in_err-attr c =
    let p = err_from_is_err_and c.from_residual.result c.from_residual.ensures.1 in
    let total = each_of (noted_attribute c.args.order) 0 (map note_of c.args.notes.now) in
    rw (p.1, p.2) (fails c.in_err-attr.field-0.0 total (ends (noted_attribute c.args.order) c.loop-index.found.items c.args.notes.now c.loop-index.index c.index-notes-index.result c.in_err-attr.field-0.0 total c.loop-index-test.true c.index-notes-index.is (sym c.in_err-attr.ensures) c.loop-index.invariant))

pub loop-index-preserved : goal.loop-index-preserved
loop-index-preserved c =
    let total = each_of (noted_attribute c.args.order) 0 (map note_of c.args.notes.now) in
    rw c.in_ok-push.ensures.items (goes_on (noted_attribute c.args.order) c.loop-index.found.items c.args.notes.now c.loop-index.index c.index-notes-index.result c.in_ok-attr.attr total c.loop-index-test.true c.index-notes-index.is (sym c.in_ok-attr.ensures) c.loop-index.invariant)

pub returns : goal.returns
returns c = is_done (noted_attribute c.args.order) c.loop-index.found.items c.args.notes.now c.loop-index.index (each_of (noted_attribute c.args.order) 0 (map note_of c.args.notes.now)) c.loop-index-test.false c.loop-index.invariant
