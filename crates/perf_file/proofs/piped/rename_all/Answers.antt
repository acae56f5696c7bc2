use Rattle.std.proofs.Common.{◌+◌, List, drop, map, get_or, ap, sym, ◌∙◌, arith}
use Rattle.perf_base.specs.Dynamic.{order_of}
use Rattle.perf_sections.specs.Names.{name_view}
use Rattle.perf_file.specs.NoteViews.{note_of}
use Rattle.perf_file.specs.Pipes.{FrameNote, last_name, named_by}
use Rattle.perf_file.proofs.EachNote.{here, none_left}
use Rattle.perf_file.proofs.NewNames.{as_many}
use Rattle.perf_file.proofs.piped.rename_all.Goals as goal

pub loop-index-preserved : goal.loop-index-preserved
loop-index-preserved c =
    let o = order_of c.args.order in
    let t = c.args.table.now in
    let i = c.loop-index.index in
    let old = c.loop-index.events in
    let x = c.index-notes-index.result in
    let first = c.args.events.now in
    let rest : List FrameNote = map note_of (drop (i + 1) c.args.notes.now) in
    record {
      same = c.rename_by.ensures.same ∙ c.loop-index.invariant.same;
      order = λ q all. c.rename_by.ensures.order q (c.loop-index.invariant.order q all);
      named = λ k d lt.
          c.rename_by.ensures.named k d rest (omega (arith, lt, as_many old first c.loop-index.invariant.same))
          ∙ sym (ap (λ (ns : List FrameNote). named_by (last_name o t k ns) (name_view (get_or old k d).name)) (here c.args.notes.now i x c.loop-index-test.true c.index-notes-index.is))
          ∙ c.loop-index.invariant.named k d lt;
    }

pub returns-clause-named : goal.returns-clause-named
returns-clause-named c k d lt =
    let o = order_of c.args.order in
    let t = c.args.table.now in
    sym (ap (λ (ns : List FrameNote). named_by (last_name o t k ns) (name_view (get_or c.loop-index.events k d).name)) (none_left c.args.notes.now c.loop-index.index c.loop-index-test.false))
    ∙ c.loop-index.invariant.named k d lt
