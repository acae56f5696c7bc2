use Rattle.std.proofs.Common.{◌≡◌, List, ℕ, ap, sym, subst, refl, ◌∙◌, drop}
use Rattle.std.specs.Prelude.{IsTrue}
use Rattle.perf_base.specs.Order.{little}
use Rattle.perf_parser.specs.ReaderState.{parser_buffer, parser_state}
use Rattle.perf_reader.specs.ReaderState.{ReaderState}
use Rattle.perf_reader.proofs.Calls.{keeps_none}
use Rattle.perf_reports.specs.Counting.{attribute_in}
use Rattle.perf_reports.proofs.Counted.{attribute_read}
use Rattle.perf_reports.proofs.RecordingPrinted.{StandsAfter, if_ok_same, recorded, recorded_part}
use Rattle.perf_reports.proofs.printing.print_buffer.Goals as goal

pub returns-clause-all : goal.returns-clause-all
returns-clause-all g c = λ told.
    let source = g.B.ParseBuf.source in
    let p = c.new-parser in
    let here : IsTrue (source (parser_buffer p.result)).told = subst (λ (b : g.row.B.Denot). IsTrue (source b).told) (sym p.ensures.buf) told in
    let bytes : List ℕ = (source c.args.buf).left in
    let same : (source (parser_buffer p.result)).left ≡ bytes = ap (λ (b : g.row.B.Denot). (source b).left) p.ensures.buf in
    let start : ReaderState = parser_state source (λ o. little) p.result in
    let now : ReaderState = parser_state source (λ o. little) c.in-Ok.parser in
    let a = c.in-Ok.ensures.read here in
    let stands : StandsAfter bytes a.0 now = record {
      attribute = ap (λ xs. attribute_in little xs) (sym same) ∙ attribute_read little start.source.left now.source.left start.reads now.reads a.0 a.1;
      settings = a.3;
      order = refl;
      left = a.2 ∙ ap (drop a.0.size) same;
    } in
    let t = (c.in-Ok.ensures.keeps start (keeps_none start)).buffer.3 here in
    let n = c.new-printer in
    if_ok_same c.print_records-clean.result (λ clean all.
    recorded g.W.Write.contents g.E.Write.contents c.args.report bytes a.0 n.result c.print_records-clean.new.printer now clean
    (g.W.Write.contents c.args.output) (g.W.Write.contents c.into_outputs-output.result.0) (g.E.Write.contents c.args.errors) (g.E.Write.contents c.into_outputs-output.result.1) stands n.ensures.lines n.ensures.report n.ensures.clean
    (ap g.W.Write.contents n.ensures.outputs.0) (ap g.W.Write.contents (sym c.into_outputs-output.ensures.output))
    (ap g.E.Write.contents n.ensures.outputs.1) (ap g.E.Write.contents (sym c.into_outputs-output.ensures.errors)) all)
    (c.print_records-clean.ensures.all t)

pub returns-clause-part : goal.returns-clause-part
returns-clause-part g c = λ told.
    let source = g.B.ParseBuf.source in
    let p = c.new-parser in
    let here : IsTrue (source (parser_buffer p.result)).told = subst (λ (b : g.row.B.Denot). IsTrue (source b).told) (sym p.ensures.buf) told in
    let bytes : List ℕ = (source c.args.buf).left in
    let same : (source (parser_buffer p.result)).left ≡ bytes = ap (λ (b : g.row.B.Denot). (source b).left) p.ensures.buf in
    let start : ReaderState = parser_state source (λ o. little) p.result in
    let now : ReaderState = parser_state source (λ o. little) c.in-Ok.parser in
    let a = c.in-Ok.ensures.read here in
    let stands : StandsAfter bytes a.0 now = record {
      attribute = ap (λ xs. attribute_in little xs) (sym same) ∙ attribute_read little start.source.left now.source.left start.reads now.reads a.0 a.1;
      settings = a.3;
      order = refl;
      left = a.2 ∙ ap (drop a.0.size) same;
    } in
    let t = (c.in-Ok.ensures.keeps start (keeps_none start)).buffer.3 here in
    let n = c.new-printer in
    recorded_part g.W.Write.contents g.E.Write.contents c.args.report bytes a.0 n.result c.print_records-clean.new.printer now
    (g.W.Write.contents c.args.output) (g.W.Write.contents c.into_outputs-output.result.0) stands n.ensures.lines n.ensures.report
    (ap g.W.Write.contents n.ensures.outputs.0) (ap g.W.Write.contents (sym c.into_outputs-output.ensures.output)) (c.print_records-clean.ensures.part t)
