use Rattle.perf_records.proofs.VisitedRecords.{body_borrows}
use Rattle.perf_records.proofs.Shown.{transition_call}
use Rattle.perf_parser.proofs.ListedAnswers.{lists_record, lists_rest}
use Rattle.perf_parser.proofs.runs.list_answer.Goals as goal

pub returns-in-Ok : goal.returns-in-Ok
returns-in-Ok g c =
    let e = c.in-Ok.ensures in
    lists_record g.B.ParseBuf.source g.B.ParseBuf.hint g.E.Endian.order c.args.header c.args.reader.now c.read_after.new.reader c.args.frames.now.items c.list_record.new.frames.items e.within
    c.in-Ok.record (λ lacks. (e.short lacks).1) c.list_record.ensures (λ whole. body_borrows c.args.header (g.B.ParseBuf.source c.args.reader.now.input.buf).whole c.in-Ok.record e.event whole) (transition_call c.args.header e.call)

pub returns-in-Err : goal.returns-in-Err
returns-in-Err g c =
    let e = c.in-Err.ensures in let after = c.list_refused.ensures in
    lists_rest g.B.ParseBuf.source g.B.ParseBuf.hint g.E.Endian.order c.args.header c.args.reader.now c.read_after.new.reader c.args.frames.now.items c.list_refused.new.frames.items e.within
    c.list_refused.new.reader c.in-Err.refusal (transition_call c.args.header e.call) after.buf after.config after.reads c.list_refused.result after.listed after.stops after.kept e.spent
