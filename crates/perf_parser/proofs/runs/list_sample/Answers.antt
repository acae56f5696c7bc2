use Rattle.perf_base.specs.Refusals.{refusal_kind}
use Rattle.perf_records.specs.declared.record.Record.TheVariants as record_of
use Rattle.perf_records.proofs.Shown.{boxed_call, unboxed_call}
use Rattle.perf_parser.proofs.ListedAnswers.{lists_record, lists_rest}
use Rattle.perf_parser.proofs.runs.list_sample.Goals as goal

pub returns-in-Ok : goal.returns-in-Ok
returns-in-Ok g c =
    let e = c.in-Ok.ensures in
    lists_record g.B.ParseBuf.source g.B.ParseBuf.hint g.E.Endian.order c.args.header c.args.reader.now c.read_after.new.reader c.args.frames.now.items c.list_boxed.new.frames.items e.within
    (record_of.Sample c.in-Ok.sample) (λ lacks. (e.short lacks).1) c.list_boxed.ensures (λ whole. let b = e.event in b.1.1 (b.4 whole)) (boxed_call c.args.header c.in-Ok.sample e.call)

pub returns-in-Err : goal.returns-in-Err
returns-in-Err g c =
    let e = c.in-Err.ensures in let after = c.list_refused.ensures in
    lists_rest g.B.ParseBuf.source g.B.ParseBuf.hint g.E.Endian.order c.args.header c.args.reader.now c.read_after.new.reader c.args.frames.now.items c.list_refused.new.frames.items e.within
    c.list_refused.new.reader c.in-Err.refusal (unboxed_call c.args.header (refusal_kind c.in-Err.refusal) e.call) after.buf after.config after.reads c.list_refused.result after.listed after.stops after.kept e.spent
