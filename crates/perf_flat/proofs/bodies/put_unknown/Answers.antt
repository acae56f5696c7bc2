use Rattle.std.proofs.Common.{refl, subst}
use Rattle.perf_base.specs.FieldWords.{all_left}
use Rattle.perf_base.specs.Layout.{done}
use Rattle.perf_flat.proofs.CursorRuns.{then_reads, all_read}
use Rattle.perf_flat.proofs.Spans.{one_string}
use Rattle.perf_flat.specs.CursorReads.{IsBodyOf}
use Rattle.perf_records.specs.Bodies.{unread}
use Rattle.perf_records.specs.Records.{unknown_is}
use Rattle.perf_flat.proofs.bodies.put_unknown.Goals as goal

pub returns : goal.returns
returns c = λ settings o ty.
    let start = c.new-cursor in
    let all = c.all_left-all.ensures o in
    c.finish.ensures settings o (unread ty) (unknown_is ty all.value) c.args.body.now (record {
      start = start.result;
      whole = start.ensures.bytes;
      front = start.ensures.at;
      fresh = start.ensures.refusal;
      reads = then_reads all_left (λ xs. done (unknown_is ty xs)) all.reads all_read;
      words = λ ok. refl;
      there = λ ok frame is. one_string frame c.all_left-all.result all.value (all.holds ok frame (subst (IsBodyOf frame) all.reads.bytes is));
      ids = λ own. refl;
    })
