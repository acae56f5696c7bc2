use Rattle.std.proofs.Common.{refl}
use Rattle.perf_base.specs.Layout.{done}
use Rattle.perf_flat.proofs.CursorRuns.{all_read}
use Rattle.perf_flat.proofs.Spans.{no_strings}
use Rattle.perf_records.specs.Records.{switch_is}
use Rattle.perf_flat.proofs.bodies.put_switch.Goals as goal

pub returns : goal.returns
returns c = λ settings o.
    let start = c.new in
    c.finish.ensures settings o (done switch_is) switch_is c.args.body.now (record {
      start = start.result;
      whole = start.ensures.bytes;
      front = start.ensures.at;
      fresh = start.ensures.refusal;
      reads = all_read;
      words = λ ok. refl;
      there = λ ok frame is. no_strings frame;
      ids = λ own. refl;
    })
