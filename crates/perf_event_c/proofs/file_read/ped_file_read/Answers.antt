use Rattle.std.proofs.Common.{◌<◌, length, arith}
use Rattle.perf_outlines.proofs.ReadLaws.{entries_more, rest_more}
use Rattle.perf_event_c.proofs.file_read.ped_file_read.Goals as goal

pub loop-index-preserved : goal.loop-index-preserved
loop-index-preserved c =
    let entries = c.args.entries.now in
    let old = c.args.frames.now in
    let now = c.loop-index.frames in
    let i = c.loop-index.index in
    let there : i < length entries = omega (arith, c.loop-index-test.true, c.min-count.ensures) in
    let outside : i < length old = omega (arith, c.loop-index-test.true, c.min-count.ensures) in
    let inside : i < length now = omega (arith, outside, c.loop-index.auto.frames) in (
      λ o f sketched whole file states. entries_more f entries old now i _ _ c.read_entry.new.frame there inside outside c.loop-index.invariant.1 (c.loop-index.invariant.0 o f sketched whole file states) (c.read_entry.ensures o f sketched whole file states),
      rest_more old now i c.read_entry.new.frame inside outside c.loop-index.invariant.1,
    )
