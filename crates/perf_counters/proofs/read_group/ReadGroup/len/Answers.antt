use Rattle.std.proofs.Common.{sym}
use Rattle.perf_counters.proofs.Blocks.{length-entries_of}
use Rattle.perf_counters.proofs.read_group.ReadGroup.len.Goals as goal

pub returns : goal.returns
returns c =
    let g = c.args.self.now in
    rw (c.len.ensures, c.block_len.ensures) (sym (length-entries_of g.with_id g.with_lost _ _))
