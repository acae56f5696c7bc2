use Rattle.std.proofs.Common.{refl}
use Rattle.perf_counters.proofs.Blocks.{length-entries_of, whole_blocks}
use Rattle.perf_counters.proofs.read_group.ReadGroup.entries.Goals as goal

pub new-requires : goal.new-requires
new-requires c =
    let g = c.args.self.now in
    let count = length-entries_of g.with_id g.with_lost in
    rw (c.as_slice.ensures, c.len.ensures, count) (whole_blocks g.with_id g.with_lost _ g.whole)

pub returns : goal.returns
returns c =
    let g = c.args.self.now in
    let count = length-entries_of g.with_id g.with_lost in
    rw (c.new.ensures, c.as_slice.ensures, c.len.ensures, count) refl
