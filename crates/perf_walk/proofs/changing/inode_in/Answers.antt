use Rattle.perf_walk.proofs.Made.{inode_made}
use Rattle.perf_walk.proofs.changing.inode_in.Goals as goal

pub returns : goal.returns
returns c = λ bytes r has.
    inode_made bytes c.args.frame.now r has c.short_number.result c.short_number-2.result c.number.result c.number-2.result
    c.short_number.ensures c.short_number-2.ensures c.number.ensures c.number-2.ensures
