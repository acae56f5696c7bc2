use Rattle.perf_history.proofs.Trees.{branch_in}
use Rattle.perf_history.proofs.forests.Forest.branch.Goals as goal

pub returns : goal.returns
returns c = branch_in c.self.inside.branches.items c.args.self.now c.args.index c.index.result.now c.self.view_is c.self.invariant c.requires c.index.ensures
