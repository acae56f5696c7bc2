use Rattle.std.proofs.Common.{◌∙◌, sym, ap, refl}
use Rattle.perf_history.specs.Forests.{found}
use Rattle.perf_history.proofs.Trees.{found_leaf, found_none}
use Rattle.perf_history.proofs.forests.Forest.find.Goals as goal

pub returns-in-Whole : goal.returns-in-Whole
returns-in-Whole c =
    sym (sym c.loop-tree.invariant.1 ∙ ap (λ t. found c.args.self.now t c.args.address) c.in-Whole.is ∙ found_leaf c.args.self.now _ c.args.address refl)

pub returns-in_default-tree : goal.returns-in_default-tree
returns-in_default-tree c =
    sym (sym c.loop-tree.invariant.1 ∙ found_none c.args.self.now c.loop-tree.tree c.args.address c.in_default.not-Split c.in_default-tree.not-Whole)
