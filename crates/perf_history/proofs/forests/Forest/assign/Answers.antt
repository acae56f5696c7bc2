use Rattle.std.proofs.lemmas.Result.{IfOk-weaker}
use Rattle.perf_history.specs.Forests.{Joins, Assigns}
use Rattle.perf_history.proofs.Trees.{assigned}
use Rattle.perf_history.proofs.forests.Forest.assign.Goals as goal

pub returns-clause-assigns : goal.returns-clause-assigns
returns-clause-assigns c =
    IfOk-weaker c.join.result
    (Joins c.up_to_end.new.self c.join.new.self c.in_ok-front.front c.args.start c.in_ok-back.back)
    (Assigns c.args.start c.args.len c.args.number c.args.self.now c.join.new.self c.args.tree)
    (λ to j. assigned _ _ _ _ c.args.tree c.leaf.result _ _ to c.args.start c.args.len c.args.number c.requires c.leaf.ensures.no_branch c.leaf.ensures.value c.part_below.ensures.keeps c.in_ok-front.ensures.like c.up_to_end.ensures.keeps c.in_ok-back.ensures.ends j)
    c.join.ensures.joins
