use Rattle.std.proofs.Common.{sym, ◌∙◌}
use Rattle.perf_sample_types.proofs.Flags.{contains_weight, contains_weight_struct, one_of_two, other_of_two}
use Rattle.perf_sample_types.proofs.layout.is_weighed.Goals as goal

pub returns-then-contains : goal.returns-then-contains
returns-then-contains c =
    c.if-contains.true ∙ sym (one_of_two _ _ (sym (contains_weight _) ∙ sym (c.contains.ensures tt) ∙ c.if-contains.true))

pub returns-else-contains : goal.returns-else-contains
returns-else-contains c =
    sym (other_of_two _ _ (sym (contains_weight _) ∙ sym (c.contains.ensures tt) ∙ c.if-contains.false) ∙ sym (contains_weight_struct _) ∙ sym (c.contains-else-contains.ensures tt))
