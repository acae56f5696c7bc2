use Rattle.std.proofs.Common.{ap, ◌∙◌}
use Rattle.perf_words.specs.Bits.{has_bit}
use Rattle.perf_words.proofs.Contained.{contains_bit}
use Rattle.perf_flat.proofs.frame.has_branches.Goals as goal

pub returns : goal.returns
returns g c = c.contains.ensures tt ∙ contains_bit c.sample_type.result.0 11 ∙ ap (λ w. has_bit w 11) c.sample_type.ensures
