use Rattle.std.proofs.Common.{ap, ◌∙◌}
use Rattle.perf_words.specs.Bits.{has_bit}
use Rattle.perf_words.proofs.Contained.{contains_bit}
use Rattle.perf_flat.proofs.frame.has_read.Goals as goal

pub returns : goal.returns
returns g c = c.contains.ensures tt ∙ contains_bit c.sample_type.result.0 4 ∙ ap (λ w. has_bit w 4) c.sample_type.ensures
