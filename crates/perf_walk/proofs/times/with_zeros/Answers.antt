use Rattle.std.proofs.Common.{◌∙◌, ap}
use Rattle.std.proofs.lemmas.List.{take-replicate}
use Rattle.perf_walk.specs.Times.{with_digits}
use Rattle.perf_walk.proofs.times.with_zeros.Goals as goal

pub returns : goal.returns
returns c = c.with_digits.ensures ∙ ap (with_digits c.args.number) (take-replicate c.args.count 9 48 c.requires)
