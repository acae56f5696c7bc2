use Rattle.perf_fold.proofs.AddingTexts.{order, grouping}
use Rattle.perf_fold.proofs.laws.texts_law.Goals as goal

pub returns : goal.returns
returns c = record { order = order; grouping = grouping }
