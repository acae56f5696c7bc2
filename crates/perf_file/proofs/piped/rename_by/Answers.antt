use Rattle.std.proofs.Common.{rules}
use Rattle.perf_file.proofs.NewNames.{one_renamed}
use Rattle.perf_file.proofs.piped.rename_by.Goals as goal

pub returns-clause-named : goal.returns-clause-named
returns-clause-named c = λ k d rest lt. search (rules, one_renamed)
