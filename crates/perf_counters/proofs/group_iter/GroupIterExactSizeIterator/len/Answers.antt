use Rattle.std.proofs.Common.{sym}
use Rattle.perf_counters.proofs.Blocks.{length-entries_left}
use Rattle.perf_counters.proofs.group_iter.GroupIterExactSizeIterator.len.Goals as goal

pub returns-clause-value : goal.returns-clause-value
returns-clause-value c = sym (length-entries_left c.args.self.now)
