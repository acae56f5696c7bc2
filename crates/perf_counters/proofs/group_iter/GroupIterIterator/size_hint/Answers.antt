use Rattle.std.proofs.Common.{Some, ap, sym, arith}
use Rattle.perf_counters.proofs.Blocks.{length-entries_left}
use Rattle.perf_counters.proofs.group_iter.GroupIterIterator.size_hint.Goals as goal

pub returns-clause-lower : goal.returns-clause-lower
returns-clause-lower c = λ _. omega (arith, length-entries_left c.args.self.now)

pub returns-clause-upper : goal.returns-clause-upper
returns-clause-upper c = (tt, omega (arith, length-entries_left c.args.self.now))

pub returns-clause-exact : goal.returns-clause-exact
returns-clause-exact c = ap Some (sym (length-entries_left c.args.self.now))
