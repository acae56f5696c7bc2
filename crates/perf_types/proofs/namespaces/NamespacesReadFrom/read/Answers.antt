use Rattle.std.proofs.Common.{rules}
use Rattle.perf_reader.proofs.Calls.{chain}
use Rattle.perf_types.proofs.namespaces.NamespacesReadFrom.read.Goals as goal

pub returns-in_err-pid : goal.returns-in_err-pid
returns-in_err-pid g c = search (rules, chain)

pub returns-in_err-tid : goal.returns-in_err-tid
returns-in_err-tid g c = search (rules, chain)

pub returns-in_err-count : goal.returns-in_err-count
returns-in_err-count g c = search (rules, chain)

pub returns-in_err-entries : goal.returns-in_err-entries
returns-in_err-entries g c = search (rules, chain)
