use Rattle.std.proofs.Common.{rules}
use Rattle.perf_reader.proofs.Calls.{chain}
use Rattle.perf_types.proofs.text_poke.TextPokeReadFrom.read.Goals as goal

pub returns-in_err-addr : goal.returns-in_err-addr
returns-in_err-addr g c = search (rules, chain)

pub returns-in_err-old_len : goal.returns-in_err-old_len
returns-in_err-old_len g c = search (rules, chain)

pub returns-in_err-new_len : goal.returns-in_err-new_len
returns-in_err-new_len g c = search (rules, chain)

pub returns-in_err-run : goal.returns-in_err-run
returns-in_err-run g c = search (rules, chain)
