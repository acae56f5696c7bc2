use Rattle.std.proofs.Common.{◌≡◌, ◌+◌, ◌-◌, ◌%◌, arith}
use Rattle.std.proofs.lemmas.List.{drop-set}
use Rattle.perf_text.proofs.Hex.{PAIRS_at}
use Rattle.perf_text.proofs.hexadecimal.put_digit.Goals as goal

pub returns-clause-written : goal.returns-clause-written
returns-clause-written c =
    let end = c.args.end in
    let p = PAIRS_at c.args.digit (omega arith) in
    let same : c.args.digit % 16 ≡ c.args.digit = omega arith in
    let after : end - 1 + 1 ≡ end = omega arith in
    rw (p.1, same, drop-set c.args.bytes.now (end - 1) _ (omega arith), after)
