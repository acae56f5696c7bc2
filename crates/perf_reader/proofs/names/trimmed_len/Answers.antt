use Rattle.std.proofs.Common.{◌≡◌, ◌-◌, true, false, get_or, arith, sym, ◌∙◌}
use Rattle.std.proofs.lemmas.Bool.Decides.{nat_tests}
use Rattle.std.specs.Prelude.{◌==◌}
use Rattle.perf_reader.proofs.NameEnds.{without_zero, before_other}
use Rattle.perf_reader.proofs.names.trimmed_len.Goals as goal

pub loop-len-preserved : goal.loop-len-preserved
loop-len-preserved c =
    let i = c.loop-len.invariant in
    let zero : (get_or c.args.bytes.now (c.loop-len.len - 1) 0 == 0) ≡ true = grind (arith, nat_tests, c.if-bytes-len-eq0.true) in
    (omega (arith, i.0), without_zero c.loop-len.len c.args.bytes.now c.loop-len-test.true i.0 zero ∙ i.1)

pub returns-else-bytes-len-eq0-clause-trimmed : goal.returns-else-bytes-len-eq0-clause-trimmed
returns-else-bytes-len-eq0-clause-trimmed c =
    let i = c.loop-len.invariant in
    let other : (get_or c.args.bytes.now (c.loop-len.len - 1) 0 == 0) ≡ false = grind (arith, nat_tests, c.if-bytes-len-eq0.false) in
    sym (before_other c.loop-len.len c.args.bytes.now c.loop-len-test.true i.0 other) ∙ i.1
