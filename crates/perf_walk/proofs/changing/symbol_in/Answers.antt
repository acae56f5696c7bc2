use Rattle.std.proofs.Common.{ap, ◌∙◌}
use Rattle.perf_words.specs.Bits.{has_bit}
use Rattle.perf_walk.proofs.Made.{symbol_made}
use Rattle.perf_walk.proofs.changing.symbol_in.Goals as goal

pub returns : goal.returns
returns c = λ r has.
    symbol_made c.args.bytes.now c.args.frame.now r has c.number.result c.number-2.result c.string.result.now c.has_bit.result
    c.number.ensures c.number-2.ensures c.string.ensures (c.has_bit.ensures ∙ ap (λ n. has_bit n 0) c.number-3.ensures)
