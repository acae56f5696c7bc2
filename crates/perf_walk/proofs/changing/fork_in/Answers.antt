use Rattle.std.proofs.Common.{ap, ◌∙◌}
use Rattle.perf_words.specs.Bits.{has_bit}
use Rattle.perf_walk.proofs.Made.{fork_made}
use Rattle.perf_walk.proofs.changing.fork_in.Goals as goal

pub returns : goal.returns
returns c = λ bytes r has.
    fork_made bytes c.args.frame.now r c.args.frame.now.misc has c.short_number.result c.short_number-2.result c.short_number-3.result c.short_number-4.result c.has_bit.result
    c.short_number.ensures c.short_number-2.ensures c.short_number-3.ensures c.short_number-4.ensures (c.has_bit.ensures ∙ ap (λ n. has_bit n 13) c.from.ensures)
