use Rattle.std.proofs.Common.{not, ap, ◌∙◌}
use Rattle.perf_words.specs.Bits.{has_bit}
use Rattle.perf_walk.proofs.Made.{mmap_made}
use Rattle.perf_walk.proofs.changing.mmap_in.Goals as goal

pub returns : goal.returns
returns c = λ r has.
    mmap_made c.args.bytes.now c.args.frame.now r c.args.frame.now.misc has c.short_number.result c.of_misc.result c.number.result c.number-2.result c.number-3.result c.string.result.now
    (not c.has_bit.result) c.short_number.ensures c.of_misc.ensures c.number.ensures c.number-2.ensures c.number-3.ensures c.string.ensures (ap not (c.has_bit.ensures ∙ ap (λ n. has_bit n 13) c.from.ensures))
