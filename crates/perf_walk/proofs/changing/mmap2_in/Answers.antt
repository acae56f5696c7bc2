use Rattle.perf_walk.specs.Plain.{plain_identity}
use Rattle.perf_words.specs.Bits.{has_bit}
use Rattle.std.proofs.Common.{ap, ◌∙◌}
use Rattle.perf_walk.proofs.Made.{mmap2_made}
use Rattle.perf_walk.proofs.changing.mmap2_in.Goals as goal

pub returns : goal.returns
returns c = λ r has.
    mmap2_made c.args.bytes.now c.args.frame.now r c.args.frame.now.misc has c.short_number.result c.of_misc.result c.number.result c.number-2.result c.number-3.result c.string.result.now
    (plain_identity c.identity_in.result) c.has_bit.result c.short_number.ensures c.of_misc.ensures c.number.ensures c.number-2.ensures c.number-3.ensures c.string.ensures
    (c.identity_in.ensures r has) (c.has_bit.ensures ∙ ap (λ n. has_bit n 2) c.number-4.ensures)
