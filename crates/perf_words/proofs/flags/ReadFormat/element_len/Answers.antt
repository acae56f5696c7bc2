use Rattle.std.proofs.Common.{◌≡◌, ◌∙◌, Bool, true, false, if◌then◌else◌, refl}
use mir.Val.{bool_byte}
use Rattle.perf_words.proofs.Contained.{contains_bit}
use Rattle.perf_words.specs.Bits.{has_bit}
use Rattle.perf_words.proofs.flags.ReadFormat.element_len.Goals as goal

-- `usize::from` of a `bool`
one_if : (b : Bool) → bool_byte b ≡ (if b then 1 else 0)
one_if true = refl
one_if false = refl

pub returns : goal.returns
returns c =
    let word = c.args.self.now.0 in
    let id : c.contains.result ≡ has_bit word 2 = c.contains.ensures tt ∙ contains_bit word 2 in
    let lost : c.contains-2.result ≡ has_bit word 4 = c.contains-2.ensures tt ∙ contains_bit word 4 in
    rw (c.from.ensures, c.from-2.ensures, id, lost, one_if (has_bit word 2), one_if (has_bit word 4)) refl
