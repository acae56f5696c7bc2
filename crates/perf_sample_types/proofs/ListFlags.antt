-- Samples without lists: none of the flags of those is set, while the bytes of the input stay what they are.
use Rattle.std.proofs.Common.{◌≡◌, ℕ, ◌^◌, ◌==◌, [], ◌∷◌, Bool, true, false, ◌||◌, refl, sym, ◌∙◌, ap, subst}
use Rattle.std.specs.Int.RustNames.{bit_and}
use Rattle.std.specs.Prelude.{Result, IsTrue}
use Rattle.perf_base.specs.Order.{Order}
use Rattle.perf_base.specs.declared.error.ErrorKind.{ErrorKind}
use Rattle.perf_buffers.specs.Buffer.{Source}
use Rattle.perf_reader.specs.Calls.{Call}
use Rattle.perf_reader.specs.Reading.{Transition}
use Rattle.perf_reader.specs.declared.reader.Reader.{Reader}
use Rattle.perf_words.specs.Bits.{has_bit}
use Rattle.perf_words.proofs.Contained.{contains_bit}
use Rattle.perf_sample_types.specs.Sample.{has_one}
use Rattle.perf_sample_types.specs.SampleMemory.{Lasts}

-- a call leaves them so
pub lasts_after : {I E X : Type 0} {source : I → Source} {order : E → Order} {transition : Transition X} {a b : Reader I E} {outcome : Result X ErrorKind} →
    Call source order transition a outcome b → Lasts source a → Lasts source b
lasts_after call (told, whole) = (call.told told, subst IsTrue (sym call.whole) whole)

-- the first of several flags, and those after it
first_out : (a b : Bool) → (a || b) ≡ false → a ≡ false
first_out true b none = absurd (cc)
first_out false b none = refl

others_out : (a b : Bool) → (a || b) ≡ false → b ≡ false
others_out true b none = absurd (cc)
others_out false b none = none

not_set : (bit : ℕ) {word type : ℕ} → word ≡ type → has_bit type bit ≡ false → (bit_and word (2 ^ bit) == 2 ^ bit) ≡ true → true ≡ false
not_set bit {word} {type} asked out set = sym (sym (contains_bit word bit ∙ ap (λ w. has_bit w bit) asked) ∙ set) ∙ out

module _ {word type : ℕ} (asked : word ≡ type) (none : has_one type (4 ∷ 5 ∷ 11 ∷ 12 ∷ 18 ∷ []) ≡ false) where
  after_values : has_one type (5 ∷ 11 ∷ 12 ∷ 18 ∷ []) ≡ false
  after_values = others_out (has_bit type 4) (has_one type (5 ∷ 11 ∷ 12 ∷ 18 ∷ [])) none

  after_call_chain : has_one type (11 ∷ 12 ∷ 18 ∷ []) ≡ false
  after_call_chain = others_out (has_bit type 5) (has_one type (11 ∷ 12 ∷ 18 ∷ [])) after_values

  after_branches : has_one type (12 ∷ 18 ∷ []) ≡ false
  after_branches = others_out (has_bit type 11) (has_one type (12 ∷ 18 ∷ [])) after_call_chain

  after_regs_user : has_one type (18 ∷ []) ≡ false
  after_regs_user = others_out (has_bit type 12) (has_one type (18 ∷ [])) after_branches

  pub no_values : (bit_and word (2 ^ 4) == 2 ^ 4) ≡ true → true ≡ false
  no_values = not_set 4 asked (first_out (has_bit type 4) (has_one type (5 ∷ 11 ∷ 12 ∷ 18 ∷ [])) none)

  pub no_call_chain : (bit_and word (2 ^ 5) == 2 ^ 5) ≡ true → true ≡ false
  no_call_chain = not_set 5 asked (first_out (has_bit type 5) (has_one type (11 ∷ 12 ∷ 18 ∷ [])) after_values)

  pub no_branches : (bit_and word (2 ^ 11) == 2 ^ 11) ≡ true → true ≡ false
  no_branches = not_set 11 asked (first_out (has_bit type 11) (has_one type (12 ∷ 18 ∷ [])) after_call_chain)

  pub no_regs_user : (bit_and word (2 ^ 12) == 2 ^ 12) ≡ true → true ≡ false
  no_regs_user = not_set 12 asked (first_out (has_bit type 12) (has_one type (18 ∷ [])) after_branches)

  pub no_regs_intr : (bit_and word (2 ^ 18) == 2 ^ 18) ≡ true → true ≡ false
  no_regs_intr = not_set 18 asked (first_out (has_bit type 18) (has_one type []) after_regs_user)
