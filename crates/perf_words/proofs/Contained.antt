-- A one-bit flag is in a set if and only if its bit is set.
use Rattle.std.proofs.Common.{◌≡◌, ℕ, ◌*◌, ◌/◌, ◌%◌, ◌^◌, ◌<◌, ◌==◌, arith}
use Rattle.std.specs.Int.RustNames.{bit_and}
use Rattle.std.proofs.lemmas.Nat.{pow_pos}
use Rattle.std.proofs.lemmas.Nat.Bits.{and_pow, bit_at-lt}
use Rattle.std.proofs.lemmas.Bool.Decides.{nat_tests}
use Rattle.std.proofs.lemmas.Grind.{common_steps}
use Rattle.perf_words.specs.Bits.{has_bit}

-- a bit times its weight is that weight if and only if the bit is 1
pub bit_in_place : (b p : ℕ) → 0 < p → b < 2 → (b * p == p) ≡ (b == 1)
bit_in_place b p above small = grind (arith, nat_tests, common_steps)

-- the flag of bit k
pub contains_bit : (word k : ℕ) → (bit_and word (2 ^ k) == 2 ^ k) ≡ has_bit word k
contains_bit word k = rw and_pow (bit_in_place (word / 2 ^ k % 2) (2 ^ k) (pow_pos k) (bit_at-lt word k))
