-- The flags of a sample type, as sets report them.
use Rattle.std.proofs.Common.{◌≡◌, ℕ, ◌==◌, Bool, true, false, ◌||◌, refl}
use Rattle.std.specs.Int.RustNames.{bit_and}
use Rattle.perf_words.specs.Bits.{has_bit}
use Rattle.perf_words.proofs.Contained.{contains_bit}

pub contains_tid : (word : ℕ) → (bit_and word 2 == 2) ≡ has_bit word 1
contains_tid word = contains_bit word 1

pub contains_time : (word : ℕ) → (bit_and word 4 == 4) ≡ has_bit word 2
contains_time word = contains_bit word 2

pub contains_id : (word : ℕ) → (bit_and word 64 == 64) ≡ has_bit word 6
contains_id word = contains_bit word 6

pub contains_cpu : (word : ℕ) → (bit_and word 128 == 128) ≡ has_bit word 7
contains_cpu word = contains_bit word 7

pub contains_stream_id : (word : ℕ) → (bit_and word 512 == 512) ≡ has_bit word 9
contains_stream_id word = contains_bit word 9

pub contains_identifier : (word : ℕ) → (bit_and word 65536 == 65536) ≡ has_bit word 16
contains_identifier word = contains_bit word 16

pub ruleset sample_flags = (contains_tid, contains_time, contains_id, contains_cpu, contains_stream_id, contains_identifier)

-- ---- the flags of a weight

pub contains_weight : (word : ℕ) → (bit_and word 16384 == 16384) ≡ has_bit word 14
contains_weight word = contains_bit word 14

pub contains_weight_struct : (word : ℕ) → (bit_and word 16777216 == 16777216) ≡ has_bit word 24
contains_weight_struct word = contains_bit word 24

-- one flag of a list of one
pub only_flag : (flag : Bool) → (flag || false) ≡ flag
only_flag true = refl
only_flag false = refl

-- the first of two flags is set, or only the second counts
pub one_of_two : (one other : Bool) → one ≡ true → (one || (other || false)) ≡ true
one_of_two true other is = refl
one_of_two false other is = absurd (cc)

pub other_of_two : (one other : Bool) → one ≡ false → (one || (other || false)) ≡ other
other_of_two true other is = absurd (cc)
other_of_two false true is = refl
other_of_two false false is = refl
