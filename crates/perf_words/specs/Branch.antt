-- A branch recorded by the processor, `struct perf_branch_entry` of perf_event.h: where it came
-- from, where it went, and a word of bit fields. Bits from 24 on have no field here.
use Rattle.std.specs.Prelude.{ℕ, ◌+◌, ◌*◌, ◌^◌, Bool}
use Rattle.perf_words.specs.Bits.{bit_field, has_bit}

-- a branch as its three words
pub record Branch : Type 0 where
  pub from : ℕ
  pub to : ℕ
  pub word : ℕ

-- it was mispredicted
abbrev pub mispred_of : ℕ → Bool
mispred_of word = has_bit word 0

-- it was predicted correctly
abbrev pub predicted_of : ℕ → Bool
predicted_of word = has_bit word 1

-- it happened in a memory transaction
abbrev pub in_tx_of : ℕ → Bool
in_tx_of word = has_bit word 2

-- it was the abort of a memory transaction
abbrev pub abort_of : ℕ → Bool
abort_of word = has_bit word 3

-- cycles since the previous branch
abbrev pub cycles_of : ℕ → ℕ
cycles_of word = bit_field word 4 16

-- the kind of branch
abbrev pub branch_type_of : ℕ → ℕ
branch_type_of word = bit_field word 20 4

-- the fields of a word whose first is the highest bit, as a big-endian machine has them, each where
-- it is if the first is the lowest
abbrev pub reversed : (word : ℕ) → ℕ
reversed word = bit_field word 63 1 + bit_field word 62 1 * 2 + bit_field word 61 1 * 4
    + bit_field word 60 1 * 8 + (bit_field word 44 16 * 2 ^ 4 + bit_field word 40 4 * 2 ^ 20)
