-- Bit fields of a word, as perf_event_open(2) writes them: `cycles : 16` is 16 bits from the lowest
-- bit not yet taken. Bits are counted from the lowest, on every machine.
use Rattle.std.specs.Prelude.{ℕ, ◌/◌, ◌%◌, ◌^◌, ◌==◌, Bool}

-- the number in `width` bits of a word, the lowest of which is bit `at`
abbrev pub bit_field : (word at width : ℕ) → ℕ
bit_field word at width = word / 2 ^ at % 2 ^ width

-- whether a bit of a word is set
abbrev pub has_bit : (word at : ℕ) → Bool
has_bit word at = bit_field word at 1 == 1
