-- The flags of a read format, as sets of them report.
use Rattle.std.proofs.Common.{◌≡◌, ℕ, ◌==◌}
use Rattle.std.specs.Int.RustNames.{bit_and}
use Rattle.perf_words.specs.Bits.{has_bit}
use Rattle.perf_words.proofs.Contained.{contains_bit}

pub contains_time_enabled : (word : ℕ) → (bit_and word 1 == 1) ≡ has_bit word 0
contains_time_enabled word = contains_bit word 0

pub contains_time_running : (word : ℕ) → (bit_and word 2 == 2) ≡ has_bit word 1
contains_time_running word = contains_bit word 1

pub contains_counter_id : (word : ℕ) → (bit_and word 4 == 4) ≡ has_bit word 2
contains_counter_id word = contains_bit word 2

pub contains_group : (word : ℕ) → (bit_and word 8 == 8) ≡ has_bit word 3
contains_group word = contains_bit word 3

pub contains_counter_lost : (word : ℕ) → (bit_and word 16 == 16) ≡ has_bit word 4
contains_counter_lost word = contains_bit word 4

pub ruleset read_flags = (contains_time_enabled, contains_time_running, contains_counter_id, contains_group, contains_counter_lost)
