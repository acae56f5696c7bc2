-- The flags of a sample type that come before a number, as sets report them.
use Rattle.std.proofs.Common.{◌≡◌, ℕ, ◌==◌}
use Rattle.std.specs.Int.RustNames.{bit_and}
use Rattle.perf_words.specs.Bits.{has_bit}
use Rattle.perf_words.proofs.Contained.{contains_bit}
use Rattle.perf_sample_types.proofs.Flags.{sample_flags}

pub contains_ip : (word : ℕ) → (bit_and word 1 == 1) ≡ has_bit word 0
contains_ip word = contains_bit word 0

pub contains_addr : (word : ℕ) → (bit_and word 8 == 8) ≡ has_bit word 3
contains_addr word = contains_bit word 3

pub ruleset number_flags = (sample_flags, contains_ip, contains_addr)
