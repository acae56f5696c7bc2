-- Bits of misc, as sets of them report.
use Rattle.std.proofs.Common.{◌≡◌, ℕ, ◌==◌}
use Rattle.std.specs.Int.RustNames.{bit_and}
use Rattle.perf_base.specs.Misc.{switch_out_bit, build_id_bit}
use Rattle.perf_words.specs.Bits.{has_bit}
use Rattle.perf_words.proofs.Contained.{contains_bit}

pub contains_switch_out : (word : ℕ) → (bit_and word 8192 == 8192) ≡ has_bit word switch_out_bit
contains_switch_out word = contains_bit word 13

pub contains_build_id : (word : ℕ) → (bit_and word 16384 == 16384) ≡ has_bit word build_id_bit
contains_build_id word = contains_bit word 14

pub ruleset misc_bits = (contains_switch_out, contains_build_id)
