-- How many bytes of code a TEXT_POKE record has: the least number that is at least the sum of both
-- lengths and is four modulo eight. And its value and its form, from those of its byte strings.
use Rattle.std.proofs.Common.{◌≡◌, ◌≤◌, ℕ, ◌%◌, arith}
use Rattle.perf_types.specs.TextPoke.{poked_len}

pub poked_len-enough : (n : ℕ) → n ≤ poked_len n
poked_len-enough n = omega arith

pub poked_len-four : (n : ℕ) → poked_len n % 8 ≡ 4
poked_len-four n = omega arith

pub poked_len-least : (n m : ℕ) → n ≤ m → m % 8 ≡ 4 → poked_len n ≤ m
poked_len-least n m enough four = omega arith
