-- Ranges of addresses.
use Rattle.std.specs.Prelude.{ℕ, ◌+◌, ◌&&◌, nat_lt, nat_le, Bool}

-- whether an address is one of the `len` from `start` on
abbrev pub is_within : (start len address : ℕ) → Bool
is_within start len address = nat_le start address && nat_lt address (start + len)
