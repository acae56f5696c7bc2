-- A byte order: how two, four and eight bytes become a number.
use Rattle.std.specs.Prelude.{ℕ, List}
use Rattle.std.specs.Int.{w16, w32, w64, from_le_bytes, from_be_bytes}

-- An order is three functions of bytes, and nothing else.
pub record Order : Type 0 where
  pub two : List ℕ → ℕ
  pub four : List ℕ → ℕ
  pub eight : List ℕ → ℕ

-- the lowest byte first: byte i has the weight 256 ^ i
abbrev pub little : Order
little = record { two = from_le_bytes w16; four = from_le_bytes w32; eight = from_le_bytes w64 }

-- the highest byte first: byte i of n has the weight 256 ^ (n - 1 - i)
abbrev pub big : Order
big = record { two = from_be_bytes w16; four = from_be_bytes w32; eight = from_be_bytes w64 }
