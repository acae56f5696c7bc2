-- Numbers as they are written.
use Rattle.std.specs.Prelude.{ℕ, false, List, [], ◌++◌, ◌/◌, ◌%◌, Option, Some, None, codes}
use Rattle.std.specs.Fmt.{digits}
use Rattle.std.specs.List.{flat_map}

-- a number in hexadecimal, with `0x` before its digits
abbrev pub hex : ℕ → List ℕ
hex n = codes "0x" ++ digits 16 false n

-- a byte in two hexadecimal digits
abbrev pub hex_byte : ℕ → List ℕ
hex_byte byte = digits 16 false (byte / 16) ++ digits 16 false (byte % 16)

-- a byte string in hexadecimal
abbrev pub hex_bytes : List ℕ → List ℕ
hex_bytes bytes = flat_map hex_byte bytes

-- a value as it is written, or nothing if it is absent
abbrev pub present : {X : Type 0} → (X → List ℕ) → Option X → List ℕ
present written (Some x) = written x
present written None = []
