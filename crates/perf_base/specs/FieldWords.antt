-- The words in which the parts of a structure are written, one line per field, as in the manual
-- page.
use Rattle.std.specs.Prelude.{ℕ, Bool, List, Option, if◌then◌else◌}
use Rattle.perf_base.specs.Layout.{w1, w2, w4, w8, number, optional, byte_string, words, padding, rest}
use Rattle.perf_base.specs.Layout.{Parts, done, part, check, map_parts}
use Rattle.perf_base.specs.Zeros.{trim_zeros}
use Rattle.perf_base.specs.declared.error.ErrorKind.{ErrorKind}

-- a number of one byte
abbrev pub u8 : Parts ℕ
u8 = part (number w1) done

-- a number of two bytes
abbrev pub u16 : Parts ℕ
u16 = part (number w2) done

-- a number of four bytes
abbrev pub u32 : Parts ℕ
u32 = part (number w4) done

-- a number of eight bytes
abbrev pub u64 : Parts ℕ
u64 = part (number w8) done

-- an optional number of eight bytes
abbrev pub u64_if : Bool → Parts (Option ℕ)
u64_if present = part (optional present w8) done

-- an optional number of four bytes
abbrev pub u32_if : Bool → Parts (Option ℕ)
u32_if present = part (optional present w4) done

-- an optional number of two bytes
abbrev pub u16_if : Bool → Parts (Option ℕ)
u16_if present = part (optional present w2) done

-- n bytes
abbrev pub bytes : ℕ → Parts (List ℕ)
bytes n = part (byte_string n) done

-- n numbers of eight bytes
abbrev pub numbers : ℕ → Parts (List ℕ)
numbers n = part (words n) done

-- n bytes without a meaning
abbrev pub gap : ℕ → Parts (Unit {0})
gap n = part (padding n) done

-- n optional bytes without a meaning
abbrev pub gap_if : Bool → ℕ → Parts (Unit {0})
gap_if present n = gap (if present then n else 0)

-- all remaining bytes
abbrev pub all_left : Parts (List ℕ)
all_left = part rest done

-- a name: all remaining bytes, without the zero bytes at the end
abbrev pub name : Parts (List ℕ)
name = map_parts trim_zeros all_left

-- a check, which refuses with its kind if it is false
abbrev pub require : Bool → ErrorKind → Parts (Unit {0})
require holds kind = check holds kind (done tt)
