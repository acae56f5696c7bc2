-- Parts of a file.
use Rattle.std.specs.Prelude.{ℕ, ◌+◌, ◌<◌, ◌≤◌, ◌^◌, ◌==◌, List, Bool, length, nat_lt, nat_le, ◌&&◌}
use Rattle.std.specs.List.{count_by}
use Rattle.perf_base.specs.Order.{Order}
use Rattle.perf_sections.specs.Numbers.{number}
use Rattle.perf_sections.specs.declared.section.Section.{Section}

-- the part whose offset and size are the two numbers at an offset
abbrev pub section_at : Order → List ℕ → ℕ → Section
section_at o bytes at = record { start = number o bytes at; size = number o bytes (at + 8) }

-- whether it ends inside the file
abbrev pub is_inside : List ℕ → Section → Bool
is_inside bytes s = nat_le (s.start + s.size) (length bytes)

-- whether it has the byte at that place
abbrev pub covers : ℕ → Section → Bool
covers place s = nat_le s.start place && nat_lt place (s.start + s.size)

-- whether it begins inside another one
abbrev pub begins_inside : List Section → Section → Bool
begins_inside sections s = nat_lt 0 s.size && nat_lt 1 (count_by (covers s.start) sections)

-- whether none begins inside another one
abbrev pub are_apart : List Section → Bool
are_apart sections = count_by (begins_inside sections) sections == 0

-- no byte is in two of them
abbrev pub ShareNothing : List Section → Type 0
ShareNothing sections = (place : ℕ) → count_by (covers place) sections ≤ 1

-- it ends inside the file
abbrev pub IsInside : List ℕ → Section → Type 0
IsInside bytes s = s.start + s.size ≤ length bytes

-- its end is a number of eight bytes
abbrev pub IsSmall : Section → Type 0
IsSmall s = s.start + s.size < 2 ^ 64
