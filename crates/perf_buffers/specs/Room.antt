-- When capacity for n bytes is allocated before the first of them is taken.
use Rattle.std.specs.Prelude.{ℕ, Bool, true, false, Option, Some, None, nat_le, nat_lt, min}

-- the buffer reports that it has fewer than n
abbrev pub falls_short : Option ℕ → ℕ → Bool
falls_short None n = false
falls_short (Some left) n = nat_lt left n

-- How many bytes a buffer is assumed to have if it does not report it.
abbrev pub unhinted_bytes : ℕ
unhinted_bytes = 16384

-- All capacity is allocated first if the buffer reports that it has n bytes, or if it reports
-- nothing and n is at most what it is assumed to have.
abbrev pub is_made_beforehand : Option ℕ → ℕ → Bool
is_made_beforehand None n = nat_le n unhinted_bytes
is_made_beforehand (Some left) n = nat_le n left

-- the same, if the buffer does not report that it has fewer
abbrev pub makes_all_room : Bool → ℕ → Bool
makes_all_room true n = true
makes_all_room false n = nat_le n unhinted_bytes

-- The capacity that is allocated first: all of it, or at most what a buffer is assumed to have that
-- does not report it.
abbrev pub first_capacity : Bool → ℕ → ℕ
first_capacity true n = n
first_capacity false n = min n unhinted_bytes
