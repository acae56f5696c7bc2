-- The entries of a group: blocks of a list of numbers, one after another, with a block for each
-- counter.
use Rattle.std.specs.Prelude.{ℕ, zero, suc, ◌+◌, ◌==◌, Bool, false, if◌then◌else◌}
use Rattle.std.specs.Prelude.{List, [], ◌∷◌, map, take, drop, slice_index, find}
use Rattle.std.specs.Prelude.{Option, Some, None}
use Rattle.perf_counters.specs.declared.group_entry.GroupEntry.{GroupEntry}

-- ---- the fields of an entry

-- the counter's value
abbrev pub entry_value : GroupEntry → ℕ
entry_value e = e.value

-- the kernel's id of its event, if it has one
abbrev pub entry_id : GroupEntry → Option ℕ
entry_id e = e.id

-- how many of its samples were lost, if that is reported
abbrev pub entry_lost : GroupEntry → Option ℕ
entry_lost e = e.lost

-- ---- blocks

-- how many numbers an entry has: its value, its id and its lost samples
abbrev pub block_len : (with_id with_lost : Bool) → ℕ
block_len with_id with_lost = 1 + (if with_id then 1 else 0) + (if with_lost then 1 else 0)

-- the first `count` blocks of n numbers each
abbrev pub blocks : {T : Type 0} → (n count : ℕ) → List T → List (List T)
blocks n zero words = []
blocks n (suc count) words = take n words ∷ blocks n count (drop n words)

-- the entry of a block: its value comes first, then its id, and its lost samples last
abbrev pub entry_of : (with_id with_lost : Bool) → List ℕ → GroupEntry
entry_of with_id with_lost block = record {
  value = slice_index block 0;
  id = if with_id then Some (slice_index block 1) else None;
  lost = if with_lost then Some (slice_index block (if with_id then 2 else 1)) else None;
}

-- the entries of the first `count` blocks
abbrev pub entries_of : (with_id with_lost : Bool) (count : ℕ) → List ℕ → List GroupEntry
entries_of with_id with_lost count words =
    map (entry_of with_id with_lost) (blocks (block_len with_id with_lost) count words)

-- ---- the entry of a counter

-- whether a number is present, and is the given one
abbrev pub is_number : ℕ → Option ℕ → Bool
is_number n (Some m) = m == n
is_number n None = false

-- the first entry with the given id
abbrev pub entry_with_id : ℕ → List GroupEntry → Option GroupEntry
entry_with_id id entries = find (λ e. is_number id e.id) entries
