-- A read of a group of counters, `struct read_format` of perf_event_open(2) with PERF_FORMAT_GROUP:
-- how many counters there are, the times of the group, and an entry for each counter.
use Rattle.std.specs.Prelude.{ℕ, ◌*◌, ◌/◌, ◌^◌, nat_lt, Bool, true, false, List, [], ◌∷◌, length}
use Rattle.std.specs.Prelude.{Option, Some, None, is_some, unwrap_or}
use Rattle.std.specs.Bool.{then_some}
use Rattle.perf_base.specs.Configuration.{Configuration}
use Rattle.perf_base.specs.Cow.{cow_items, is_borrowed, cow_form}
use Rattle.perf_base.specs.Layout.{Parts, done, ◌>>=◌, ◌>>◌}
use Rattle.perf_base.specs.FieldWords.{u64, u64_if, numbers, require}
use Rattle.perf_base.specs.declared.error.ErrorKind.TheVariants as kind
use Rattle.perf_words.specs.Sets.{element_len}
use Rattle.perf_counters.specs.ReadFormat.{has_time_enabled, has_time_running, has_counter_id, has_lost}
use Rattle.perf_counters.specs.ReadFormat.{has_group, has_known_bits}
use Rattle.perf_counters.specs.ReadValue.{SingleRead}
use Rattle.perf_counters.specs.GroupEntry.{block_len, entries_of}
use Rattle.perf_counters.specs.declared.group_entry.GroupEntry.{GroupEntry}
use Rattle.perf_counters.specs.declared.read_group.ReadGroup.{ReadGroup}

-- the read of a group as plain numbers
pub record GroupRead : Type 0 where
  -- how long the group was enabled, and how long it ran, in nanoseconds
  pub time_enabled : Option ℕ
  pub time_running : Option ℕ
  -- which numbers each entry has besides its value
  pub with_id : Bool
  pub with_lost : Bool
  pub entries : List GroupEntry

-- the entries of a list of numbers, as many as it has blocks
abbrev pub all_entries : (with_id with_lost : Bool) → List ℕ → List GroupEntry
all_entries with_id with_lost words =
    entries_of with_id with_lost (length words / block_len with_id with_lost) words

-- the value of a group, borrowed or owned
abbrev pub group_read : ReadGroup → GroupRead
group_read g = record {
  time_enabled = g.time_enabled;
  time_running = g.time_running;
  with_id = g.with_id;
  with_lost = g.with_lost;
  entries = all_entries g.with_id g.with_lost (cow_items g.words);
}

-- the group of these numbers: a time counts only if its flag is in the read format
abbrev pub group_with : (read_format time_enabled time_running : ℕ) → List ℕ → GroupRead
group_with read_format time_enabled time_running words = record {
  time_enabled = then_some (has_time_enabled read_format) time_enabled;
  time_running = then_some (has_time_running read_format) time_running;
  with_id = has_counter_id read_format;
  with_lost = has_lost read_format;
  entries = all_entries (has_counter_id read_format) (has_lost read_format) words;
}

-- none of its numbers were copied
abbrev pub is_borrowed_group : ReadGroup → Bool
is_borrowed_group g = is_borrowed g.words

-- whether its numbers are borrowed
abbrev pub read_group_form : ReadGroup → List Bool
read_group_form g = cow_form g.words

-- ---- single reads and groups

-- a single read as a group of one
abbrev pub group_of : SingleRead → GroupRead
group_of r = record {
  time_enabled = r.time_enabled;
  time_running = r.time_running;
  with_id = is_some r.id;
  with_lost = is_some r.lost;
  entries = record { value = r.value; id = r.id; lost = r.lost } ∷ [];
}

-- a number if requested, or 0 if it is missing
abbrev pub if_requested : Bool → Option ℕ → Option ℕ
if_requested true number = Some (unwrap_or number 0)
if_requested false number = None

-- an entry, possibly of another group, as a single read with the times of a group and the numbers
-- that the group's entries have
abbrev pub single_of : GroupRead → GroupEntry → SingleRead
single_of g e = record {
  value = e.value;
  time_enabled = g.time_enabled;
  time_running = g.time_running;
  id = if_requested g.with_id e.id;
  lost = if_requested g.with_lost e.lost;
}

-- the entry of a list that has exactly one
abbrev pub only_entry : List GroupEntry → Option GroupEntry
only_entry (e ∷ []) = Some e
only_entry _ = None

-- ---- table

-- A read format without a group, or with unknown flags, is refused before the count. A list of more
-- than 2 ^ 64 - 1 numbers is refused after the times.
abbrev pub read_group : Configuration → Parts GroupRead
read_group c = do
  require (has_group c.read_format) kind.UnsupportedConfig
  require (has_known_bits c.read_format) kind.UnsupportedConfig
  count ← u64
  time_enabled ← u64_if (has_time_enabled c.read_format)
  time_running ← u64_if (has_time_running c.read_format)
  require (nat_lt (count * element_len c.read_format) (2 ^ 64)) kind.InvalidRecord
  words ← numbers (count * element_len c.read_format)
  done (record {
    time_enabled = time_enabled;
    time_running = time_running;
    with_id = has_counter_id c.read_format;
    with_lost = has_lost c.read_format;
    entries = all_entries (has_counter_id c.read_format) (has_lost c.read_format) words;
  })
