-- The flags of a read format, PERF_FORMAT_*: which numbers a read of a counter has besides its
-- value.
use Rattle.std.specs.Prelude.{ℕ, ◌^◌, Bool, nat_lt}
use Rattle.perf_words.specs.Bits.{has_bit}

-- PERF_FORMAT_TOTAL_TIME_ENABLED: how long the event was enabled
abbrev pub has_time_enabled : (read_format : ℕ) → Bool
has_time_enabled read_format = has_bit read_format 0

-- PERF_FORMAT_TOTAL_TIME_RUNNING: how long it ran
abbrev pub has_time_running : (read_format : ℕ) → Bool
has_time_running read_format = has_bit read_format 1

-- PERF_FORMAT_ID: the kernel's id of the event
abbrev pub has_counter_id : (read_format : ℕ) → Bool
has_counter_id read_format = has_bit read_format 2

-- PERF_FORMAT_GROUP: all counters of a group at once
abbrev pub has_group : (read_format : ℕ) → Bool
has_group read_format = has_bit read_format 3

-- PERF_FORMAT_LOST: how many of its samples were lost
abbrev pub has_lost : (read_format : ℕ) → Bool
has_lost read_format = has_bit read_format 4

-- It has no bits other than those five.
abbrev pub has_known_bits : (read_format : ℕ) → Bool
has_known_bits read_format = nat_lt read_format (2 ^ 5)
