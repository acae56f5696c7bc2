-- What is counted of frames, by what each of them adds.
use Rattle.std.specs.Prelude.{◌≡◌, ℕ, ◌%◌, ◌^◌, ◌<◌, ◌==◌, Bool, false, List, length, map, min, max, sum_by, count_by, slice_index_or, nat_lt, nat_le, is_some, Option, Some, None}
use Rattle.std.specs.List.{filter, reduce}
use Rattle.perf_base.specs.Attribute.{or_zero}
use Rattle.perf_summary.specs.declared.contents.Contents.{Contents}
use Rattle.perf_summary.specs.declared.counts.Counts.{Counts}
use Rattle.perf_summary.specs.declared.counts.EventCount.{EventCount}

-- ---- of an event

-- whether a number that may be absent is this one
abbrev pub is_number : Option ℕ → ℕ → Bool
is_number (Some m) n = m == n
is_number None n = false

-- the frames of the event with that number
abbrev pub of_event : ℕ → List Contents → List Contents
of_event n xs = filter (λ (x : Contents). is_number x.event n) xs

-- whether a frame is a sample that was read
abbrev pub is_sample : Contents → Bool
is_sample x = is_some x.period

-- whether a frame is refused
abbrev pub is_refused : Contents → Bool
is_refused x = x.is_refused

-- when the samples among frames happened, of those of which this is known
abbrev pub sample_times : List Contents → List ℕ
sample_times xs = filter (nat_lt 0) (map (λ (x : Contents). x.time) (filter is_sample xs))

-- What is counted of the frames of an event: its samples, the sum of their periods modulo 2^64, the
-- least and the greatest of their times, the sum modulo 2^64 of what was lost, and the refused frames.
abbrev pub event_count : List Contents → EventCount
event_count xs = record {
  samples = count_by is_sample xs;
  period = sum_by (λ (x : Contents). or_zero x.period) xs % 2 ^ 64;
  first = reduce min (sample_times xs);
  last = reduce max (sample_times xs);
  lost = sum_by (λ (x : Contents). x.lost) xs % 2 ^ 64;
  refused = count_by is_refused xs;
}

-- ---- of a type

-- how many frames have a type
abbrev pub type_count : ℕ → List Contents → ℕ
type_count ty xs = count_by (λ (x : Contents). x.type_ == ty) xs

-- how many have one of the types from 128 on
abbrev pub other_count : List Contents → ℕ
other_count xs = count_by (λ (x : Contents). nat_le 128 x.type_) xs

-- ---- of all

-- These are the counts of frames: of all, of each of so many events, and of each type below 128.
pub record AreCounts (number : ℕ) (xs : List Contents) (c : Counts) : Type 0 where
  pub frames : c.frames ≡ length xs
  pub refused : c.refused ≡ count_by is_refused xs
  pub event_number : length c.events.items ≡ number
  pub events : (n : ℕ) (d : EventCount) → n < number → slice_index_or c.events.items n d ≡ event_count (of_event n xs)
  pub type_number : length c.types.items ≡ 128
  pub types : (ty : ℕ) (d : ℕ) → ty < 128 → slice_index_or c.types.items ty d ≡ type_count ty xs
  pub other_types : c.other_types ≡ other_count xs
