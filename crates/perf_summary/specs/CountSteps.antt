-- How counts grow by one frame. Private contracts use this form.
use Rattle.std.specs.Prelude.{◌≡◌, ℕ, ◌+◌, ◌%◌, ◌^◌, ◌<◌, ◌==◌, Bool, List, length, min, max, replicate, slice_index_or, nat_le, Option, Some, None, cond, if◌then◌else◌}
use Rattle.perf_summary.specs.Counts.{is_number}
use Rattle.perf_summary.specs.declared.contents.Contents.{Contents}
use Rattle.perf_summary.specs.declared.counts.Counts.{Counts}
use Rattle.perf_summary.specs.declared.counts.EventCount.{EventCount}

-- 1 if so
abbrev pub one_if : Bool → ℕ
one_if is_so = cond is_so 1 0

-- a sum modulo 2^64
abbrev pub plus : ℕ → ℕ → ℕ
plus a b = (a + b) % 2 ^ 64

-- a time, or what is picked of it and another
abbrev pub picked : (ℕ → ℕ → ℕ) → Option ℕ → ℕ → ℕ
picked pick (Some before) time = pick before time
picked pick None time = time

-- the same of a time that is known if it is not 0
abbrev pub joined : (ℕ → ℕ → ℕ) → Option ℕ → ℕ → Option ℕ
joined pick before time = if time == 0 then before else Some (picked pick before time)

-- the counts of an event with one more sample
abbrev pub with_sample : EventCount → Option ℕ → (time : ℕ) → EventCount
with_sample c (Some period) time = record c {
  samples = plus c.samples 1;
  period = plus c.period period;
  first = joined min c.first time;
  last = joined max c.last time;
}
with_sample c None time = c

-- with what was lost, and a refused frame
abbrev pub with_others : EventCount → (lost : ℕ) → (is_refused : Bool) → EventCount
with_others c lost is_refused = record c { lost = plus c.lost lost; refused = plus c.refused (one_if is_refused) }

-- with one more frame
abbrev pub with_frame : EventCount → Contents → EventCount
with_frame c x = with_others (with_sample c x.period x.time) x.lost x.is_refused

-- the item at an index was changed, if there is one, and no other
pub record ChangesAt {A : Type 0} (at : Option ℕ) (change : A → A) (old new : List A) : Type 0 where
  pub same : length new ≡ length old
  pub items : (n : ℕ) (d : A) → n < length old → slice_index_or new n d ≡ (if is_number at n then change (slice_index_or old n d) else slice_index_or old n d)

-- the counts of no frames of an event
abbrev pub no_count : EventCount
no_count = record { samples = 0; period = 0; first = None; last = None; lost = 0; refused = 0 }

-- those of a file with so many events
pub record IsNew (number : ℕ) (c : Counts) : Type 0 where
  pub frames : c.frames ≡ 0
  pub refused : c.refused ≡ 0
  pub events : c.events.items ≡ replicate number no_count
  pub types : c.types.items ≡ replicate 128 0
  pub other_types : c.other_types ≡ 0

-- one more frame was counted
pub record AddsFrame (x : Contents) (old new : Counts) : Type 0 where
  pub frames : new.frames ≡ plus old.frames 1
  pub refused : new.refused ≡ plus old.refused (one_if x.is_refused)
  pub events : ChangesAt x.event (λ c. with_frame c x) old.events.items new.events.items
  pub types : ChangesAt (Some x.type_) (λ n. plus n 1) old.types.items new.types.items
  pub other_types : new.other_types ≡ plus old.other_types (one_if (nat_le 128 x.type_))
