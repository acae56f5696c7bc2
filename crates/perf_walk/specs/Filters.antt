-- Which samples count.
use Rattle.std.specs.Prelude.{◌≡◌, ℕ, ◌-◌, ◌^◌, ◌==◌, ◌&&◌, ◌||◌, true, false, Bool, List, ◌++◌, bytes_eq, codes, decimal, length, nat_le, Option, Some, None, if◌then◌else◌}
use Rattle.std.specs.Borrow.{Bor}
use Rattle.std.specs.List.{list_any}
use Rattle.perf_base.specs.Header.{header_of}
use Rattle.perf_base.specs.Order.{Order}
use Rattle.perf_history.specs.Histories.{name_of}
use Rattle.perf_history.specs.declared.names.Name.{Name}
use Rattle.perf_history.specs.declared.names.Name.TheVariants.{Given, Number, Swapper}
use Rattle.perf_flat.specs.Samples.{sample_present}
use Rattle.perf_sample_types.specs.Sample.{SampleValue}
use Rattle.perf_words.specs.Bits.{has_bit}
use Rattle.perf_walk.specs.Moments.{Moment}
use Rattle.perf_walk.specs.Samples.{sample_of, sample_view}
use Rattle.perf_walk.specs.declared.filtering.Filter.{Filter}
use Rattle.perf_walk.specs.declared.sampling.Sample.{Sample}

-- the name of a thread that was given none: a colon and its number
abbrev pub number_name : ℕ → List ℕ
number_name tid = codes ":" ++ decimal tid

-- the name of a thread
abbrev pub thread_name : Name → List ℕ
thread_name (Given name) = name.now
thread_name (Number tid) = number_name tid
thread_name Swapper = codes "swapper"

-- whether a name is one of some
abbrev pub is_among : List (Bor (List ℕ)) → List ℕ → Bool
is_among names name = list_any (λ (one : Bor (List ℕ)). bytes_eq one.now name) names

-- whether the event has the name that counts, if there is one
abbrev pub takes_event : Filter → (name : List ℕ) → Bool
takes_event f name = elim f.event [ Some wanted ↦ bytes_eq wanted.now name | None ↦ true ]

-- whether one of the names of events counts
abbrev pub takes_any : Filter → (names : List (List ℕ)) → Bool
takes_any f names = list_any (takes_event f) names

-- whether the process of a sample with these fields is one of those that count, if there are any
abbrev pub takes_pid : Filter → (fields : ℕ) → Sample → Bool
takes_pid f fields s = length f.pids.now == 0 || (has_bit fields 1 && list_any (λ pid. pid == s.pid) f.pids.now)

-- whether the name of its thread is one of those that count, if there are any
abbrev pub takes_comm : Filter → (fields : ℕ) → Name → Bool
takes_comm f fields name = length f.comms.now == 0 || (has_bit fields 1 && is_among f.comms.now (thread_name name))

-- the time of a sample: without one it is after all others
abbrev pub time_of : (fields : ℕ) → Sample → ℕ
time_of fields s = if has_bit fields 2 then s.time else 2 ^ 64 - 1

-- whether a time is at the last one or before it, if there is one
abbrev pub is_by : Option ℕ → (time : ℕ) → Bool
is_by (Some last) time = nat_le time last
is_by None time = true

-- whether a time is from the first to the last one that count; 0 always counts
abbrev pub takes_time : Filter → (time : ℕ) → Bool
takes_time f time = time == 0 || (nat_le f.first time && is_by f.last time)

-- whether its numbers count
abbrev pub takes_numbers : Filter → (fields : ℕ) → Sample → Bool
takes_numbers f fields s = takes_pid f fields s && takes_time f (time_of fields s)

-- whether a sample with these fields counts, whose thread has that name, whatever its event is
abbrev pub takes_sample : Filter → (fields : ℕ) → Sample → Name → Bool
takes_sample f fields s name = takes_numbers f fields s && takes_comm f fields name

-- whether the sample in a frame counts by what is known then
abbrev pub takes_at : Filter → Moment → (misc : ℕ) → SampleValue → Bool
takes_at f m misc s = takes_sample f (sample_present m.config) (sample_view misc s) (name_of m.known (sample_view misc s).tid)

-- whether a frame of an event with this name contains a sample that counts
abbrev pub counts : Filter → (event : List ℕ) → Order → Moment → Bool
counts f event o m = elim (sample_of m.config o m.frame) [ Some s ↦ takes_event f event && takes_at f m (header_of o m.frame).misc s | None ↦ false ]

-- each sample of each event counts
abbrev pub TakesAll : Filter → Type 0
TakesAll f = ((name : List ℕ) → takes_event f name ≡ true) × ((fields : ℕ) (s : Sample) (name : Name) → takes_sample f fields s name ≡ true)
