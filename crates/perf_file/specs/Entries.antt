-- When frames happened, and their order.
use Rattle.std.specs.Prelude.{ℕ, zero, suc, ◌+◌, ◌*◌, ◌^◌, ◌==◌, List, [], ◌∷◌, map, Option, Some, None, option_map, if◌then◌else◌}
use Rattle.std.specs.List.Sorted.{IsPermutation, IsSortedByKey}
use Rattle.std.specs.Ordering.{nat_cmp, ordering_then}
use Rattle.std.specs.declared.cmp.Ordering.{Ordering}
use Rattle.perf_base.specs.Configuration.{Configuration, configured_by}
use Rattle.perf_base.specs.Dynamic.{order_of}
use Rattle.perf_base.specs.Order.{Order}
use Rattle.perf_records.specs.FrameNumbers.{time_in}
use Rattle.perf_records.specs.Sights.{Sight, whole, bad}
use Rattle.perf_sections.specs.Opened.{File, FileEvent}
use Rattle.perf_file.specs.Pieces.{Piece, pieces_of}
use Rattle.perf_file.specs.declared.entries.Entry.{Entry}
use Rattle.perf_file.specs.declared.owning.Owner.{Owner}
use Rattle.perf_file.specs.declared.owning.Owner.TheVariants as owner

-- an event by its number
abbrev pub event_at : List FileEvent → ℕ → Option FileEvent
event_at [] n = None
event_at (e ∷ es) zero = Some e
event_at (e ∷ es) (suc n) = event_at es n

-- how its frames are read
abbrev pub config_at : File → ℕ → Option Configuration
config_at f n = option_map (λ (e : FileEvent). configured_by e.attribute) (event_at f.events n)

-- the configuration of an owner, if it is an event that the file has
abbrev pub config_of : File → Owner → Option Configuration
config_of f (owner.Event n) = config_at f n
config_of f owner.Perf = None
config_of f (owner.Unknown id) = None
config_of f owner.Short = None

-- a time of all ones is none, and none counts as 0
abbrev pub known_time : Option ℕ → ℕ
known_time None = 0
known_time (Some t) = if t == 18446744073709551615 then 0 else t

-- when what is found happened, under a configuration; 0 without one, or if no whole frame is there
abbrev pub time_under : Option Configuration → Order → Sight → ℕ
time_under (Some c) o (whole h bytes borrowed) = known_time (time_in c o h bytes)
time_under (Some c) o (bad h e) = 0
time_under None o found = 0

-- when a frame happened
abbrev pub time_of : File → Piece → ℕ
time_of f p = time_under (config_of f p.owner) (order_of f.order) p.frame

-- the entry of a frame
abbrev pub entry_of : File → Piece → Entry
entry_of f p = record { time = time_of f p; at = p.at; owner = p.owner }

-- those of all frames
abbrev pub entries_of : File → List Entry
entries_of f = map (entry_of f) (pieces_of f)

-- when, and where in the file
abbrev pub time_and_place : Entry → ℕ × ℕ
time_and_place e = (e.time, e.at)

-- by time, and at equal times by place
abbrev pub by_time_then_place : ℕ × ℕ → ℕ × ℕ → Ordering
by_time_then_place x y = ordering_then (nat_cmp x.0 y.0) (nat_cmp x.1 y.1)

-- both as one number, which has the time in its upper half
abbrev pub number_of : ℕ × ℕ → ℕ
number_of moment = moment.0 * 2 ^ 64 + moment.1

-- ys has the entries of xs, by time and then by place
pub record IsInOrder (xs ys : List Entry) : Type 0 where
  pub same : IsPermutation xs ys
  pub sorted : IsSortedByKey time_and_place by_time_then_place ys
