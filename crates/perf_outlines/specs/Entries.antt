-- Entries of frames.
use Rattle.std.specs.Prelude.{◌≡◌, ◌≤◌, ◌<◌, ℕ, zero, suc, ◌+◌, ◌-◌, ◌==◌, nat_lt, nat_le, Bool, false, List, [], ◌∷◌, length, drop, Option, Some, None, if◌then◌else◌}
use Rattle.std.specs.List.Sorted.{IsPermutation, IsSortedByKey}
use Rattle.perf_base.specs.Dynamic.{order_of}
use Rattle.perf_base.specs.Layout.{slice}
use Rattle.perf_file.specs.Entries.{by_time_then_place, time_under, entry_of}
use Rattle.perf_sections.specs.Opened.{File}
use Rattle.perf_file.specs.Pieces.{piece_in, place_in, after_piece}
use Rattle.perf_file.specs.declared.entries.Entry.{Entry}
use Rattle.perf_file.specs.declared.owning.Owner.{Owner}
use Rattle.perf_file.specs.declared.owning.Owner.TheVariants as owner
use Rattle.perf_flat.specs.FlatConfigs.{is_valid}
use Rattle.perf_records.specs.Sights.{Sight}
use Rattle.perf_outlines.specs.CallerConfigs.{configuration_by, order_of_config}
use Rattle.perf_outlines.specs.declared.file.FlatFile.{FlatFile}
use Rattle.perf_outlines.specs.declared.file_entries.FlatEntry.{FlatEntry}
use Rattle.perf_outlines.specs.declared.file_events.FlatEvent.{FlatEvent}

-- when, and where in the file
abbrev pub time_and_place : FlatEntry → ℕ × ℕ
time_and_place e = (e.time, e.at)

-- ys has the entries of xs, by time and then by place
pub record IsInOrder (xs ys : List FlatEntry) : Type 0 where
  pub same : IsPermutation xs ys
  pub sorted : IsSortedByKey time_and_place by_time_then_place ys

-- ---- an entry as plain numbers

-- what the number of an owner is
abbrev pub owner_kind : Owner → ℕ
owner_kind (owner.Event n) = 0
owner_kind owner.Perf = 1
owner_kind (owner.Unknown id) = 2
owner_kind owner.Short = 3

-- that of its event, or the unknown id
abbrev pub owner_number : Owner → ℕ
owner_number (owner.Event n) = n
owner_number owner.Perf = 0
owner_number (owner.Unknown id) = id
owner_number owner.Short = 0

-- the numbers of an entry
abbrev pub flat_entry : Entry → FlatEntry
flat_entry e = record { time = e.time; at = e.at; number = owner_number e.owner; owner = owner_kind e.owner }

-- ---- the next entry

-- whether records of an event other than SAMPLE end with a sample id
abbrev pub has_ids : FlatEvent → Bool
has_ids e = if is_valid e.config then (configuration_by e.config).sample_id_all else false

-- whether those of the first event do
abbrev pub first_has_ids : List FlatEvent → Bool
first_has_ids [] = false
first_has_ids (e ∷ others) = has_ids e

-- an event by its number
abbrev pub event_at : List FlatEvent → ℕ → Option FlatEvent
event_at [] n = None
event_at (e ∷ es) zero = Some e
event_at (e ∷ es) (suc n) = event_at es n

-- when what is found happened, as a frame of an event
abbrev pub time_by : Option FlatEvent → Sight → ℕ
time_by None found = 0
time_by (Some e) found = if is_valid e.config then time_under (Some (configuration_by e.config)) (order_of_config e.config) found else 0

-- by its owner
abbrev pub time_of : List FlatEvent → Owner → Sight → ℕ
time_of all (owner.Event n) found = time_by (event_at all n) found
time_of all owner.Perf found = 0
time_of all (owner.Unknown id) found = 0
time_of all owner.Short found = 0

-- the frames that a flat file states, if they are in these bytes
abbrev pub frames_of : FlatFile → List ℕ → Option (List ℕ)
frames_of file bytes = if nat_le (file.frames.start + file.frames.size) (length bytes) then Some (slice bytes file.frames.start file.frames.size) else None

-- what is left of a file's frames from an offset on
abbrev pub left_from : File → ℕ → List ℕ
left_from f at = drop (at - f.start) f.frames

-- how a call ends before these bytes
abbrev pub next_end : List ℕ → ℕ
next_end left = if nat_lt (length left) 8 then (if length left == 0 then 1 else 2) else 0

-- The next entry from an offset on is written, and where the frame after it and its payload begins;
-- if there is none, nothing is written. How that ends.
pub record ReadsNext (f : File) (at result new_at : ℕ) (old new : FlatEntry) : Type 0 where
  pub how : result ≡ next_end (left_from f at)
  pub entry : 8 ≤ length (left_from f at) → new ≡ flat_entry (entry_of f (piece_in f (left_from f at)))
  pub after : 8 ≤ length (left_from f at) → new_at ≡ place_in f (after_piece (order_of f.order) (left_from f at))
  pub unread : length (left_from f at) < 8 → (new ≡ old) × (new_at ≡ at)
