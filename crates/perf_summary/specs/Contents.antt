-- What a frame of a file adds to the counts.
use Rattle.std.specs.Prelude.{◌≡◌, ℕ, ◌&&◌, not, Bool, true, false, List, map, Option, Some, None, Result, Ok, Err, is_ok, is_none, slice_index_or, option_map, option_and_then, unwrap_or, if◌then◌else◌}
use Rattle.std.specs.Result.{result_ok}
use Rattle.perf_base.specs.Attribute.{or_zero}
use Rattle.perf_base.specs.Configuration.{Configuration, configured_by}
use Rattle.perf_base.specs.Dynamic.{order_of}
use Rattle.perf_base.specs.Order.{Order}
use Rattle.perf_records.specs.Answers.{answer_after}
use Rattle.perf_base.specs.declared.error.ErrorKind.{ErrorKind}
use Rattle.perf_flat.specs.Arrays.{filled}
use Rattle.perf_flat.specs.Flat.{numbers_under}
use Rattle.perf_flat.specs.declared.frame.FlatFrame.{FlatFrame}
use Rattle.perf_records.specs.declared.record_type.RecordType.{RecordType}
use Rattle.perf_records.specs.declared.record_type.RecordType.TheVariants as type
use Rattle.perf_records.specs.Records.{RecordValue, sample_is, lost_is, lost_samples_is}
use Rattle.perf_records.specs.Sights.{Sight, whole, bad}
use Rattle.perf_sample_types.specs.SampleGetters.{getters_of}
use Rattle.perf_words.specs.Bits.{has_bit}
use Rattle.perf_file.specs.Entries.{config_of, event_at, time_of}
use Rattle.perf_sections.specs.Opened.{File, FileEvent}
use Rattle.perf_file.specs.Payloads.{has_payload}
use Rattle.perf_file.specs.Pieces.{Piece, header_seen, pieces_of}
use Rattle.perf_file.specs.declared.owning.Owner.{Owner}
use Rattle.perf_file.specs.declared.owning.Owner.TheVariants as owner
use Rattle.perf_summary.specs.declared.contents.Contents.{Contents}
use Rattle.perf_summary.specs.declared.contents.Numbers.{Numbers}

-- ---- whether it is refused

-- whether frames without a configuration are read: perf's own are, of which nothing is known
abbrev pub is_known : Owner → Bool
is_known (owner.Event n) = true
is_known owner.Perf = true
is_known (owner.Unknown id) = false
is_known owner.Short = false

-- whether what is found is read, under the configuration of its owner: if a record is in it
abbrev pub is_read_under : Option Configuration → Order → Owner → Sight → Bool
is_read_under (Some c) o who (whole h bytes borrowed) = is_ok (answer_after c o h bytes)
is_read_under None o who (whole h bytes borrowed) = is_known who
is_read_under c o who (bad h e) = false

-- whether a frame is read: its payload is whole, too
abbrev pub is_read : File → Piece → Bool
is_read f p = has_payload f p && is_read_under (config_of f p.owner) (order_of f.order) p.owner p.frame

-- ---- its record

-- the record of what is found, under a configuration: none without one, or if it is refused
abbrev pub record_under : Option Configuration → Order → Sight → Option RecordValue
record_under (Some c) o (whole h bytes borrowed) = result_ok (answer_after c o h bytes)
record_under (Some c) o (bad h e) = None
record_under None o found = None

-- the record of a frame under the configuration of its event
abbrev pub record_of : File → Piece → Option RecordValue
record_of f p = if has_payload f p then record_under (config_of f p.owner) (order_of f.order) p.frame else None

-- how many records or samples were lost, as LOST and LOST_SAMPLES tell
abbrev pub lost_in : RecordValue → ℕ
lost_in (lost_is r) = r.lost
lost_in (lost_samples_is r) = r.lost
lost_in _ = 0

-- ---- the period of a sample

-- the period that a sample contains, 0 if it contains none
abbrev pub own_period : RecordValue → Option ℕ
own_period (sample_is s) = Some (or_zero (getters_of s).period)
own_period _ = None

-- the period of an event's samples if they contain none: that of its attribute
abbrev pub fixed_period : FileEvent → Option ℕ
fixed_period e = if has_bit (configured_by e.attribute).sample_type 8 then None else Some e.attribute.sample_period

-- the same of an owner
abbrev pub fixed_period_of : File → Owner → Option ℕ
fixed_period_of f (owner.Event n) = option_and_then fixed_period (event_at f.events n)
fixed_period_of f owner.Perf = None
fixed_period_of f (owner.Unknown id) = None
fixed_period_of f owner.Short = None

-- the period of a sample that was read; other frames have none
abbrev pub period_of : File → Piece → Option ℕ
period_of f p = option_map (unwrap_or (fixed_period_of f p.owner)) (option_and_then own_period (record_of f p))

-- ---- what it adds

-- the number of an owner that is an event
abbrev pub event_of : Owner → Option ℕ
event_of (owner.Event n) = Some n
event_of owner.Perf = None
event_of (owner.Unknown id) = None
event_of owner.Short = None

-- what a frame adds: its event, its type, whether it is refused, when it happened, the period of a
-- sample, and what was lost
abbrev pub contents_of : File → Piece → Contents
contents_of f p = record {
  event = event_of p.owner;
  type_ = (header_seen p.frame).type_;
  is_refused = not (is_read f p);
  time = time_of f p;
  period = period_of f p;
  lost = or_zero (option_map lost_in (record_of f p));
}

-- what the frames of a file add
abbrev pub all_contents : File → List Contents
all_contents f = map (contents_of f) (pieces_of f)

-- ---- the numbers of a record, in the form of private contracts

-- those of a record
abbrev pub numbers_of : RecordValue → Numbers
numbers_of r = record { period = own_period r; lost = lost_in r }

-- those of no record
abbrev pub no_numbers : Numbers
no_numbers = record { period = None; lost = 0 }

-- those that were read, or those of no record
abbrev pub numbers_or_none : Option Numbers → Numbers
numbers_or_none (Some numbers) = numbers
numbers_or_none None = no_numbers

-- those of a whole frame whose event has no configuration
abbrev pub own_numbers : Owner → Option Numbers
own_numbers who = if is_known who then Some no_numbers else None

-- the period of a sample by the one that it contains, and the fixed one of its event
abbrev pub period_by : (fixed own : Option ℕ) → Option ℕ
period_by fixed own = option_map (unwrap_or fixed) own

-- those of a record of a type, of which these are the numbers in a flat frame
abbrev pub numbers_by : Option RecordType → List ℕ → Numbers
numbers_by (Some type.Sample) numbers = record { period = Some (slice_index_or numbers 2 0); lost = 0 }
numbers_by (Some type.Lost) numbers = record { period = None; lost = slice_index_or numbers 1 0 }
numbers_by (Some type.LostSamples) numbers = record { period = None; lost = slice_index_or numbers 0 0 }
numbers_by _ numbers = no_numbers

-- A frame was read, and a flat frame has the numbers of its record; or it is refused.
abbrev pub Reads : (read_format : ℕ) → Result RecordValue ErrorKind → (is_read : Bool) → FlatFrame → Type 0
Reads format answer true f = (r : RecordValue) × (answer ≡ Ok r) × (f.numbers ≡ filled (numbers_under format r))
Reads format answer false f = is_ok answer ≡ false

-- The numbers of what is found, with a payload that is whole or not, under the configuration of its
-- owner: there are none if it is refused.
pub record AreNumbersBy (has_payload : Bool) (c : Option Configuration) (o : Order) (who : Owner) (found : Sight)
    (read : Option Numbers) : Type 0 where
  pub refused : is_none read ≡ not (has_payload && is_read_under c o who found)
  pub period : (numbers_or_none read).period ≡ option_and_then own_period (if has_payload then record_under c o found else None)
  pub lost : (numbers_or_none read).lost ≡ or_zero (option_map lost_in (if has_payload then record_under c o found else None))

-- those of a frame
abbrev pub AreNumbersOf : File → Piece → Option Numbers → Type 0
AreNumbersOf f p read = AreNumbersBy (has_payload f p) (config_of f p.owner) (order_of f.order) p.owner p.frame read
