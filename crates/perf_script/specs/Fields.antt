-- The fields of a line.
use Rattle.std.specs.Prelude.{ℕ, ◌||◌, Bool, true, false, List, bytes_eq, codes, Option, Some, None, if◌then◌else◌}
use Rattle.std.specs.Borrow.{Bor}
use Rattle.std.specs.List.{list_all}
use Rattle.perf_walk.specs.Filters.{is_among}
use Rattle.perf_script.specs.declared.fields.Fields.{Fields}
use Rattle.perf_script.specs.declared.fields.Style.{Style}

-- all of them
abbrev pub all_fields : Fields
all_fields = record { comm = true; pid = true; tid = true; cpu = true; time = true; period = true; event = true; ip = true; dso = true }

-- whether a word is the name of a field
abbrev pub is_field_name : List ℕ → Bool
is_field_name word =
    bytes_eq word (codes "comm") || (bytes_eq word (codes "pid") || (bytes_eq word (codes "tid") || (bytes_eq word (codes "cpu") || (bytes_eq word (codes "time")
    || (bytes_eq word (codes "period") || (bytes_eq word (codes "event") || (bytes_eq word (codes "ip") || bytes_eq word (codes "dso"))))))))

-- the fields whose names are among some words
abbrev pub fields_among : List (Bor (List ℕ)) → Fields
fields_among words = record {
  comm = is_among words (codes "comm");
  pid = is_among words (codes "pid");
  tid = is_among words (codes "tid");
  cpu = is_among words (codes "cpu");
  time = is_among words (codes "time");
  period = is_among words (codes "period");
  event = is_among words (codes "event");
  ip = is_among words (codes "ip");
  dso = is_among words (codes "dso");
}

-- the fields that words name, if each of them is the name of a field
abbrev pub fields_of : List (Bor (List ℕ)) → Option Fields
fields_of words = if list_all (λ (word : Bor (List ℕ)). is_field_name word.now) words then Some (fields_among words) else None

-- all fields of samples alone
abbrev pub sample_style : Style
sample_style = record { fields = all_fields; side_band = false }
