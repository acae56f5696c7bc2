-- The JSON of a summary has no number that is not whole.
use Rattle.std.proofs.Common.{◌≡◌, ℕ, zero, suc, ◌==◌, Bool, true, false, ◌||◌, List, [], ◌∷◌, ◌++◌, map, length, get_or, refl}
use Rattle.std.specs.Prelude.{codes, if◌then◌else◌, Option, Some, None, Result, Ok, Err}
use Rattle.std.specs.List.{enumerate_from}
use Rattle.serde_json.specs.Data.{Data}
use Rattle.serde_json.specs.View.{items_of}
use Rattle.serde_json.specs.Written.{has_float, items_have_float}
use Rattle.perf_base.specs.declared.endian.Dynamic.{Dynamic}
use Rattle.perf_file.specs.FeatureTexts.{text_of, command_line_of}
use Rattle.perf_sections.specs.Names.{name_view, name_text}
use Rattle.perf_sections.specs.declared.events.Event.{Event}
use Rattle.perf_file.specs.declared.feature.BadFeature.{BadFeature}
use Rattle.perf_summary.specs.OwnData.{own_events_data, own_types_data, own_data}
use Rattle.perf_summary.specs.Datas.{number_data}
use Rattle.perf_summary.specs.CountSteps.{no_count}
use Rattle.perf_summary.specs.ThreadText.{thread_data, threads_data}
use Rattle.perf_summary.specs.declared.threads.Thread.{Thread}
use Rattle.perf_summary.specs.SummaryJson.{type_object, printed_data, words_data, feature_data, event_data, type_data, types_data, other_data}
use Rattle.perf_summary.specs.TypeNames.{type_name}
use Rattle.perf_summary.specs.declared.counts.Counts.{Counts}
use Rattle.perf_summary.specs.declared.counts.EventCount.{EventCount}

-- whether one of several has
abbrev pub any_float : List Data → Bool
any_float xs = items_have_float (items_of xs)

none_of : (a b : Bool) → a ≡ false → b ≡ false → (a || b) ≡ false
none_of a b p q = rw (p, q) refl

parts_of : (a b : Bool) → (a || b) ≡ false → (a ≡ false) × (b ≡ false)
parts_of false b e = (refl, e)
parts_of true b e = absurd (cc)

pub none_append : (xs ys : List Data) → any_float xs ≡ false → any_float ys ≡ false → any_float (xs ++ ys) ≡ false
none_append [] ys p q = q
none_append (x ∷ xs) ys p q =
    let parts = parts_of (has_float x) (any_float xs) p in
    none_of (has_float x) (any_float (xs ++ ys)) parts.0 (none_append xs ys parts.1 q)

pub none_map : {A : Type 0} (f : A → Data) → ((x : A) → has_float (f x) ≡ false) → (xs : List A) → any_float (map f xs) ≡ false
none_map f none [] = refl
none_map f none (x ∷ xs) = none_of (has_float (f x)) (any_float (map f xs)) (none x) (none_map f none xs)

pub none_number : (n : Option ℕ) → has_float (number_data n) ≡ false
none_number (Some n) = refl
none_number None = refl

none_feature : {A : Type 0} (stated : A → Data) → ((x : A) → has_float (stated x) ≡ false) → (found : Result (Option A) BadFeature) → has_float (feature_data stated found) ≡ false
none_feature stated none (Ok (Some x)) = none x
none_feature stated none (Ok None) = refl
none_feature stated none (Err e) = refl

none_event : (c : EventCount) (name : List ℕ) → has_float (event_data c name) ≡ false
none_event c name = rw (none_number c.first, none_number c.last) refl

none_thread : (t : (ℕ × ℕ) × Thread) → has_float (thread_data t) ≡ false
none_thread t = rw (none_number t.1.end, none_number t.1.start) refl

none_type : (ty count : ℕ) → any_float (type_data ty count) ≡ false
none_type ty count = go (count == 0) where
  go : (b : Bool) → any_float (if b then [] else type_object count (type_name ty) (Some ty) ∷ []) ≡ false
  go true = refl
  go false = refl

none_types : (counts : ℕ → ℕ) (n : ℕ) → any_float (types_data counts n) ≡ false
none_types counts zero = refl
none_types counts (suc ty) = none_append (types_data counts ty) (type_data ty (counts ty)) (none_types counts ty) (none_type ty (counts ty))

none_other : (count : ℕ) → any_float (other_data count) ≡ false
none_other count = go (count == 0) where
  go : (b : Bool) → any_float (if b then [] else type_object count (codes "other") None ∷ []) ≡ false
  go true = refl
  go false = refl

pub no_float : (order : Dynamic) (bytes : List ℕ) (events : List Event) (c : Counts) (threads : List ((ℕ × ℕ) × Thread)) → has_float (own_data order bytes events c threads) ≡ false
no_float order bytes events c threads =
    let command : has_float (feature_data words_data (command_line_of order bytes)) ≡ false = none_feature words_data (λ words. none_map printed_data (λ x. refl) words) (command_line_of order bytes) in
    let counts : any_float (own_events_data c.events.items 0 events) ≡ false =
    none_map (λ numbered. event_data (get_or c.events.items numbered.0 no_count) (name_text (name_view numbered.1.name)))
    (λ numbered. none_event (get_or c.events.items numbered.0 no_count) (name_text (name_view numbered.1.name))) (enumerate_from 0 events) in
    let host : has_float (feature_data printed_data (text_of order bytes 3)) ≡ false = none_feature printed_data (λ x. refl) (text_of order bytes 3) in
    let release : has_float (feature_data printed_data (text_of order bytes 4)) ≡ false = none_feature printed_data (λ x. refl) (text_of order bytes 4) in
    let tasks : any_float (threads_data threads) ≡ false = none_map thread_data none_thread threads in
    let types : any_float (own_types_data c.types.items (length c.types.items) ++ other_data c.other_types) ≡ false =
    none_append (own_types_data c.types.items (length c.types.items)) (other_data c.other_types)
    (none_types (λ ty. get_or c.types.items ty 0) (length c.types.items)) (none_other c.other_types) in
    rw (command, counts, host, release, tasks, types) refl
