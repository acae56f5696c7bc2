-- The entry of a frame, by what the calls before have written.
use Rattle.std.proofs.Common.{◌≡◌, ℕ, zero, suc, ◌+◌, ◌-◌, ◌≤◌, ◌<◌, List, [], ◌∷◌, map, length, take, drop, get_or, Option, Some, None, Bool, true, false, not, nat_lt, nat_le, Result, Ok, Err, refl, sym, ap, subst, ◌∙◌, arith}
use Rattle.std.specs.Prelude.{option_map, if◌then◌else◌}
use Rattle.std.proofs.lemmas.Bool.{le-ltb, le-leb}
use Rattle.std.proofs.lemmas.List.{length-drop, take_all}
use Rattle.perf_base.specs.Configuration.{configured_by}
use Rattle.perf_base.specs.Dynamic.{order_of}
use Rattle.perf_base.specs.Layout.{slice}
use Rattle.perf_base.specs.declared.endian.Dynamic.{Dynamic}
use Rattle.perf_base.specs.declared.endian.Dynamic.TheVariants.{Big, Little}
use Rattle.perf_base.specs.declared.sys.perf_event_attr.{perf_event_attr}
use Rattle.perf_file.specs.Entries as file_entries
use Rattle.perf_file.specs.Forms.{opened}
use Rattle.perf_sections.specs.Heads.{head_in, checked_features, checked_parts}
use Rattle.perf_sections.specs.IdPlaces as places
use Rattle.perf_sections.specs.Opened.{File, FileEvent, opened_file, checked_head, events_in, checked_events, file_with, attributes_of}
use Rattle.perf_sections.specs.Opens.{◌>>=◌}
use Rattle.perf_outlines.specs.Outlines.{outline, outline_with, checked_attributes, counted_ids}
use Rattle.perf_file.specs.Owners as owners
use Rattle.perf_file.specs.Pieces.{place_in, after_piece}
use Rattle.perf_outlines.specs.PipeOutlines.{pipe_outline, pipe_head, form_outline}
use Rattle.perf_file.specs.Pipes.{pipe_order, opened_pipe}
use Rattle.perf_sections.specs.Sections.{is_inside}
use Rattle.perf_sections.specs.declared.error.OpenError.{OpenError}
use Rattle.perf_sections.specs.declared.head.Head.{Head}
use Rattle.perf_file.specs.declared.owning.Owner.{Owner}
use Rattle.perf_file.specs.declared.owning.Owner.TheVariants as owner
use Rattle.perf_outlines.specs.declared.summary.Outline.{Outline}
use Rattle.perf_outlines.proofs.PipeCounts.{bind_ok}
use Rattle.perf_outlines.proofs.PipeInMemory.{pipe_long, outline_head, pipe_is, form_some, form_none}
use Rattle.perf_flat.specs.FlatConfigs.{flat_config_of, is_valid, order_code, order_by}
use Rattle.perf_flat.specs.declared.config.FlatConfig.{FlatConfig}
use Rattle.perf_records.specs.Sights.{Sight, sight_in}
use Rattle.perf_outlines.specs.CallerConfigs.{configuration_by, order_of_config}
use Rattle.perf_outlines.specs.CallerConfigs.{is_order}
use Rattle.perf_outlines.specs.Entries.{has_ids, first_has_ids, event_at, time_by, time_of, frames_of, left_from, next_end, owner_kind, owner_number, ReadsNext}
use Rattle.perf_outlines.specs.Files.{flat_file}
use Rattle.perf_outlines.specs.declared.file.FlatFile.{FlatFile}
use Rattle.perf_outlines.specs.declared.file_entries.FlatEntry.{FlatEntry}
use Rattle.perf_outlines.specs.FileEvents.{EventNumbers, place_by, first_place, stated, event_numbers}
use Rattle.perf_outlines.specs.declared.file_events.FlatEvent.{FlatEvent}

-- ---- the file

good_frames : (bytes : List ℕ) (h : Head) (u : Unit {0}) → checked_parts bytes h ≡ Ok u → is_inside bytes h.frames ≡ true
good_frames bytes h u is = go (is_inside bytes h.attributes) (is_inside bytes h.frames) refl _ _ _ is
  where
    go : (a b : Bool) → is_inside bytes h.frames ≡ b → (rest : Result (Unit {0}) OpenError) (x y : OpenError) → ◌≡◌ {A = Result (Unit {0}) OpenError} (if not a then Err x else (if not b then Err y else rest)) (Ok u) → is_inside bytes h.frames ≡ true
    go false b e rest x y is = absurd (cc)
    go true false e rest x y is = absurd (cc)
    go true true e rest x y is = e

-- where the frames of a file are, and its order
pub record IsPlaced (bytes : List ℕ) (h : Head) (f : File) : Type 0 where
  pub order : f.order ≡ h.order
  pub start : f.start ≡ h.frames.start
  pub frames : f.frames ≡ slice bytes h.frames.start h.frames.size
  pub inside : is_inside bytes h.frames ≡ true

pub of_head : (bytes : List ℕ) (h : Head) (f : File) → checked_head bytes ≡ Ok h → (events_in bytes h >>= λ es. checked_events es >>= λ found. Ok (file_with bytes h es)) ≡ Ok f → IsPlaced bytes h f
of_head bytes h f is made =
    let a = bind_ok (events_in bytes h) (λ es. checked_events es >>= λ found. Ok (file_with bytes h es)) f made in
    let b = bind_ok (checked_events a.0) (λ found. Ok (file_with bytes h a.0)) f a.2 in
    let whole : file_with bytes h a.0 ≡ f = let c = b.2 in cc in
    let d = bind_ok (head_in bytes) (λ k. checked_features k >>= λ features. checked_parts bytes k >>= λ parts. Ok k) h is in
    let g = bind_ok (checked_features d.0) (λ features. checked_parts bytes d.0 >>= λ parts. Ok d.0) h d.2 in
    let j = bind_ok (checked_parts bytes d.0) (λ parts. Ok d.0) h g.2 in
    let same : d.0 ≡ h = let c = j.2 in cc in
    record {
      order = ap (λ (x : File). x.order) (sym whole);
      start = ap (λ (x : File). x.start) (sym whole);
      frames = ap (λ (x : File). x.frames) (sym whole);
      inside = subst (λ (k : Head). is_inside bytes k.frames ≡ true) same (good_frames bytes d.0 j.0 j.1);
    }

file_placed : (bytes : List ℕ) (o : Outline) (f : File) → outline bytes ≡ Ok o → opened_file bytes ≡ Ok f → IsPlaced bytes o.head f
unfolding opened_file
file_placed bytes o f sketched whole =
    let a = bind_ok (checked_head bytes) (λ h. checked_attributes bytes h >>= λ done. counted_ids bytes h >>= λ n. Ok (outline_with h n)) o sketched in
    let b = bind_ok (checked_attributes bytes a.0) (λ done. counted_ids bytes a.0 >>= λ n. Ok (outline_with a.0 n)) o a.2 in
    let c = bind_ok (counted_ids bytes a.0) (λ n. Ok (outline_with a.0 n)) o b.2 in
    let head : a.0 ≡ o.head = let d = c.2 in let e : outline_with a.0 c.0 ≡ o = cc in ap (λ (x : Outline). x.head) e in
    let g = bind_ok (checked_head bytes) (λ h. events_in bytes h >>= λ es. checked_events es >>= λ found. Ok (file_with bytes h es)) f whole in
    let both : ◌≡◌ {A = Result Head OpenError} (Ok g.0) (Ok a.0) = sym g.1 ∙ a.1 in
    let one : g.0 ≡ a.0 = cc in
    subst (λ (h : Head). IsPlaced bytes h f) (one ∙ head) (of_head bytes g.0 f g.1 g.2)

-- the frames of a pipe are all bytes after its head
pipe_placed : (order : Dynamic) (bytes : List ℕ) (o : Outline) (f : File) → 16 ≤ length bytes → pipe_outline order bytes ≡ Ok o → opened_pipe order bytes ≡ Ok f → IsPlaced bytes o.head f
pipe_placed order bytes o f long sketched whole =
    let head : o.head ≡ pipe_head order bytes = outline_head order bytes o sketched in
    let made = pipe_is order bytes f whole in
    let n = length-drop 16 bytes in
    let all : take (length bytes - 16) (drop 16 bytes) ≡ drop 16 bytes = take_all (length bytes - 16) (drop 16 bytes) (omega (arith, n)) in
    let ends : 16 + (length bytes - 16) ≤ length bytes = omega (arith, long) in
    subst (λ (h : Head). IsPlaced bytes h f) (sym head) (record {
      order = ap (λ (x : File). x.order) made.1;
      start = ap (λ (x : File). x.start) made.1;
      frames = ap (λ (x : File). x.frames) made.1 ∙ sym all;
      inside = le-leb (16 + (length bytes - 16)) (length bytes) ends;
    })

-- what is known of a file in either form
pub is_placed : (bytes : List ℕ) (o : Outline) (f : File) → form_outline bytes ≡ Ok o → opened bytes ≡ Ok f → IsPlaced bytes o.head f
is_placed bytes o f sketched whole = go (pipe_order bytes) refl
  where
    go : (p : Option Dynamic) → pipe_order bytes ≡ p → IsPlaced bytes o.head f
    go (Some order) is = let form = form_some bytes order is in pipe_placed order bytes o f (pipe_long bytes order is) (sym form.0 ∙ sketched) (sym form.1 ∙ whole)
    go None is = let form = form_none bytes is in file_placed bytes o f (sym form.0 ∙ sketched) (sym form.1 ∙ whole)

-- ---- its events

-- flat events state these events
abbrev pub States : Dynamic → List ℕ → List FlatEvent → List FileEvent → Type 0
States o bytes all es = map (stated (order_of o) bytes) all ≡ map (event_numbers o) es

pub config_is : (o : Dynamic) (bytes : List ℕ) (e : FlatEvent) (x : FileEvent) (all : List FlatEvent) (es : List FileEvent) → States o bytes (e ∷ all) (x ∷ es) → (e.config ≡ flat_config_of x.attribute o) × States o bytes all es
config_is o bytes e x all es is =
    let a : stated (order_of o) bytes e ≡ event_numbers o x = cc in
    let b : States o bytes all es = cc in
    (ap (λ (n : EventNumbers). n.config) a, b)

pub no_event : (o : Dynamic) (bytes : List ℕ) (x : FileEvent) (es : List FileEvent) → States o bytes [] (x ∷ es) → ⊥
no_event o bytes x es is = absurd (cc)

pub no_flat : (o : Dynamic) (bytes : List ℕ) (e : FlatEvent) (all : List FlatEvent) → States o bytes (e ∷ all) [] → ⊥
no_flat o bytes e all is = absurd (cc)

pub same_count : (o : Dynamic) (bytes : List ℕ) (all : List FlatEvent) (es : List FileEvent) → States o bytes all es → length all ≡ length es
same_count o bytes [] [] is = refl
same_count o bytes [] (x ∷ es) is = absurd (no_event o bytes x es is)
same_count o bytes (e ∷ all) [] is = absurd (no_flat o bytes e all is)
same_count o bytes (e ∷ all) (x ∷ es) is = let a = same_count o bytes all es (config_is o bytes e x all es is).1 in omega (arith, a)

ids_by : (o : Dynamic) (e : FlatEvent) (a : perf_event_attr) → e.config ≡ flat_config_of a o → has_ids e ≡ (configured_by a).sample_id_all
ids_by Little e a is = ap (λ (c : FlatConfig). if is_valid c then (configuration_by c).sample_id_all else false) is
ids_by Big e a is = ap (λ (c : FlatConfig). if is_valid c then (configuration_by c).sample_id_all else false) is

pub same_ids : (o : Dynamic) (bytes : List ℕ) (all : List FlatEvent) (es : List FileEvent) → States o bytes all es → first_has_ids all ≡ owners.first_has_ids (attributes_of es)
same_ids o bytes [] [] is = refl
same_ids o bytes [] (x ∷ es) is = absurd (no_event o bytes x es is)
same_ids o bytes (e ∷ all) [] is = absurd (no_flat o bytes e all is)
same_ids o bytes (e ∷ all) (x ∷ es) is = ids_by o e x.attribute (config_is o bytes e x all es is).0

place_with : (o : Dynamic) (e : FlatEvent) (a : perf_event_attr) → e.config ≡ flat_config_of a o → place_by e ≡ places.id_place (configured_by a)
place_with Little e a is = ap (λ (c : FlatConfig). if is_valid c then places.id_place (configuration_by c) else None) is
place_with Big e a is = ap (λ (c : FlatConfig). if is_valid c then places.id_place (configuration_by c) else None) is

pub same_place : (o : Dynamic) (bytes : List ℕ) (all : List FlatEvent) (es : List FileEvent) → States o bytes all es → first_place all ≡ places.first_place (attributes_of es)
same_place o bytes [] [] is = refl
same_place o bytes [] (x ∷ es) is = absurd (no_event o bytes x es is)
same_place o bytes (e ∷ all) [] is = absurd (no_flat o bytes e all is)
same_place o bytes (e ∷ all) (x ∷ es) is = place_with o e x.attribute (config_is o bytes e x all es is).0

time_with : (o : Dynamic) (e : FlatEvent) (a : perf_event_attr) (found : Sight) → e.config ≡ flat_config_of a o → time_by (Some e) found ≡ file_entries.time_under (Some (configured_by a)) (order_of o) found
time_with Little e a found is = ap (λ (c : FlatConfig). if is_valid c then file_entries.time_under (Some (configuration_by c)) (order_of_config c) found else 0) is
time_with Big e a found is = ap (λ (c : FlatConfig). if is_valid c then file_entries.time_under (Some (configuration_by c)) (order_of_config c) found else 0) is

time_at : (o : Dynamic) (bytes : List ℕ) (all : List FlatEvent) (es : List FileEvent) (n : ℕ) (found : Sight) → States o bytes all es
    → time_by (event_at all n) found ≡ file_entries.time_under (option_map (λ (e : FileEvent). configured_by e.attribute) (file_entries.event_at es n)) (order_of o) found
time_at o bytes [] [] n found is = refl
time_at o bytes [] (x ∷ es) n found is = absurd (no_event o bytes x es is)
time_at o bytes (e ∷ all) [] n found is = absurd (no_flat o bytes e all is)
time_at o bytes (e ∷ all) (x ∷ es) zero found is = time_with o e x.attribute found (config_is o bytes e x all es is).0
time_at o bytes (e ∷ all) (x ∷ es) (suc n) found is = time_at o bytes all es n found (config_is o bytes e x all es is).1

pub same_time : (f : File) (bytes : List ℕ) (all : List FlatEvent) (of : Owner) (found : Sight) → States f.order bytes all f.events → time_of all of found ≡ file_entries.time_under (file_entries.config_of f of) (order_of f.order) found
same_time f bytes all (owner.Event n) found is = time_at f.order bytes all f.events n found is
same_time f bytes all owner.Perf found is = refl
same_time f bytes all (owner.Unknown id) found is = refl
same_time f bytes all owner.Short found is = refl

-- ---- an event by its number

pub event_there : (all : List FlatEvent) (n : ℕ) (d : FlatEvent) → n < length all → event_at all n ≡ Some (get_or all n d)
event_there [] n d lt = absurd (omega (arith, lt))
event_there (e ∷ es) zero d lt = refl
event_there (e ∷ es) (suc n) d lt = event_there es n d (omega (arith, lt))

pub event_absent : (all : List FlatEvent) (n : ℕ) → length all ≤ n → event_at all n ≡ None
event_absent [] n le = refl
event_absent (e ∷ es) zero le = absurd (omega (arith, le))
event_absent (e ∷ es) (suc n) le = event_absent es n (omega (arith, le))

-- ---- what ped_file_open wrote

code_is_order : (d : Dynamic) → is_order (order_code d) ≡ true
code_is_order Little = refl
code_is_order Big = refl

pub order_back : (d : Dynamic) → order_by (order_code d) ≡ d
order_back Little = refl
order_back Big = refl

pub bad_order : (o : Outline) (file : FlatFile) → file ≡ flat_file o → is_order file.order ≡ false → ⊥
bad_order o file is other =
    let a : is_order (order_code o.head.order) ≡ is_order file.order = ap (λ (x : FlatFile). is_order x.order) (sym is) in
    let b = code_is_order o.head.order in absurd (cc)

pub order_is : (bytes : List ℕ) (o : Outline) (f : File) (file : FlatFile) → IsPlaced bytes o.head f → file ≡ flat_file o → order_by file.order ≡ f.order
order_is bytes o f file placed is = ap (λ (x : FlatFile). order_by x.order) is ∙ order_back o.head.order ∙ sym placed.order

pub frames_are : (bytes : List ℕ) (o : Outline) (f : File) (file : FlatFile) → IsPlaced bytes o.head f → file ≡ flat_file o → frames_of file bytes ≡ Some f.frames
frames_are bytes o f file placed is =
    let inside : nat_le (o.head.frames.start + o.head.frames.size) (length bytes) ≡ true = placed.inside in
    let there : frames_of (flat_file o) bytes ≡ Some (slice bytes o.head.frames.start o.head.frames.size) = rw inside refl in
    ap (λ (x : FlatFile). frames_of x bytes) is ∙ there ∙ ap (λ (xs : List ℕ). Some xs) (sym placed.frames)

pub no_frames : (bytes : List ℕ) (o : Outline) (f : File) (file : FlatFile) → IsPlaced bytes o.head f → file ≡ flat_file o → None ≡ frames_of file bytes → ⊥
no_frames bytes o f file placed is lost = let a = frames_are bytes o f file placed is in absurd (cc)

pub same_frames : (bytes : List ℕ) (o : Outline) (f : File) (file : FlatFile) (frames : List ℕ) → IsPlaced bytes o.head f → file ≡ flat_file o → Some frames ≡ frames_of file bytes → frames ≡ f.frames
same_frames bytes o f file frames placed is some = let a : ◌≡◌ {A = Option (List ℕ)} (Some frames) (Some f.frames) = some ∙ frames_are bytes o f file placed is in cc

pub start_is : (bytes : List ℕ) (o : Outline) (f : File) (file : FlatFile) → IsPlaced bytes o.head f → file ≡ flat_file o → file.frames.start ≡ f.start
start_is bytes o f file placed is = ap (λ (x : FlatFile). x.frames.start) is ∙ sym placed.start

-- ---- the next entry

pub next_is : (f : File) (at start time kind number : ℕ) (frames left after : List ℕ) (of : Owner) (found : Sight) (old : FlatEntry) → frames ≡ f.frames → start ≡ f.start → left ≡ left_from f at → 8 ≤ length left
    → found ≡ sight_in (order_of f.order) left true → after ≡ after_piece (order_of f.order) left → of ≡ owners.owner_of_sight f found → time ≡ file_entries.time_under (file_entries.config_of f of) (order_of f.order) found → kind ≡ owner_kind of → number ≡ owner_number of
    → ReadsNext f at 0 (start + (length frames - length after)) old (record { time = time; at = start + (length frames - length left); number = number; owner = kind })
next_is f at start time kind number frames left after of found old frames_is begins left_is fits found_is after_is owned time_is kind_is number_is =
    let o = order_of f.order in
    let rest = left_from f at in
    let there : found ≡ sight_in o rest true = found_is ∙ ap (λ xs. sight_in o xs true) left_is in
    let by : of ≡ owners.owner_of_sight f (sight_in o rest true) = owned ∙ ap (owners.owner_of_sight f) there in
    let t = time_is ∙ ap (λ w. file_entries.time_under (file_entries.config_of f w) o found) by ∙ ap (λ s. file_entries.time_under (file_entries.config_of f (owners.owner_of_sight f (sight_in o rest true))) o s) there in
    let place : (xs ys : List ℕ) → xs ≡ ys → start + (length frames - length xs) ≡ place_in f ys = λ xs ys same. ap (λ n. n + (length frames - length xs)) begins ∙ ap (λ zs. f.start + (length zs - length xs)) frames_is ∙ ap (λ zs. f.start + (length f.frames - length zs)) same in
    let a = place left rest left_is in
    let k = kind_is ∙ ap owner_kind by in
    let n = number_is ∙ ap owner_number by in
    let some : 8 ≤ length rest = subst (λ xs. 8 ≤ length xs) left_is fits in
    let many : nat_lt (length rest) 8 ≡ false = le-ltb (length rest) 8 some in
    record {
      how = rw many refl;
      entry = λ le. λ i. record { time = t i; at = a i; number = n i; owner = k i };
      after = λ le. place after (after_piece o rest) (after_is ∙ ap (after_piece o) left_is);
      unread = λ lt. absurd (omega (arith, lt, some));
    }

pub next_none : (f : File) (at result : ℕ) (left : List ℕ) (old : FlatEntry) → left ≡ left_from f at → length left < 8 → result ≡ next_end left → ReadsNext f at result at old old
next_none f at result left old left_is few how =
    let short : length (left_from f at) < 8 = subst (λ xs. length xs < 8) left_is few in
    record {
      how = how ∙ ap next_end left_is;
      entry = λ le. absurd (omega (arith, le, short));
      after = λ le. absurd (omega (arith, le, short));
      unread = λ lt. (refl, refl);
    }
