-- The events of a file as plain numbers.
use Rattle.std.proofs.Common.{◌≡◌, ℕ, zero, suc, ◌+◌, ◌-◌, ◌<◌, ◌/◌, List, [], ◌∷◌, map, length, take, drop, get_or, min, zip, Option, Bool, Result, Ok, Err, OnOk, refl, sym, ap, subst, ◌∙◌, ◌&&◌, All, arith}
use Rattle.std.proofs.lemmas.List.{take_all, length-drop}
use Rattle.std.specs.List.Sorted.{IsPermutation, IsNonDecreasingBy}
use Rattle.perf_base.specs.Configuration.{configured_by}
use Rattle.perf_base.specs.Dynamic.{order_of}
use Rattle.perf_base.specs.declared.endian.Dynamic.{Dynamic}
use Rattle.perf_base.specs.declared.endian.Dynamic.TheVariants.{Big, Little}
use Rattle.perf_base.specs.declared.sys.perf_event_attr.{perf_event_attr}
use Rattle.perf_sections.specs.IdPlaces as places
use Rattle.perf_sections.specs.IdSections.{id_sections_in, sections_of, checked_apart}
use Rattle.perf_sections.specs.IdTables.{id_table, event_of, checked_table}
use Rattle.perf_sections.specs.Opened.{File, FileEvent, opened_file, event_in, file_with, table_of}
use Rattle.perf_sections.specs.Opens.{◌>>=◌}
use Rattle.perf_outlines.specs.Outlines.{id_count, counted_ids, apart_parts, table_in}
use Rattle.perf_file.specs.Pipes.{pipe_with, all_frames, opened_pipe}
use Rattle.perf_sections.specs.Sections.{ShareNothing, IsInside}
use Rattle.perf_sections.specs.declared.error.OpenError.{OpenError}
use Rattle.perf_sections.specs.declared.head.Head.{Head}
use Rattle.perf_sections.specs.declared.id_place.IdPlace.{IdPlace}
use Rattle.perf_sections.specs.declared.ids.IdOfEvent.{IdOfEvent}
use Rattle.perf_sections.specs.declared.section.Section.{Section}
use Rattle.perf_outlines.specs.declared.summary.Outline.{Outline}
use Rattle.perf_outlines.proofs.InMemory.{HasEvents, again, ids_zip}
use Rattle.perf_outlines.proofs.PipeInMemory.{HasNoteEvents}
use Rattle.perf_outlines.proofs.Sizes.{ids_fit}
use Rattle.perf_outlines.specs.FileEvents.{flat_event, flat_events, note_events, place_by, first_place, all_at, checked_places, stated, event_numbers, AreRead, ReadsFile}
use Rattle.perf_outlines.specs.declared.file_events.FlatEvent.{FlatEvent}

pub drop_some : {A : Type 0} (xs : List A) (i : ℕ) (d : A) → i < length xs → drop i xs ≡ get_or xs i d ∷ drop (i + 1) xs
drop_some [] i d lt = absurd (omega (arith, lt))
drop_some (x ∷ xs) zero d lt = refl
drop_some {A} (x ∷ xs) (suc i) d lt = let e : suc i + 1 ≡ suc (i + 1) = omega arith in rw e (drop_some xs i d (omega (arith, lt)))

-- ---- places of ids

place_is : (o : Dynamic) (a : perf_event_attr) (s : Section) → place_by (flat_event o (a, s)) ≡ places.id_place (configured_by a)
place_is Little a s = refl
place_is Big a s = refl

at_all : (o : Dynamic) (place : Option IdPlace) (ats : List perf_event_attr) (ss : List Section) → length ats ≡ length ss → all_at place (map (flat_event o) (zip ats ss)) ≡ places.all_at place ats
at_all o place [] ss same = refl
at_all o place (a ∷ ats) [] same = absurd (omega (arith, same))
at_all o place (a ∷ ats) (s ∷ ss) same =
    ap (λ p. places.is_same_place place p && all_at place (map (flat_event o) (zip ats ss))) (place_is o a s)
    ∙ ap (λ (b : Bool). places.is_same_place place (places.id_place (configured_by a)) && b) (at_all o place ats ss (omega (arith, same)))

pub first_is : (o : Dynamic) (ats : List perf_event_attr) (ss : List Section) → length ats ≡ length ss → first_place (map (flat_event o) (zip ats ss)) ≡ places.first_place ats
first_is o [] ss same = refl
first_is o (a ∷ ats) [] same = absurd (omega (arith, same))
first_is o (a ∷ ats) (s ∷ ss) same = place_is o a s

many : (o : Dynamic) (ats : List perf_event_attr) (ss : List Section) → length ats ≡ length ss → length (map (flat_event o) (zip ats ss)) ≡ length ats
many o [] ss same = refl
many o (a ∷ ats) [] same = absurd (omega (arith, same))
many o (a ∷ ats) (s ∷ ss) same = let e = many o ats ss (omega (arith, same)) in omega (arith, e)

places_are : (o : Dynamic) (ats : List perf_event_attr) (ss : List Section) → length ats ≡ length ss → checked_places (map (flat_event o) (zip ats ss)) ≡ places.checked_places ats
places_are o ats ss same =
    let n = many o ats ss same in
    let f = first_is o ats ss same in
    let a = at_all o (places.first_place ats) ats ss same in
    rw (n, f, a) refl

-- ---- what is read

-- What opening depends on, once the attributes of its events and the sections of their ids were read:
-- the places of ids, and the table of them.
pub record Opens (order : Dynamic) (bytes : List ℕ) (whole : Result File OpenError) (ats : List perf_event_attr) (ss : List Section) : Type 0 where
  pub made : List FileEvent → File
  pub many : length ats ≡ length ss
  pub order_is : (es : List FileEvent) → (made es).order ≡ order
  pub events_are : (es : List FileEvent) → (made es).events ≡ es
  pub opens : whole ≡ ((places.checked_places ats >>= λ place. checked_table (table_in (order_of order) bytes ss)) >>= λ found. Ok (made (map (event_in (order_of order) bytes) (zip ats ss))))

-- of a file
pub opens_file : (bytes : List ℕ) (h : Head) (parts : List Section) (has : HasEvents bytes h parts) → Opens h.order bytes (opened_file bytes) has.attributes has.ids
opens_file bytes h parts has = record {
  made = file_with bytes h;
  many = has.many;
  order_is = λ es. refl;
  events_are = λ es. refl;
  opens = has.opens;
}

-- of a pipe
pub opens_pipe : (order : Dynamic) (bytes : List ℕ) (o : Outline) (ss : List Section) (has : HasNoteEvents order bytes o ss) → Opens order bytes (opened_pipe order bytes) has.attributes ss
opens_pipe order bytes o ss has = record {
  made = pipe_with order (drop 16 bytes);
  many = has.many;
  order_is = λ es. refl;
  events_are = λ es. refl;
  opens = has.opens;
}

-- the events that were written, and those of the definition
pub event_list : {bytes : List ℕ} {h : Head} {parts : List Section} (events : List FlatEvent) (has : HasEvents bytes h parts) → flat_events bytes h (drop 3 parts) ≡ Ok events → events ≡ map (flat_event h.order) (zip has.attributes has.ids)
event_list {bytes} {h} {parts} events has is =
    let made : flat_events bytes h (drop 3 parts) ≡ Ok (map (flat_event h.order) (zip has.attributes has.ids)) = ap (λ r. r >>= λ ats. Ok (map (flat_event h.order) (zip ats (drop 3 parts)))) has.attributes_are ∙ ap (λ ps. Ok (map (flat_event h.order) (zip has.attributes (drop 3 ps)))) has.parts_are in
    let both : ◌≡◌ {A = Result (List FlatEvent) OpenError} (Ok events) (Ok (map (flat_event h.order) (zip has.attributes has.ids))) = sym is ∙ made in
    let same : events ≡ map (flat_event h.order) (zip has.attributes has.ids) = cc in same

-- the same of a pipe
pub note_list : {order : Dynamic} {bytes : List ℕ} {o : Outline} {ss : List Section} (events : List FlatEvent) (has : HasNoteEvents order bytes o ss) → note_events order (all_frames order (drop 16 bytes)) ss ≡ Ok events → events ≡ map (flat_event order) (zip has.attributes ss)
note_list {order} {bytes} {o} {ss} events has is =
    let made : note_events order (all_frames order (drop 16 bytes)) ss ≡ Ok (map (flat_event order) (zip has.attributes ss)) = ap (λ r. r >>= λ ats. Ok (map (flat_event order) (zip ats ss))) has.attributes_are in
    let both : ◌≡◌ {A = Result (List FlatEvent) OpenError} (Ok events) (Ok (map (flat_event order) (zip has.attributes ss))) = sym is ∙ made in
    let same : events ≡ map (flat_event order) (zip has.attributes ss) = cc in same

-- the first of two steps is refused, as the second is not
pub only_first : {A B : Type 0} (r : Result A OpenError) (g : A → B) (e : OpenError) → ◌≡◌ {A = Result B OpenError} (r >>= λ x. Ok (g x)) (Err e) → r ≡ Err e
only_first (Ok x) g e is = absurd (cc)
only_first (Err d) g e is = again d e is

-- the table of a file's ids
pub file_table : {bytes : List ℕ} {h : Head} {parts : List Section} (ids : List IdOfEvent) (has : HasEvents bytes h parts) → ids ≡ table_in (order_of h.order) bytes (drop 3 parts) → ids ≡ table_in (order_of h.order) bytes has.ids
file_table {bytes} {h} {parts} ids has is = is ∙ ap (λ ps. table_in (order_of h.order) bytes (drop 3 ps)) has.parts_are

-- events without a common place of their ids are refused
pub places_refused : (order : Dynamic) (bytes : List ℕ) (whole : Result File OpenError) (ats : List perf_event_attr) (ss : List Section) (events : List FlatEvent) (e : OpenError) → Opens order bytes whole ats ss → events ≡ map (flat_event order) (zip ats ss) → checked_places events ≡ Err e → whole ≡ Err e
places_refused order bytes whole ats ss events e has is refused =
    let no : places.checked_places ats ≡ Err e = sym (places_are order ats ss has.many) ∙ ap checked_places (sym is) ∙ refused in
    has.opens ∙ ap (λ r. (r >>= λ place. checked_table (table_in (order_of order) bytes ss)) >>= λ found. Ok (has.made (map (event_in (order_of order) bytes) (zip ats ss)))) no

-- what opening depends on, once places were compared
table_left : (order : Dynamic) (bytes : List ℕ) (whole : Result File OpenError) (ats : List perf_event_attr) (ss : List Section) (events : List FlatEvent) (has : Opens order bytes whole ats ss) → events ≡ map (flat_event order) (zip ats ss) → checked_places events ≡ Ok tt
    → whole ≡ (checked_table (table_in (order_of order) bytes ss) >>= λ found. Ok (has.made (map (event_in (order_of order) bytes) (zip ats ss))))
table_left order bytes whole ats ss events has is fine =
    let yes : places.checked_places ats ≡ Ok tt = sym (places_are order ats ss has.many) ∙ ap checked_places (sym is) ∙ fine in
    has.opens ∙ ap (λ r. (r >>= λ place. checked_table (table_in (order_of order) bytes ss)) >>= λ found. Ok (has.made (map (event_in (order_of order) bytes) (zip ats ss)))) yes

-- an id of two events is refused
table_refused : (order : Dynamic) (bytes : List ℕ) (whole : Result File OpenError) (ats : List perf_event_attr) (ss : List Section) (events : List FlatEvent) (ids : List IdOfEvent) (e : OpenError) → Opens order bytes whole ats ss → events ≡ map (flat_event order) (zip ats ss) → checked_places events ≡ Ok tt
    → ids ≡ table_in (order_of order) bytes ss → checked_table ids ≡ Err e → whole ≡ Err e
table_refused order bytes whole ats ss events ids e has is fine listed refused =
    table_left order bytes whole ats ss events has is fine ∙ ap (λ xs. checked_table xs >>= λ found. Ok (has.made (map (event_in (order_of order) bytes) (zip ats ss)))) (sym listed)
    ∙ ap (λ r. r >>= λ found. Ok (has.made (map (event_in (order_of order) bytes) (zip ats ss)))) refused

numbers_are : (o : Dynamic) (bytes : List ℕ) (es : List (perf_event_attr × Section)) → map (stated (order_of o) bytes) (map (flat_event o) es) ≡ map (event_numbers o) (map (event_in (order_of o) bytes) es)
numbers_are o bytes [] = refl
numbers_are o bytes (e ∷ es) = ap (λ xs. event_numbers o (event_in (order_of o) bytes e) ∷ xs) (numbers_are o bytes es)

-- the events of the file are those that were written
is_read : (order : Dynamic) (bytes : List ℕ) (whole : Result File OpenError) (ats : List perf_event_attr) (ss : List Section) (events : List FlatEvent) (ids sorted : List IdOfEvent) → Opens order bytes whole ats ss → events ≡ map (flat_event order) (zip ats ss) → checked_places events ≡ Ok tt
    → ids ≡ table_in (order_of order) bytes ss → checked_table ids ≡ Ok tt → IsPermutation ids sorted → IsNonDecreasingBy (λ (e : IdOfEvent). e.id) sorted → ((id : ℕ) → event_of sorted id ≡ event_of ids id)
    → (f : File) × (whole ≡ Ok f) × AreRead bytes f events sorted
is_read order bytes whole ats ss events ids sorted has is fine listed one moved rises found =
    let o = order_of order in
    let es = map (event_in o bytes) (zip ats ss) in
    let f = has.made es in
    let there : whole ≡ Ok f = table_left order bytes whole ats ss events has is fine ∙ ap (λ xs. checked_table xs >>= λ found. Ok f) (sym listed) ∙ ap (λ r. r >>= λ found. Ok f) one in
    let table : ids ≡ table_of f.events = listed ∙ ap (λ xs. id_table 0 xs) (sym (ids_zip o bytes ats ss has.many)) ∙ ap table_of (sym (has.events_are es)) in (
      f,
      there,
      record {
        all = ap (map (stated (order_of f.order) bytes)) is ∙ ap (λ (d : Dynamic). map (stated (order_of d) bytes) (map (flat_event order) (zip ats ss))) (has.order_is es) ∙ numbers_are order bytes (zip ats ss)
            ∙ ap (λ (d : Dynamic). map (event_numbers d) es) (sym (has.order_is es)) ∙ ap (map (event_numbers f.order)) (sym (has.events_are es));
        same = subst (λ xs. IsPermutation xs sorted) table moved;
        table = record { sorted = rises; found = λ id. found id ∙ ap (λ xs. event_of xs id) table };
      },
    )

-- ---- room for the ids

counted : (h : Head) (r : Result (List Section) OpenError) (parts : List Section) (most n : ℕ) → ((r >>= λ ids. Ok (sections_of h ids)) >>= λ ps. checked_apart ps >>= λ apart. Ok ps) ≡ Ok parts → (r >>= λ all. Ok (min (id_count all) most)) ≡ Ok n
    → n ≡ min (id_count (drop 3 parts)) most
counted h (Err e) parts most n is c = absurd (cc)
counted h (Ok all) parts most n is c = let b : min (id_count all) most ≡ n = cc in sym b ∙ go (checked_apart (sections_of h all)) is
  where
    go : (d : Result (Unit {0}) OpenError) → (d >>= λ apart. Ok (sections_of h all)) ≡ Ok parts → min (id_count all) most ≡ min (id_count (drop 3 parts)) most
    go (Ok u) is = let a : sections_of h all ≡ parts = cc in ap (λ ps. min (id_count (drop 3 ps)) most) a
    go (Err e) is = absurd (cc)

pub ids_room : (bytes : List ℕ) (h : Head) (parts : List Section) (n : ℕ) → apart_parts bytes h ≡ Ok parts → counted_ids bytes h ≡ Ok n → ShareNothing parts → All (IsInside bytes) parts → n ≡ id_count (drop 3 parts)
ids_room bytes h parts n read c apart inside =
    let fit = ids_fit bytes parts apart inside in
    let is = counted h (id_sections_in bytes h) parts (length bytes / 8) n read c in
    omega (arith, fit, is)

-- ---- the parts after the first three

pub rest_is : (parts : List Section) → take (length parts - 3) (drop 3 parts) ≡ drop 3 parts
rest_is parts = let n = length-drop 3 parts in take_all (length parts - 3) (drop 3 parts) (omega (arith, n))

pub all_after : (P : Section → Type 0) (n : ℕ) (xs : List Section) → All P xs → All P (drop n xs)
all_after P zero xs h = h
all_after P (suc n) [] h = h
all_after P (suc n) (x ∷ xs) h = all_after P n xs (λ k d lt. h (suc k) d (omega (arith, lt)))

-- what comparing the ids returns is what opening the file does
pub read_ends : (result : Result (Unit {0}) OpenError) (order : Dynamic) (bytes : List ℕ) (whole : Result File OpenError) (ats : List perf_event_attr) (ss : List Section) (events : List FlatEvent) (ids sorted : List IdOfEvent) → Opens order bytes whole ats ss → events ≡ map (flat_event order) (zip ats ss) → checked_places events ≡ Ok tt
    → ids ≡ table_in (order_of order) bytes ss → result ≡ checked_table ids → IsPermutation ids sorted → IsNonDecreasingBy (λ (e : IdOfEvent). e.id) sorted → OnOk result ((id : ℕ) → event_of sorted id ≡ event_of ids id)
    → ReadsFile bytes whole result events sorted
read_ends (Ok done) order bytes whole ats ss events ids sorted has is fine listed table moved rises found = is_read order bytes whole ats ss events ids sorted has is fine listed (sym table) moved rises found
read_ends (Err e) order bytes whole ats ss events ids sorted has is fine listed table moved rises found = table_refused order bytes whole ats ss events ids e has is fine listed (sym table)
