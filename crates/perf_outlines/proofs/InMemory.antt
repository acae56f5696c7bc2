-- What a file is, by what the calls over memory of the caller's return.
use Rattle.std.proofs.Common.{◌≡◌, ◌⊎◌, inl, inr, ℕ, List, [], ◌∷◌, map, length, zip, Result, Ok, Err, refl, sym, ap, ◌∙◌, arith}
use Rattle.perf_base.specs.Dynamic.{order_of}
use Rattle.perf_base.specs.Order.{Order}
use Rattle.perf_base.specs.declared.sys.perf_event_attr.{perf_event_attr}
use Rattle.perf_sections.specs.declared.error.OpenError.{OpenError}
use Rattle.perf_sections.specs.declared.head.Head.{Head}
use Rattle.perf_sections.specs.declared.section.Section.{Section}
use Rattle.perf_sections.specs.Attributes.{attribute_at, attributes_in}
use Rattle.perf_sections.specs.IdPlaces.{checked_places}
use Rattle.perf_sections.specs.IdSections.{id_section_at, id_sections_in, sections_of, checked_apart, entry_count}
use Rattle.perf_sections.specs.IdTables.{id_table, checked_table}
use Rattle.perf_sections.specs.Opened.{FileEvent, opened_file, checked_head, events_in, event_in, checked_events, file_with, attributes_of, table_of}
use Rattle.perf_sections.specs.Opens.{◌>>=◌}
use Rattle.perf_outlines.specs.Outlines.{outline, outline_with, checked_attributes, counted_ids, apart_parts, words_in, table_in}
use Rattle.perf_file.proofs.Whole.{same_length}

-- ---- refusals

abbrev done : {A : Type 0} → Result A OpenError → Result (Unit {0}) OpenError
done r = r >>= λ all. Ok tt

pub again : {A B : Type 0} (d e : OpenError) → ◌≡◌ {A = Result A OpenError} (Err d) (Err e) → ◌≡◌ {A = Result B OpenError} (Err d) (Err e)
again d e is = let s : d ≡ e = cc in ap (λ x. Err x) s

-- what is refused before parts are compared is refused
before_parts : {A B C D X Y : Type 0} (e : OpenError) (ra : Result A OpenError) (ri : Result B OpenError) (count : B → C) (made : C → D) (last : A → B → Result X OpenError) (k : X → Result Y OpenError)
    → (done ra >>= λ a. (ri >>= λ all. Ok (count all)) >>= λ n. Ok (made n)) ≡ Err e → ((ra >>= λ x. ri >>= λ y. last x y) >>= k) ≡ Err e
before_parts e (Err d) ri count made last k is = again d e is
before_parts e (Ok x) (Err d) count made last k is = again d e is
before_parts e (Ok x) (Ok y) count made last k is = absurd (cc)

pub outline_refused : (bytes : List ℕ) (e : OpenError) → outline bytes ≡ Err e → opened_file bytes ≡ Err e
unfolding opened_file
outline_refused bytes e is = go (checked_head bytes) is
  where
    go : (r : Result Head OpenError) → (r >>= λ h. checked_attributes bytes h >>= λ a. counted_ids bytes h >>= λ n. Ok (outline_with h n)) ≡ Err e → (r >>= λ h. events_in bytes h >>= λ es. checked_events es >>= λ found. Ok (file_with bytes h es)) ≡ Err e
    go (Err d) is = again d e is
    go (Ok h) is = before_parts e (attributes_in bytes h) (id_sections_in bytes h) _ (outline_with h) _ _ is

pub attributes_refused : (bytes : List ℕ) (h : Head) (e : OpenError) → checked_head bytes ≡ Ok h → checked_attributes bytes h ≡ Err e → opened_file bytes ≡ Err e
unfolding opened_file
attributes_refused bytes h e is refused = rw is (go (attributes_in bytes h) refused)
  where
    go : (r : Result (List perf_event_attr) OpenError) → done r ≡ Err e → ((r >>= λ ats. id_sections_in bytes h >>= λ ss. checked_apart (sections_of h ss) >>= λ apart. Ok (map (event_in (order_of h.order) bytes) (zip ats ss))) >>= λ es. checked_events es >>= λ found. Ok (file_with bytes h es)) ≡ Err e
    go (Err d) is = again d e is
    go (Ok ats) is = absurd (cc)

-- ---- events

-- the attributes that were read
some : {A : Type 0} (r : Result A OpenError) → done r ≡ Ok tt → (x : A) × (r ≡ Ok x)
some (Ok x) is = (x, refl)
some (Err e) is = absurd (cc)

-- the sections of ids, and what comparing them returns
parts_some : (h : Head) (r : Result (List Section) OpenError) (parts : List Section) → ((r >>= λ ids. Ok (sections_of h ids)) >>= λ ps. checked_apart ps >>= λ apart. Ok ps) ≡ Ok parts
    → (ids : List Section) × (r ≡ Ok ids) × (parts ≡ sections_of h ids) × (checked_apart (sections_of h ids) ≡ Ok tt)
parts_some h (Err e) parts is = absurd (cc)
parts_some h (Ok ids) parts is = go (checked_apart (sections_of h ids)) refl is
  where
    go : (c : Result (Unit {0}) OpenError) → checked_apart (sections_of h ids) ≡ c → (c >>= λ apart. Ok (sections_of h ids)) ≡ Ok parts → (all : List Section) × (◌≡◌ {A = Result (List Section) OpenError} (Ok ids) (Ok all)) × (parts ≡ sections_of h all) × (checked_apart (sections_of h all) ≡ Ok tt)
    go (Ok u) c is = let s : sections_of h ids ≡ parts = cc in (ids, refl, sym s, c)
    go (Err e) c is = absurd (cc)

pub attributes_zip : (o : Order) (bytes : List ℕ) (ats : List perf_event_attr) (ss : List Section) → length ats ≡ length ss → attributes_of (map (event_in o bytes) (zip ats ss)) ≡ ats
attributes_zip o bytes [] ss same = refl
attributes_zip o bytes (a ∷ ats) [] same = absurd (omega (arith, same))
attributes_zip o bytes (a ∷ ats) (s ∷ ss) same = ap (λ xs. a ∷ xs) (attributes_zip o bytes ats ss (omega (arith, same)))

pub ids_zip : (o : Order) (bytes : List ℕ) (ats : List perf_event_attr) (ss : List Section) → length ats ≡ length ss → map (λ (e : FileEvent). e.ids) (map (event_in o bytes) (zip ats ss)) ≡ map (words_in o bytes) ss
ids_zip o bytes ats [] same = nothing ats
  where
    nothing : (xs : List perf_event_attr) → map (λ (e : FileEvent). e.ids) (map (event_in o bytes) (zip xs [])) ≡ []
    nothing [] = refl
    nothing (x ∷ xs) = refl
ids_zip o bytes [] (s ∷ ss) same = absurd (omega (arith, same))
ids_zip o bytes (a ∷ ats) (s ∷ ss) same = ap (λ xs. words_in o bytes s ∷ xs) (ids_zip o bytes ats ss (omega (arith, same)))

-- The events of a file whose attributes and parts were read, and what opening it depends on then:
-- the places of ids, and the table of them.
pub record HasEvents (bytes : List ℕ) (h : Head) (parts : List Section) : Type 0 where
  pub attributes : List perf_event_attr
  pub ids : List Section
  pub attributes_are : attributes_in bytes h ≡ Ok attributes
  pub parts_are : parts ≡ sections_of h ids
  pub many : length attributes ≡ length ids
  pub opens : opened_file bytes ≡ ((checked_places attributes >>= λ place. checked_table (table_in (order_of h.order) bytes ids)) >>= λ found. Ok (file_with bytes h (map (event_in (order_of h.order) bytes) (zip attributes ids))))

opened_by : (bytes : List ℕ) (h : Head) (ats : List perf_event_attr) (ss : List Section) (apart : Result (Unit {0}) OpenError) → checked_head bytes ≡ Ok h → attributes_in bytes h ≡ Ok ats → id_sections_in bytes h ≡ Ok ss → checked_apart (sections_of h ss) ≡ apart
    → opened_file bytes ≡ ((apart >>= λ done. Ok (map (event_in (order_of h.order) bytes) (zip ats ss))) >>= λ es. checked_events es >>= λ found. Ok (file_with bytes h es))
unfolding opened_file
opened_by bytes h ats ss apart a b c d = rw (a, b, c, d) refl

pub has_events : (bytes : List ℕ) (h : Head) (parts : List Section) → checked_head bytes ≡ Ok h → checked_attributes bytes h ≡ Ok tt → apart_parts bytes h ≡ Ok parts → HasEvents bytes h parts
has_events bytes h parts is read apart =
    let a = some (attributes_in bytes h) read in
    let p = parts_some h (id_sections_in bytes h) parts apart in
    let many = same_length (attribute_at bytes h) (id_section_at bytes h) 0 (entry_count h) a.0 p.0 a.1 p.1 in
    let o = order_of h.order in
    let made = file_with bytes h (map (event_in o bytes) (zip a.0 p.0)) in
    let first = opened_by bytes h a.0 p.0 (Ok tt) is a.1 p.1 p.3 in
    record {
      attributes = a.0;
      ids = p.0;
      attributes_are = a.1;
      parts_are = p.2;
      many = many;
      opens = first
          ∙ ap (λ ats. (checked_places ats >>= λ place. checked_table (table_of (map (event_in o bytes) (zip a.0 p.0)))) >>= λ found. Ok made) (attributes_zip o bytes a.0 p.0 many)
          ∙ ap (λ xs. (checked_places a.0 >>= λ place. checked_table (id_table 0 xs)) >>= λ found. Ok made) (ids_zip o bytes a.0 p.0 many);
    }

-- the first refusal of sections, or of comparing them
parts_stop : (h : Head) (e : OpenError) (r : Result (List Section) OpenError) → ((r >>= λ ids. Ok (sections_of h ids)) >>= λ ps. checked_apart ps >>= λ apart. Ok ps) ≡ Err e → (r ≡ Err e) ⊎ ((ids : List Section) × (r ≡ Ok ids) × (checked_apart (sections_of h ids) ≡ Err e))
parts_stop h e (Err d) is = inl (again d e is)
parts_stop h e (Ok ids) is = inr (ids, refl, go (checked_apart (sections_of h ids)) refl is)
  where
    go : (c : Result (Unit {0}) OpenError) → checked_apart (sections_of h ids) ≡ c → (c >>= λ apart. Ok (sections_of h ids)) ≡ Err e → checked_apart (sections_of h ids) ≡ Err e
    go (Err d) c is = c ∙ again d e is
    go (Ok u) c is = absurd (cc)

sections_refused : (bytes : List ℕ) (h : Head) (e : OpenError) (ats : List perf_event_attr) → checked_head bytes ≡ Ok h → attributes_in bytes h ≡ Ok ats → id_sections_in bytes h ≡ Err e → opened_file bytes ≡ Err e
unfolding opened_file
sections_refused bytes h e ats a b c = rw (a, b, c) refl

pub parts_refused : (bytes : List ℕ) (h : Head) (e : OpenError) → checked_head bytes ≡ Ok h → checked_attributes bytes h ≡ Ok tt → apart_parts bytes h ≡ Err e → opened_file bytes ≡ Err e
parts_refused bytes h e is read refused =
    let a = some (attributes_in bytes h) read in
    elim (parts_stop h e (id_sections_in bytes h) refused) [
      | inl bad ↦ sections_refused bytes h e a.0 is a.1 bad
      | inr p ↦ opened_by bytes h a.0 p.0 (Err e) is a.1 p.1 p.2
    ]
