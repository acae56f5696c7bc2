-- What a pipe is, by what the calls over memory of the caller's return.
use Rattle.std.proofs.Common.{◌≡◌, ℕ, ◌/◌, ◌≤◌, ◌||◌, List, [], ◌∷◌, length, map, drop, min, zip, Bool, true, false, cond, Option, Some, None, Result, Ok, Err, nat_eq, nat_lt, inl, inr, refl, sym, ap, ◌∙◌, arith}
use Rattle.std.specs.List.{filter, list_any}
use Rattle.std.specs.Prelude.{if◌then◌else◌}
use Rattle.std.proofs.lemmas.Bool.{lt-ltb, eqb-true, cases_lt}
use Rattle.perf_base.specs.Dynamic.{order_of}
use Rattle.perf_base.specs.declared.endian.Dynamic.{Dynamic}
use Rattle.perf_base.specs.declared.sys.perf_event_attr.{perf_event_attr}
use Rattle.perf_file.specs.Forms.{opened}
use Rattle.perf_sections.specs.IdPlaces.{checked_places}
use Rattle.perf_sections.specs.IdTables.{id_table, checked_table}
use Rattle.perf_sections.specs.Opened.{File, FileEvent, opened_file, event_in, checked_events, table_of}
use Rattle.perf_sections.specs.Opens.{◌>>=◌}
use Rattle.perf_outlines.specs.Outlines.{outline, id_count, table_in}
use Rattle.perf_outlines.specs.PipeOutlines.{pipe_outline, pipe_outline_with, pipe_head, form_outline, checked_frames, checked_number, counted_attributes, counted_note_ids, note_sections}
use Rattle.perf_file.specs.Pipes.{FrameNote, pipe_order, pipe_with, is_of, is_note, is_compressed, all_frames, checked_notes, checked_count, each_of, noted_attribute, noted_ids, found_events, opened_pipe}
use Rattle.perf_sections.specs.declared.error.OpenError.{OpenError}
use Rattle.perf_sections.specs.declared.error.OpenError.TheVariants as errors
use Rattle.perf_sections.specs.declared.section.Section.{Section}
use Rattle.perf_outlines.specs.declared.summary.Outline.{Outline}
use Rattle.perf_file.proofs.EachNote.{each_length, same_length}
use Rattle.perf_outlines.proofs.InMemory.{outline_refused, again, attributes_zip, ids_zip}
use Rattle.perf_outlines.proofs.PipeCounts.{bind_ok}

-- ---- the head

-- a pipe has a head
pub pipe_long : (bytes : List ℕ) (order : Dynamic) → pipe_order bytes ≡ Some order → 16 ≤ length bytes
pipe_long bytes order is = elim (cases_lt (length bytes) 16) [
  | inl lt ↦
      let a : nat_lt (length bytes) 16 ≡ true = lt-ltb (length bytes) 16 lt in
      let none : pipe_order bytes ≡ None = rw a refl in
      absurd (cc)
  | inr le ↦ le
]

-- ---- steps

-- the notes of attributes among the notes are those among all frames
twice : (ns : List FrameNote) → filter (is_of 64) (filter is_note ns) ≡ filter (is_of 64) ns
twice [] = refl
twice (n ∷ ns) = go (twice ns) (is_of 64 n) refl (is_note n) refl
  where
    go : filter (is_of 64) (filter is_note ns) ≡ filter (is_of 64) ns → (a : Bool) → is_of 64 n ≡ a → (b : Bool) → is_note n ≡ b → filter (is_of 64) (filter is_note (n ∷ ns)) ≡ filter (is_of 64) (n ∷ ns)
    go rest true on b is =
        let note : is_note n ≡ true = ap (λ x. x || (is_of 67 n || (is_of 78 n || is_of 80 n))) on in
        let here : filter is_note (n ∷ ns) ≡ n ∷ filter is_note ns = ap (λ c. cond c (n ∷ filter is_note ns) (filter is_note ns)) note in
        ap (filter (is_of 64)) here ∙ ap (λ c. cond c (n ∷ filter (is_of 64) (filter is_note ns)) (filter (is_of 64) (filter is_note ns))) on
        ∙ ap (λ (xs : List FrameNote). n ∷ xs) rest ∙ sym (ap (λ c. cond c (n ∷ filter (is_of 64) ns) (filter (is_of 64) ns)) on)
    go rest false off true is =
        let here : filter is_note (n ∷ ns) ≡ n ∷ filter is_note ns = ap (λ c. cond c (n ∷ filter is_note ns) (filter is_note ns)) is in
        ap (filter (is_of 64)) here ∙ ap (λ c. cond c (n ∷ filter (is_of 64) (filter is_note ns)) (filter (is_of 64) (filter is_note ns))) off
        ∙ rest ∙ sym (ap (λ c. cond c (n ∷ filter (is_of 64) ns) (filter (is_of 64) ns)) off)
    go rest false off false is =
        let here : filter is_note (n ∷ ns) ≡ filter is_note ns = ap (λ c. cond c (n ∷ filter is_note ns) (filter is_note ns)) is in
        ap (filter (is_of 64)) here ∙ rest ∙ sym (ap (λ c. cond c (n ∷ filter (is_of 64) ns) (filter (is_of 64) ns)) off)

-- the events of notes of attributes
abbrev events_with : Dynamic → List ℕ → Result (Unit {0}) OpenError → Result (List perf_event_attr) OpenError → Result (List Section) OpenError → Result File OpenError
events_with order bytes counted attributes sections =
    ((counted >>= λ some. attributes >>= λ ats. sections >>= λ ss. Ok (map (event_in (order_of order) bytes) (zip ats ss)))
    >>= λ events. checked_events events >>= λ found. Ok events) >>= λ events. Ok (pipe_with order (drop 16 bytes) events)

-- what opening returns, if no frames are compressed
opened_by : (order : Dynamic) (bytes : List ℕ) → list_any is_compressed (all_frames order (drop 16 bytes)) ≡ false
    → opened_pipe order bytes ≡ events_with order bytes (checked_count (filter (is_of 64) (all_frames order (drop 16 bytes)))) (each_of (noted_attribute order) 0 (filter (is_of 64) (all_frames order (drop 16 bytes)))) (note_sections order bytes (all_frames order (drop 16 bytes)))
unfolding opened_pipe
opened_by order bytes plain =
    rw plain (ap (λ entries. events_with order bytes (checked_count entries) (each_of (noted_attribute order) 0 entries) (each_of (noted_ids order bytes) 0 entries)) (twice (all_frames order (drop 16 bytes))))

opened_not : (order : Dynamic) (bytes : List ℕ) → list_any is_compressed (all_frames order (drop 16 bytes)) ≡ true → opened_pipe order bytes ≡ Err errors.Compressed
unfolding opened_pipe
opened_not order bytes some = rw some refl

-- ---- refusals

-- what is made of the outline's numbers
abbrev numbers : Dynamic → List ℕ → Result (List perf_event_attr) OpenError → Result (List Section) OpenError → Result Outline OpenError
numbers order bytes attributes sections =
    (attributes >>= λ ats. Ok (length ats)) >>= λ events. checked_number events >>= λ some. (sections >>= λ ss. Ok (min (id_count ss) (length bytes / 8))) >>= λ ids. Ok (pipe_outline_with order bytes events ids)

some_count : (a : perf_event_attr) (ats : List perf_event_attr) → checked_number (length (a ∷ ats)) ≡ Ok tt
some_count a ats = ap (λ (b : Bool). number_by b) (go (nat_eq (length (a ∷ ats)) 0) refl)
  where
    number_by : Bool → Result (Unit {0}) OpenError
    number_by b = if b then Err errors.NoAttributes else Ok tt

    go : (b : Bool) → nat_eq (length (a ∷ ats)) 0 ≡ b → nat_eq (length (a ∷ ats)) 0 ≡ false
    go true e = let z = eqb-true (length (a ∷ ats)) 0 e in absurd (omega (arith, z))
    go false e = e

after_count : (order : Dynamic) (bytes : List ℕ) (e : OpenError) (n : FrameNote) (ns : List FrameNote) (ats : List perf_event_attr) (sections : Result (List Section) OpenError)
    → ((sections >>= λ ss. Ok (min (id_count ss) (length bytes / 8))) >>= λ ids. Ok (pipe_outline_with order bytes (length ats) ids)) ≡ Err e → events_with order bytes (checked_count (n ∷ ns)) (Ok ats) sections ≡ Err e
after_count order bytes e n ns ats (Err d) out = again d e out
after_count order bytes e n ns ats (Ok ss) out = absurd (cc)

numbers_refused : (order : Dynamic) (bytes : List ℕ) (e : OpenError) (entries : List FrameNote) (attributes : Result (List perf_event_attr) OpenError) (sections : Result (List Section) OpenError)
    → each_of (noted_attribute order) 0 entries ≡ attributes → numbers order bytes attributes sections ≡ Err e → events_with order bytes (checked_count entries) attributes sections ≡ Err e
unfolding each_of
numbers_refused order bytes e [] (Ok []) sections is out = again errors.NoAttributes e out
numbers_refused order bytes e [] (Ok (a ∷ ats)) sections is out = absurd (cc)
numbers_refused order bytes e [] (Err d) sections is out = absurd (cc)
numbers_refused order bytes e (n ∷ ns) (Err d) sections is out = again d e out
numbers_refused order bytes e (n ∷ ns) (Ok []) sections is out = let a = each_length (noted_attribute order) 0 (n ∷ ns) [] is in absurd (omega (arith, a))
numbers_refused order bytes e (n ∷ ns) (Ok (a ∷ ats)) sections is out =
    after_count order bytes e n ns (a ∷ ats) sections
    (sym (ap (λ c. c >>= λ some. (sections >>= λ ss. Ok (min (id_count ss) (length bytes / 8))) >>= λ ids. Ok (pipe_outline_with order bytes (length (a ∷ ats)) ids)) (some_count a ats)) ∙ out)

-- what is refused before two events are compared is refused
pub pipe_refused : (order : Dynamic) (bytes : List ℕ) (e : OpenError) → pipe_outline order bytes ≡ Err e → opened_pipe order bytes ≡ Err e
unfolding pipe_outline
pipe_refused order bytes e is = go (list_any is_compressed (all_frames order (drop 16 bytes))) refl
  where
    go : (b : Bool) → list_any is_compressed (all_frames order (drop 16 bytes)) ≡ b → opened_pipe order bytes ≡ Err e
    go true some =
        let out : pipe_outline order bytes ≡ Err errors.Compressed = rw some refl in
        opened_not order bytes some ∙ again errors.Compressed e (sym out ∙ is)
    go false plain =
        let all = all_frames order (drop 16 bytes) in
        let out : pipe_outline order bytes ≡ numbers order bytes (each_of (noted_attribute order) 0 (filter (is_of 64) all)) (note_sections order bytes all) = rw plain refl in
        opened_by order bytes plain ∙ numbers_refused order bytes e (filter (is_of 64) all) (each_of (noted_attribute order) 0 (filter (is_of 64) all)) (note_sections order bytes all) refl (sym out ∙ is)

-- the two forms
pub form_some : (bytes : List ℕ) (order : Dynamic) → pipe_order bytes ≡ Some order → (form_outline bytes ≡ pipe_outline order bytes) × (opened bytes ≡ opened_pipe order bytes)
unfolding form_outline pipe_outline opened opened_pipe
form_some bytes order is = (rw (form_outline, is) refl, rw (opened, is) refl)

pub form_none : (bytes : List ℕ) → pipe_order bytes ≡ None → (form_outline bytes ≡ outline bytes) × (opened bytes ≡ opened_file bytes)
unfolding form_outline opened opened_file
form_none bytes is = (rw (form_outline, is) refl, rw (opened, is) refl)

pub form_refused : (bytes : List ℕ) (e : OpenError) → form_outline bytes ≡ Err e → opened bytes ≡ Err e
form_refused bytes e out = go (pipe_order bytes) refl
  where
    go : (p : Option Dynamic) → pipe_order bytes ≡ p → opened bytes ≡ Err e
    go (Some order) is = let form = form_some bytes order is in form.1 ∙ pipe_refused order bytes e (sym form.0 ∙ out)
    go None is = let form = form_none bytes is in form.1 ∙ outline_refused bytes e (sym form.0 ∙ out)

-- ---- what an outline states

pub record IsOutlined (order : Dynamic) (bytes : List ℕ) (o : Outline) : Type 0 where
  pub head : o.head ≡ pipe_head order bytes
  pub plain : checked_frames (all_frames order (drop 16 bytes)) ≡ Ok tt
  pub events : counted_attributes order (all_frames order (drop 16 bytes)) ≡ Ok o.events
  pub some : checked_number o.events ≡ Ok tt
  pub ids : counted_note_ids order bytes (all_frames order (drop 16 bytes)) ≡ Ok o.ids

pub outlined : (order : Dynamic) (bytes : List ℕ) (o : Outline) → pipe_outline order bytes ≡ Ok o → IsOutlined order bytes o
unfolding pipe_outline
outlined order bytes o is =
    let all = all_frames order (drop 16 bytes) in
    let a = bind_ok (checked_frames all) (λ plain. counted_attributes order all >>= λ events. checked_number events >>= λ some. counted_note_ids order bytes all >>= λ ids. Ok (pipe_outline_with order bytes events ids)) o is in
    let b = bind_ok (counted_attributes order all) (λ events. checked_number events >>= λ some. counted_note_ids order bytes all >>= λ ids. Ok (pipe_outline_with order bytes events ids)) o a.2 in
    let c = bind_ok (checked_number b.0) (λ some. counted_note_ids order bytes all >>= λ ids. Ok (pipe_outline_with order bytes b.0 ids)) o b.2 in
    let d = bind_ok (counted_note_ids order bytes all) (λ ids. Ok (pipe_outline_with order bytes b.0 ids)) o c.2 in
    let e : pipe_outline_with order bytes b.0 d.0 ≡ o = let z = d.2 in cc in
    record {
      head = ap (λ (x : Outline). x.head) (sym e);
      plain = a.1;
      events = b.1 ∙ ap (λ (x : Outline). Ok x.events) e;
      some = ap (λ (x : Outline). checked_number x.events) (sym e) ∙ c.1;
      ids = d.1 ∙ ap (λ (x : Outline). Ok x.ids) e;
    }

pub outline_head : (order : Dynamic) (bytes : List ℕ) (o : Outline) → pipe_outline order bytes ≡ Ok o → o.head ≡ pipe_head order bytes
outline_head order bytes o is = (outlined order bytes o is).head

-- the file that a pipe is
pub pipe_is : (order : Dynamic) (bytes : List ℕ) (f : File) → opened_pipe order bytes ≡ Ok f → (events : List FileEvent) × (f ≡ pipe_with order (drop 16 bytes) events)
unfolding opened_pipe
pipe_is order bytes f is =
    let a = bind_ok (checked_notes (all_frames order (drop 16 bytes))) (λ notes. found_events order bytes notes >>= λ events. Ok (pipe_with order (drop 16 bytes) events)) f is in
    let b = bind_ok (found_events order bytes a.0) (λ events. Ok (pipe_with order (drop 16 bytes) events)) f a.2 in
    let e : pipe_with order (drop 16 bytes) b.0 ≡ f = let z = b.2 in cc in
    (b.0, sym e)

-- ---- events

plain_frames : (all : List FrameNote) → checked_frames all ≡ Ok tt → list_any is_compressed all ≡ false
plain_frames all is = go (list_any is_compressed all) refl
  where
    go : (b : Bool) → list_any is_compressed all ≡ b → list_any is_compressed all ≡ false
    go false e = e
    go true e = let no : checked_frames all ≡ Err errors.Compressed = rw e refl in absurd (cc)

not_empty : (entries : List FrameNote) (n : ℕ) → n ≡ length entries → checked_number n ≡ Ok tt → checked_count entries ≡ Ok tt
not_empty [] n is some = let none : checked_number 0 ≡ Ok tt = ap checked_number (sym is) ∙ some in absurd (cc)
not_empty (x ∷ xs) n is some = refl

once : {A B : Type 0} (r : Result (Unit {0}) OpenError) (x : A) (g : A → B) → ◌≡◌ {A = Result B OpenError} ((r >>= λ found. Ok x) >>= λ y. Ok (g y)) (r >>= λ found. Ok (g x))
once (Ok u) x g = refl
once (Err e) x g = refl

-- The events of a pipe whose attributes and sections of ids were read, and what opening it depends on
-- then: the places of ids, and the table of them.
pub record HasNoteEvents (order : Dynamic) (bytes : List ℕ) (o : Outline) (sections : List Section) : Type 0 where
  pub attributes : List perf_event_attr
  pub attributes_are : each_of (noted_attribute order) 0 (filter (is_of 64) (all_frames order (drop 16 bytes))) ≡ Ok attributes
  pub many : length attributes ≡ length sections
  pub count : o.events ≡ length attributes
  pub ids : o.ids ≡ min (id_count sections) (length bytes / 8)
  pub opens : opened_pipe order bytes ≡ ((checked_places attributes >>= λ place. checked_table (table_in (order_of order) bytes sections)) >>= λ found. Ok (pipe_with order (drop 16 bytes) (map (event_in (order_of order) bytes) (zip attributes sections))))

pub has_note_events : (order : Dynamic) (bytes : List ℕ) (o : Outline) (sections : List Section) → pipe_outline order bytes ≡ Ok o → note_sections order bytes (all_frames order (drop 16 bytes)) ≡ Ok sections → HasNoteEvents order bytes o sections
has_note_events order bytes o sections is read =
    let all = all_frames order (drop 16 bytes) in
    let entries = filter (is_of 64) all in
    let order' = order_of order in
    let out = outlined order bytes o is in
    let a = bind_ok (each_of (noted_attribute order) 0 entries) (λ ats. Ok (length ats)) o.events out.events in
    let count : length a.0 ≡ o.events = let z = a.2 in cc in
    let few = each_length (noted_attribute order) 0 entries a.0 a.1 in
    let some = not_empty entries o.events (sym count ∙ few) out.some in
    let many = same_length (noted_attribute order) (noted_ids order bytes) 0 entries a.0 sections a.1 read in
    let b = bind_ok (note_sections order bytes all) (λ ss. Ok (min (id_count ss) (length bytes / 8))) o.ids out.ids in
    let same : ◌≡◌ {A = Result (List Section) OpenError} (Ok b.0) (Ok sections) = sym b.1 ∙ read in
    let one : b.0 ≡ sections = cc in
    let ids : min (id_count b.0) (length bytes / 8) ≡ o.ids = let z = b.2 in cc in
    let events = map (event_in order' bytes) (zip a.0 sections) in
    let made : events_with order bytes (checked_count entries) (each_of (noted_attribute order) 0 entries) (note_sections order bytes all) ≡ (checked_events events >>= λ found. Ok (pipe_with order (drop 16 bytes) events)) =
    ap (λ c. events_with order bytes c (each_of (noted_attribute order) 0 entries) (note_sections order bytes all)) some
    ∙ ap (λ r. events_with order bytes (Ok tt) r (note_sections order bytes all)) a.1
    ∙ ap (λ r. events_with order bytes (Ok tt) (Ok a.0) r) read
    ∙ once (checked_events events) events (pipe_with order (drop 16 bytes)) in
    record {
      attributes = a.0;
      attributes_are = a.1;
      many = many;
      count = sym count;
      ids = sym ids ∙ ap (λ ss. min (id_count ss) (length bytes / 8)) one;
      opens = opened_by order bytes (plain_frames all out.plain) ∙ made
          ∙ ap (λ ats. (checked_places ats >>= λ place. checked_table (table_of events)) >>= λ found. Ok (pipe_with order (drop 16 bytes) events)) (attributes_zip order' bytes a.0 sections many)
          ∙ ap (λ xs. (checked_places a.0 >>= λ place. checked_table (id_table 0 xs)) >>= λ found. Ok (pipe_with order (drop 16 bytes) events)) (ids_zip order' bytes a.0 sections many);
    }

-- a section of ids that is refused
pub sections_refused : (order : Dynamic) (bytes : List ℕ) (o : Outline) (e : OpenError) → pipe_outline order bytes ≡ Ok o → note_sections order bytes (all_frames order (drop 16 bytes)) ≡ Err e → ⊥
sections_refused order bytes o e is refused =
    let out = outlined order bytes o is in
    let all = all_frames order (drop 16 bytes) in
    let b = bind_ok (note_sections order bytes all) (λ ss. Ok (min (id_count ss) (length bytes / 8))) o.ids out.ids in
    let both : ◌≡◌ {A = Result (List Section) OpenError} (Ok b.0) (Err e) = sym b.1 ∙ refused in absurd (cc)

-- there are as many events as notes of attributes
pub outline_count : (order : Dynamic) (bytes : List ℕ) (o : Outline) → pipe_outline order bytes ≡ Ok o → o.events ≡ length (filter (is_of 64) (all_frames order (drop 16 bytes)))
outline_count order bytes o is =
    let entries = filter (is_of 64) (all_frames order (drop 16 bytes)) in
    let out = outlined order bytes o is in
    let a = bind_ok (each_of (noted_attribute order) 0 entries) (λ ats. Ok (length ats)) o.events out.events in
    let count : length a.0 ≡ o.events = let z = a.2 in cc in
    sym count ∙ each_length (noted_attribute order) 0 entries a.0 a.1

-- an attribute that is refused
pub attributes_refused : (order : Dynamic) (bytes : List ℕ) (o : Outline) (e : OpenError) → pipe_outline order bytes ≡ Ok o → each_of (noted_attribute order) 0 (filter (is_of 64) (all_frames order (drop 16 bytes))) ≡ Err e → ⊥
attributes_refused order bytes o e is refused =
    let entries = filter (is_of 64) (all_frames order (drop 16 bytes)) in
    let out = outlined order bytes o is in
    let a = bind_ok (each_of (noted_attribute order) 0 entries) (λ ats. Ok (length ats)) o.events out.events in
    let both : ◌≡◌ {A = Result (List perf_event_attr) OpenError} (Ok a.0) (Err e) = sym a.1 ∙ refused in absurd (cc)
