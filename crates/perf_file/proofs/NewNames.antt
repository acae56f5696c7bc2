-- Events that get new names.
use Rattle.std.specs.Prelude.{◌≢◌}
use Rattle.std.proofs.Common.{◌≡◌, ℕ, ◌<◌, List, [], ◌∷◌, Bool, true, false, cond, length, map, get_or, Option, Some, None, nat_eq, refl, sym, ap, ◌∙◌, arith}
use Rattle.std.proofs.lemmas.Bool.{eqb-true, eq-eqb}
use Rattle.std.proofs.lemmas.List.{length-map, get_or-map}
use Rattle.perf_base.specs.Order.{Order}
use Rattle.perf_sections.specs.IdTables.{event_of, is_event}
use Rattle.perf_sections.specs.Names.{Name, described, name_view}
use Rattle.perf_sections.specs.Numbers.{number}
use Rattle.perf_sections.specs.Opened.{FileEvent, event_view, table_of}
use Rattle.perf_file.specs.Pipes.{FrameNote, newer, named_by, named_event, new_name, last_name, has_name}
use Rattle.perf_sections.specs.declared.events.Event.{Event}
use Rattle.perf_sections.specs.declared.ids.IdOfEvent.{IdOfEvent}

-- the newer of two names
by_newer : (a b : Option (List ℕ)) (n : Name) → named_by (newer a b) n ≡ named_by a (named_by b n)
by_newer (Some x) b n = refl
by_newer None b n = refl

-- a note that names the event
pub gets_name : (o : Order) (table : List IdOfEvent) (k : ℕ) (x : FrameNote) (rest : List FrameNote) (name : List ℕ) (old : Name) → named_event o table x ≡ Some k → name ≡ new_name x
    → named_by (last_name o table k rest) (described name) ≡ named_by (last_name o table k (x ∷ rest)) old
gets_name o table k x rest name old is same =
    let yes : is_event (named_event o table x) k ≡ true = ap (λ e. is_event e k) is ∙ eq-eqb k k refl in
    sym (by_newer (last_name o table k rest) (cond (is_event (named_event o table x) k) (Some (new_name x)) None) old
    ∙ ap (λ b. named_by (last_name o table k rest) (named_by (cond b (Some (new_name x)) None) old)) yes
    ∙ ap (λ bytes. named_by (last_name o table k rest) (described bytes)) (sym same))

-- one that names another one or none
pub keeps_name : (o : Order) (table : List IdOfEvent) (k : ℕ) (x : FrameNote) (rest : List FrameNote) (old : Name) → is_event (named_event o table x) k ≡ false
    → named_by (last_name o table k rest) old ≡ named_by (last_name o table k (x ∷ rest)) old
keeps_name o table k x rest old off =
    sym (by_newer (last_name o table k rest) (cond (is_event (named_event o table x) k) (Some (new_name x)) None) old
    ∙ ap (λ b. named_by (last_name o table k rest) (named_by (cond b (Some (new_name x)) None) old)) off)

pub other_event : (found : Option ℕ) (n k : ℕ) → found ≡ Some n → k ≢ n → is_event found k ≡ false
other_event found n k is other = ap (λ e. is_event e k) is ∙ go (nat_eq n k) refl
  where
    go : (b : Bool) → nat_eq n k ≡ b → nat_eq n k ≡ false
    go true e = absurd (other (sym (eqb-true n k e)))
    go false e = e

pub no_event : (found : Option ℕ) (k : ℕ) → found ≡ None → is_event found k ≡ false
no_event found k is = ap (λ e. is_event e k) is

-- a table that finds the same events
pub same_names : (o : Order) (t u : List IdOfEvent) (k : ℕ) (notes : List FrameNote) → ((id : ℕ) → event_of t id ≡ event_of u id) → last_name o t k notes ≡ last_name o u k notes
same_names o t u k [] same = refl
same_names o t u k (x ∷ rest) same =
    let here : named_event o t x ≡ named_event o u x = ap (λ e. cond (has_name o x) e None) (same (number o x.body 8)) in
    ap (λ e. newer (last_name o t k rest) (cond (is_event e k) (Some (new_name x)) None)) here
    ∙ ap (λ r. newer r (cond (is_event (named_event o u x) k) (Some (new_name x)) None)) (same_names o t u k rest same)

-- ---- events

pub as_many : (xs ys : List Event) → map event_view xs ≡ map event_view ys → length xs ≡ length ys
as_many xs ys same = sym (length-map xs event_view) ∙ ap (λ (es : List FileEvent). length es) same ∙ length-map ys event_view

-- events whose ids and attributes stay, and whose names are the new ones
pub all_named : (o : Order) (notes : List FrameNote) (table : List IdOfEvent) (now old : List Event) (by : FileEvent → Name) (n : ℕ) (d : Event) → map event_view now ≡ map event_view old
    → ((id : ℕ) → event_of table id ≡ event_of (table_of (map event_view old)) id) → n < length now → name_view (get_or old n d).name ≡ by (event_view (get_or old n d))
    → name_view (get_or now n d).name ≡ named_by (last_name o table n notes) (name_view (get_or old n d).name)
    → name_view (get_or now n d).name ≡ named_by (last_name o (table_of (map event_view now)) n notes) (by (event_view (get_or now n d)))
all_named o notes table now old by n d same found lt named renamed =
    let few : n < length old = omega (arith, lt, as_many now old same) in
    let seen : event_view (get_or old n d) ≡ event_view (get_or now n d) =
    sym (get_or-map event_view old n d (event_view d) few) ∙ ap (λ (es : List FileEvent). get_or es n (event_view d)) (sym same) ∙ get_or-map event_view now n d (event_view d) lt in
    renamed
    ∙ ap (λ m. named_by (last_name o table n notes) m) (named ∙ ap by seen)
    ∙ ap (λ l. named_by l (by (event_view (get_or now n d)))) (same_names o table (table_of (map event_view old)) n notes found
    ∙ ap (λ (es : List FileEvent). last_name o (table_of es) n notes) (sym same))

-- one event has the new name of a note, and the others stay
pub one_renamed : (o : Order) (table : List IdOfEvent) (x : FrameNote) (event : ℕ) (name : List ℕ) (now old : List Event) (k : ℕ) (d : Event) (rest : List FrameNote)
    → named_event o table x ≡ Some event → name ≡ new_name x → name_view (get_or now event d).name ≡ described name → (k ≢ event → get_or now k d ≡ get_or old k d)
    → named_by (last_name o table k rest) (name_view (get_or now k d).name) ≡ named_by (last_name o table k (x ∷ rest)) (name_view (get_or old k d).name)
one_renamed o table x event name now old k d rest is same there others = go (nat_eq k event) refl
  where
    go : (b : Bool) → nat_eq k event ≡ b → named_by (last_name o table k rest) (name_view (get_or now k d).name) ≡ named_by (last_name o table k (x ∷ rest)) (name_view (get_or old k d).name)
    go true e =
        let at : k ≡ event = eqb-true k event e in
        ap (λ m. named_by (last_name o table k rest) m) (ap (λ i. name_view (get_or now i d).name) at ∙ there)
        ∙ gets_name o table k x rest name (name_view (get_or old k d).name) (is ∙ ap (λ i. Some i) (sym at)) same
    go false e =
        let other : k ≢ event = λ at. let yes : nat_eq k event ≡ true = eq-eqb k event at in cc in
        ap (λ (y : Event). named_by (last_name o table k rest) (name_view y.name)) (others other)
        ∙ keeps_name o table k x rest (name_view (get_or old k d).name) (other_event (named_event o table x) event k is other)
