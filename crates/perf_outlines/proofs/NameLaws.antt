-- Names of events as places in a file, and as text in memory of the caller's.
use Rattle.std.proofs.Common.{◌≡◌, ◌≢◌, ℕ, suc, ◌+◌, ◌-◌, ◌*◌, ◌≤◌, ◌<◌, List, [], ◌∷◌, ◌++◌, ◌&&◌, ◌||◌, ◌==◌, Bool, true, false, cond, map, length, get_or, set, take, drop, Option, Some, None, Result, Ok, Err, OnOk, Contains, All, zip, refl, sym, ap, subst, ◌∙◌, nat_eq, nat_le, nat_lt, arith}
use Rattle.std.proofs.lemmas.Bool.{eq-eqb, eqb-true, le-leb, lt-leb}
use Rattle.std.proofs.lemmas.List.{drop-drop, take-take, drop-take, length-take-le, length-drop, length-map, get_or-map}
use Rattle.std.proofs.lemmas.List.Elements.{All-cons, All-head, All-tail}
use Rattle.perf_base.specs.Layout.{slice}
use Rattle.perf_base.specs.Dynamic.{order_of}
use Rattle.perf_base.specs.declared.endian.Dynamic.{Dynamic}
use Rattle.perf_base.specs.declared.sys.perf_event_attr.{perf_event_attr}
use Rattle.std.specs.Prelude.{if◌then◌else◌}
use Rattle.std.specs.List.{filter}
use Rattle.perf_base.specs.Order.{Order}
use Rattle.perf_sections.specs.Attributes.{attributes_in}
use Rattle.perf_file.specs.Forms.{event_name, notes_of}
use Rattle.perf_sections.specs.IdTables.{is_event, event_of}
use Rattle.perf_sections.specs.Numbers.{number}
use Rattle.perf_file.specs.Pipes.{FrameNote, pipe_order, all_frames, is_of, is_note, newer, has_name, new_name, named_by, named_event, last_name, noted_feature, noted_name}
use Rattle.perf_sections.specs.declared.ids.IdOfEvent.{IdOfEvent}
use Rattle.perf_file.proofs.NewNames.{same_names, gets_name, keeps_name, other_event}
use Rattle.perf_outlines.proofs.NotePlacing.{noted_alike}
use Rattle.perf_outlines.proofs.PipeCounts.{bind_ok}
use Rattle.perf_sections.specs.Features.{part_in, or_nothing, descriptions_of, file_descriptions}
use Rattle.perf_sections.specs.Heads.{head_in, checked_features, checked_parts}
use Rattle.perf_sections.specs.Names.{Name, described, described_or, name_by_numbers, first_of, key_of, name_of, name_with}
use Rattle.perf_sections.specs.Opened.{File, FileEvent, opened_file, checked_head, events_in, checked_events, file_with, table_of}
use Rattle.perf_sections.specs.Opens.{◌>>=◌}
use Rattle.perf_sections.specs.declared.head.Head.{Head}
use Rattle.perf_sections.proofs.NamePlacing.{first_word}
use Rattle.perf_sections.proofs.Rising.{unequal}
use Rattle.perf_sections.specs.NamePlaces.{first_id_at, name_at, name_or, unnamed, IsUnnamed}
use Rattle.perf_sections.specs.declared.descriptions.EventKey.{EventKey}
use Rattle.perf_sections.specs.Sections.{IsInside}
use Rattle.perf_sections.specs.declared.section.Section.{Section}
use Rattle.perf_outlines.specs.FileEvents.{flat_event, flat_events, stated, event_numbers, EventNumbers, AreRead, HaveIds}
use Rattle.perf_outlines.specs.FlatNames.{flat_key, flat_name, described_by, nameless, AreNames, FindsNames, over}
use Rattle.perf_outlines.proofs.NextLaws.{States, of_head, config_is, no_event, no_flat, same_count}
use Rattle.perf_outlines.specs.declared.file_events.FlatEvent.{FlatEvent}

-- ---- places

pub slice_length : (bytes : List ℕ) (d : Section) → IsInside bytes d → length (slice bytes d.start d.size) ≡ d.size
slice_length bytes d inside = let n = length-drop d.start bytes in length-take-le d.size (drop d.start bytes) (omega (arith, n, inside))

-- at 0 there is no name
pub at_zero : (bytes : List ℕ) (s : Section) → s.start ≡ 0 → name_at bytes s ≡ None
at_zero bytes s is = let e : nat_eq s.start 0 ≡ true = eq-eqb s.start 0 is in rw e refl

-- nor beyond the end
pub outside : (bytes : List ℕ) (s : Section) → length bytes < s.start + s.size → name_at bytes s ≡ None
outside bytes s lt = go (nat_eq s.start 0)
  where
    go : (b : Bool) → ◌≡◌ {A = Option (List ℕ)} (cond b None (part_in bytes s)) None
    go true = refl
    go false = let e : nat_le (s.start + s.size) (length bytes) ≡ false = lt-leb (s.start + s.size) (length bytes) lt in rw e refl

-- a place among bytes of the file is one of the file
pub moved : (bytes : List ℕ) (d s : Section) → IsInside bytes d → s.start ≢ 0 → s.start + s.size ≤ d.size → name_at bytes (record { start = d.start + s.start; size = s.size }) ≡ name_at (slice bytes d.start d.size) s
moved bytes d s inside some le =
    let part : List ℕ = slice bytes d.start d.size in
    let n : length part ≡ d.size = slice_length bytes d inside in
    let a : nat_eq (d.start + s.start) 0 ≡ false = unequal (d.start + s.start) 0 (λ h. some (omega (arith, h))) in
    let b : nat_eq s.start 0 ≡ false = unequal s.start 0 some in
    let e : nat_le (d.start + s.start + s.size) (length bytes) ≡ true = le-leb (d.start + s.start + s.size) (length bytes) (omega (arith, inside, le)) in
    let f : nat_le (s.start + s.size) (length part) ≡ true = le-leb (s.start + s.size) (length part) (omega (arith, n, le)) in
    let rest : d.size ≡ s.start + (d.size - s.start) = omega (arith, le) in
    let cut : drop s.start part ≡ take (d.size - s.start) (drop s.start (drop d.start bytes)) = ap (λ k. drop s.start (take k (drop d.start bytes))) rest ∙ drop-take s.start (d.size - s.start) (drop d.start bytes) in
    let same : slice part s.start s.size ≡ slice bytes (d.start + s.start) s.size =
    ap (take s.size) cut ∙ take-take s.size (d.size - s.start) (drop s.start (drop d.start bytes)) (omega (arith, le)) ∙ ap (take s.size) (drop-drop s.start d.start bytes) in
    rw (a, b, e, f) (ap (λ (xs : List ℕ). Some xs) (sym same))

-- ---- events

abbrev pub zero_event : FlatEvent
zero_event = record {
  config = record { version = 0; order = 0; sample_type = 0; read_format = 0; flags = 0; branch_sample_type = 0; sample_regs_user = 0; sample_regs_intr = 0 };
  type_ = 0;
  event = 0;
  ids_at = 0;
  ids = 0;
  name = record { start = 0; size = 0 };
}

-- none of the keys of events has a name
pub all_unnamed : {A : Type 0} (key : A → EventKey) (xs : List A) → All IsUnnamed (map (λ x. unnamed (key x)) xs)
all_unnamed key [] = λ k d lt. absurd (omega (arith, lt))
all_unnamed key (x ∷ xs) = All-cons IsUnnamed (unnamed (key x)) (map (λ y. unnamed (key y)) xs) refl (all_unnamed key xs)

pub contains_map : {A B : Type 0} (f : A → B) (xs : List A) (i : ℕ) (d : A) → i < length xs → Contains (map f xs) (f (get_or xs i d))
contains_map f xs i d lt = (i, omega (arith, lt, length-map xs f), get_or-map f xs i d (f (get_or xs i d)) lt)

pub nameless_at : (xs ys : List FlatEvent) (i : ℕ) (d : FlatEvent) → map nameless xs ≡ map nameless ys → i < length xs → nameless (get_or xs i d) ≡ nameless (get_or ys i d)
nameless_at xs ys i d same lt =
    let n : length (map nameless xs) ≡ length (map nameless ys) = ap (λ (es : List FlatEvent). length es) same in
    let m : i < length ys = omega (arith, lt, n, length-map xs nameless, length-map ys nameless) in
    sym (get_or-map nameless xs i d d lt) ∙ ap (λ (es : List FlatEvent). get_or es i d) same ∙ get_or-map nameless ys i d d m

-- ---- the events of a file

pub always_ok : {P E : Type 0} (r : Result (Unit {0}) E) → P → OnOk r P
always_ok (Ok done) p = p
always_ok (Err e) p = tt

pub ids_inside : (o : Dynamic) (bytes : List ℕ) (ats : List perf_event_attr) (ss : List Section) → All (IsInside bytes) ss → HaveIds bytes (map (flat_event o) (zip ats ss))
ids_inside o bytes [] ss inside = λ k d lt. absurd (omega (arith, lt))
ids_inside o bytes (a ∷ ats) [] inside = λ k d lt. absurd (omega (arith, lt))
ids_inside o bytes (a ∷ ats) (s ∷ ss) inside =
    let here = All-head (IsInside bytes) s ss inside in
    All-cons (λ (e : FlatEvent). e.ids_at + 8 * e.ids ≤ length bytes) (flat_event o (a, s)) (map (flat_event o) (zip ats ss)) (omega (arith, here)) (ids_inside o bytes ats ss (All-tail (IsInside bytes) s ss inside))

pub have_ids : (bytes : List ℕ) (h : Head) (ss : List Section) (all : List FlatEvent) → flat_events bytes h ss ≡ Ok all → All (IsInside bytes) ss → HaveIds bytes all
have_ids bytes h ss all is inside =
    let a = bind_ok (attributes_in bytes h) (λ ats. Ok (map (flat_event h.order) (zip ats ss))) all is in
    let same : map (flat_event h.order) (zip a.0 ss) ≡ all = let b = a.2 in cc in
    subst (HaveIds bytes) same (ids_inside h.order bytes a.0 ss inside)

-- the head of a file that opens
pub record HasHead (bytes : List ℕ) (f : File) : Type 0 where
  pub head : Head
  pub checked : checked_head bytes ≡ Ok head
  pub order : f.order ≡ head.order
  pub descriptions : file_descriptions bytes ≡ descriptions_of bytes head

descriptions_are : (bytes : List ℕ) (h : Head) → head_in bytes ≡ Ok h → file_descriptions bytes ≡ descriptions_of bytes h
descriptions_are bytes h is = rw (file_descriptions, is) refl

pub head_of_file : (bytes : List ℕ) (f : File) → opened_file bytes ≡ Ok f → HasHead bytes f
unfolding opened_file
head_of_file bytes f whole =
    let g = bind_ok (checked_head bytes) (λ h. events_in bytes h >>= λ es. checked_events es >>= λ found. Ok (file_with bytes h es)) f whole in
    let placed = of_head bytes g.0 f g.1 g.2 in
    let d = bind_ok (head_in bytes) (λ k. checked_features k >>= λ features. checked_parts bytes k >>= λ parts. Ok k) g.0 g.1 in
    let j = bind_ok (checked_features d.0) (λ features. checked_parts bytes d.0 >>= λ parts. Ok d.0) g.0 d.2 in
    let l = bind_ok (checked_parts bytes d.0) (λ parts. Ok d.0) g.0 j.2 in
    let same : d.0 ≡ g.0 = let c = l.2 in cc in
    let own : file_descriptions bytes ≡ descriptions_of bytes d.0 = descriptions_are bytes d.0 d.1 in
    record {
      head = g.0;
      checked = g.1;
      order = placed.order;
      descriptions = own ∙ ap (descriptions_of bytes) same;
    }

-- the names by descriptions are those of the file's events
pub described_alike : (d : Dynamic) (ds bytes : List ℕ) (all : List FlatEvent) (es : List FileEvent) → States d bytes all es → HaveIds bytes all → map (described_by (order_of d) ds bytes) all ≡ map (name_of d ds) es
described_alike d ds bytes [] [] is have = refl
described_alike d ds bytes [] (x ∷ es) is have = absurd (no_event d bytes x es is)
described_alike d ds bytes (e ∷ all) [] is have = absurd (no_flat d bytes e all is)
described_alike d ds bytes (e ∷ all) (x ∷ es) is have =
    let P = λ (e : FlatEvent). e.ids_at + 8 * e.ids ≤ length bytes in
    let o = order_of d in
    let a : stated o bytes e ≡ event_numbers d x = cc in
    let t : e.type_ ≡ x.attribute.type_ = ap (λ (n : EventNumbers). n.type_) a in
    let c : e.event ≡ x.attribute.config = ap (λ (n : EventNumbers). n.event) a in
    let id : first_id_at o bytes e.ids_at e.ids ≡ first_of x.ids = first_word o bytes e.ids_at e.ids (All-head P e all have) ∙ ap (λ (n : EventNumbers). first_of n.ids) a in
    let key : flat_key o bytes e ≡ key_of x = λ i. record { type_ = t i; config = c i; id = id i } in
    let here : described_by o ds bytes e ≡ name_of d ds x = ap (name_with o ds) key in
    ap (λ (n : Name). n ∷ map (described_by o ds bytes) all) here
    ∙ ap (λ (ns : List Name). name_of d ds x ∷ ns) (described_alike d ds bytes all es (config_is d bytes e x all es is).1 (All-tail P e all have))

-- one name of two lists that are alike
pub name_alike : {A B : Type 0} (f : A → Name) (g : B → Name) (xs : List A) (ys : List B) (n : ℕ) (x : A) (y : B) → map f xs ≡ map g ys → n < length ys → f (get_or xs n x) ≡ g (get_or ys n y)
name_alike f g xs ys n x y same lt =
    let few : n < length xs = omega (arith, lt, ap (λ (ns : List Name). length ns) same, length-map xs f, length-map ys g) in
    sym (get_or-map f xs n x (f x) few) ∙ ap (λ (ns : List Name). get_or ns n (f x)) same ∙ get_or-map g ys n y (f x) lt

-- ---- new names

no_name : (o : Order) (n : FrameNote) → is_of 78 n ≡ false → has_name o n ≡ false
no_name o n off = ap (λ v. cond (nat_lt (length n.body) 16) false (v && (number o n.body 0 == 2 && nat_lt 0 (length (new_name n))))) off ∙ go (nat_lt (length n.body) 16)
  where
    go : (b : Bool) → cond b false (false && (number o n.body 0 == 2 && nat_lt 0 (length (new_name n)))) ≡ false
    go true = refl
    go false = refl

is_no_note : (n : FrameNote) (a b : Bool) → is_of 64 n ≡ a → is_of 67 n ≡ b → is_of 78 n ≡ true → is_note n ≡ false → ⊥
is_no_note n a b x y on off =
    let made : is_note n ≡ (a || (b || (true || is_of 80 n))) = ap (λ v. v || (is_of 67 n || (is_of 78 n || is_of 80 n))) x ∙ ap (λ v. a || (v || (is_of 78 n || is_of 80 n))) y ∙ ap (λ v. a || (b || (v || is_of 80 n))) on in
    let yes : is_note n ≡ true = made ∙ all a b in absurd (cc)
  where
    all : (a b : Bool) → (a || (b || (true || is_of 80 n))) ≡ true
    all true b = refl
    all false true = refl
    all false false = refl

-- an event at the place of a name has that name
pub named_at : (bytes text : List ℕ) (s : Section) (type config : ℕ) → name_at bytes s ≡ Some text → 0 < length text → name_or bytes s type config ≡ described text
named_at bytes [] s type config is some = absurd (omega (arith, some))
named_at bytes (x ∷ text) s type config is some = ap (λ n. described_or n (name_by_numbers type config)) is

-- frames that are no notes give no names
pub named_alike : (o : Order) (t : List IdOfEvent) (k : ℕ) (ns : List FrameNote) → last_name o t k (filter is_note ns) ≡ last_name o t k ns
named_alike o t k [] = refl
named_alike o t k (n ∷ ns) = go (named_alike o t k ns) (is_note n) refl (is_of 78 n) refl
  where
    older : (a : Option (List ℕ)) → newer a None ≡ a
    older (Some x) = refl
    older None = refl

    nameless_note : is_of 78 n ≡ false → (if is_event (named_event o t n) k then Some (new_name n) else None) ≡ None
    nameless_note off = ap (λ (has : Bool). if is_event (if has then event_of t (number o n.body 8) else None) k then Some (new_name n) else None) (no_name o n off)

    go : last_name o t k (filter is_note ns) ≡ last_name o t k ns → (b : Bool) → is_note n ≡ b → (c : Bool) → is_of 78 n ≡ c → last_name o t k (filter is_note (n ∷ ns)) ≡ last_name o t k (n ∷ ns)
    go rest true is c on =
        let here : filter is_note (n ∷ ns) ≡ n ∷ filter is_note ns = ap (λ x. cond x (n ∷ filter is_note ns) (filter is_note ns)) is in
        ap (last_name o t k) here ∙ ap (λ r. newer r (if is_event (named_event o t n) k then Some (new_name n) else None)) rest
    go rest false is false off =
        let here : filter is_note (n ∷ ns) ≡ filter is_note ns = ap (λ x. cond x (n ∷ filter is_note ns) (filter is_note ns)) is in
        ap (last_name o t k) here ∙ rest
        ∙ sym (ap (newer (last_name o t k ns)) (nameless_note off) ∙ older (last_name o t k ns))
    go rest false is true on = absurd (is_no_note n (is_of 64 n) (is_of 67 n) refl refl on is)

-- an event that a note names, and the others
pub renamed : (o : Order) (t : List IdOfEvent) (k e : ℕ) (x : FrameNote) (rest : List FrameNote) (now old : List FlatEvent) (bytes : List ℕ) (d : FlatEvent) → named_event o t x ≡ Some e
    → (k ≡ e → flat_name bytes (get_or now k d) ≡ described (new_name x)) → (k ≢ e → get_or now k d ≡ get_or old k d)
    → named_by (last_name o t k rest) (flat_name bytes (get_or now k d)) ≡ named_by (last_name o t k (x ∷ rest)) (flat_name bytes (get_or old k d))
renamed o t k e x rest now old bytes d named there others = go (nat_eq k e) refl
  where
    go : (b : Bool) → nat_eq k e ≡ b → named_by (last_name o t k rest) (flat_name bytes (get_or now k d)) ≡ named_by (last_name o t k (x ∷ rest)) (flat_name bytes (get_or old k d))
    go true is =
        let same = eqb-true k e is in
        ap (λ m. named_by (last_name o t k rest) m) (there same) ∙ gets_name o t k x rest (new_name x) (flat_name bytes (get_or old k d)) (named ∙ ap (λ (i : ℕ). Some i) (sym same)) refl
    go false is =
        let other : k ≢ e = λ same. let yes : nat_eq k e ≡ true = eq-eqb k e same in absurd (cc) in
        ap (λ (y : FlatEvent). named_by (last_name o t k rest) (flat_name bytes y)) (others other) ∙ keeps_name o t k x rest (flat_name bytes (get_or old k d)) (other_event (named_event o t x) e k named other)

noted_first : (bytes : List ℕ) (f : File) (order : Dynamic) (n : ℕ) (e : FileEvent) → pipe_order bytes ≡ Some order → event_name bytes f n e ≡ noted_name order (notes_of bytes) (table_of f.events) n e
unfolding event_name
noted_first bytes f order n e is = rw (event_name, is) refl

notes_are : (bytes : List ℕ) (order : Dynamic) → pipe_order bytes ≡ Some order → notes_of bytes ≡ filter is_note (all_frames order (drop 16 bytes))
unfolding notes_of
notes_are bytes order is = rw (notes_of, is) refl

name_in_file : (bytes : List ℕ) (f : File) (n : ℕ) (e : FileEvent) → pipe_order bytes ≡ None → event_name bytes f n e ≡ name_of f.order (file_descriptions bytes) e
unfolding event_name
name_in_file bytes f n e is = rw (event_name, is) refl

-- the names of a file's events
pub file_named : (bytes : List ℕ) (f : File) (all now : List FlatEvent) → pipe_order bytes ≡ None → opened_file bytes ≡ Ok f → States f.order bytes all f.events → HaveIds bytes all
    → ((h : Head) → checked_head bytes ≡ Ok h → FindsNames (order_of h.order) (descriptions_of bytes h) bytes all now) → AreNames bytes f now
file_named bytes f all now plain whole states have finds n e x lt =
    let of = head_of_file bytes f whole in
    let h = of.head in
    let ds = descriptions_of bytes h in
    let own : States h.order bytes all f.events = subst (λ d. States d bytes all f.events) of.order states in
    let names : map (flat_name bytes) now ≡ map (name_of h.order ds) f.events = (finds h of.checked).names ∙ described_alike h.order ds bytes all f.events own have in
    name_alike (flat_name bytes) (name_of h.order ds) now f.events n e x names lt
    ∙ ap (λ d. name_of d ds (get_or f.events n x)) (sym of.order)
    ∙ ap (λ bs. name_of f.order bs (get_or f.events n x)) (sym of.descriptions)
    ∙ sym (name_in_file bytes f n (get_or f.events n x) plain)

-- the names of a pipe's events
pub noted_is : (bytes : List ℕ) (f : File) (order : Dynamic) (all now : List FlatEvent) (ids : List IdOfEvent) → pipe_order bytes ≡ Some order → f.order ≡ order → AreRead bytes f all ids → HaveIds bytes all
    → ((k : ℕ) (d : FlatEvent) → k < length all → flat_name bytes (get_or now k d) ≡ named_by (last_name (order_of order) ids k (all_frames order (drop 16 bytes))) (described_by (order_of order) (or_nothing (noted_feature (order_of order) 12 (all_frames order (drop 16 bytes)))) bytes (get_or all k d)))
    → AreNames bytes f now
noted_is bytes f order all now ids piped is read have named n e x lt =
    let o = order_of order in
    let frames = all_frames order (drop 16 bytes) in
    let ds = or_nothing (noted_feature o 12 (filter is_note frames)) in
    let states : States order bytes all f.events = subst (λ d. States d bytes all f.events) is read.all in
    let few : n < length all = omega (arith, lt, same_count order bytes all f.events states) in
    let same : or_nothing (noted_feature o 12 frames) ≡ ds = ap or_nothing (sym (noted_alike o 12 frames)) in
    let key : described_by o ds bytes (get_or all n e) ≡ name_of order ds (get_or f.events n x) = name_alike (described_by o ds bytes) (name_of order ds) all f.events n e x (described_alike order ds bytes all f.events states have) lt in
    let made : event_name bytes f n (get_or f.events n x) ≡ noted_name order (filter is_note frames) (table_of f.events) n (get_or f.events n x) = noted_first bytes f order n (get_or f.events n x) piped ∙ ap (λ (ns : List FrameNote). noted_name order ns (table_of f.events) n (get_or f.events n x)) (notes_are bytes order piped) in
    named n e few
    ∙ ap (λ b. named_by (last_name o ids n frames) (described_by o b bytes (get_or all n e))) same
    ∙ ap (λ m. named_by (last_name o ids n frames) m) key
    ∙ ap (λ l. named_by l (name_of order ds (get_or f.events n x))) (sym (named_alike o ids n frames) ∙ same_names o ids (table_of f.events) n (filter is_note frames) read.table.found)
    ∙ sym made

-- ---- text

pub length_over : (text bytes : List ℕ) → length (over text bytes) ≡ length bytes
length_over [] bytes = refl
length_over (x ∷ text) [] = refl
length_over (x ∷ text) (y ∷ bytes) = ap (λ n. suc n) (length_over text bytes)

-- one more byte, where there is room
pub over_set : (text bytes : List ℕ) (x : ℕ) → length text < length bytes → set (over text bytes) (length text) x ≡ over (text ++ x ∷ []) bytes
over_set [] [] x lt = absurd (omega (arith, lt))
over_set [] (y ∷ bytes) x lt = refl
over_set (t ∷ text) [] x lt = absurd (omega (arith, lt))
over_set (t ∷ text) (y ∷ bytes) x lt = ap (λ (xs : List ℕ). t ∷ xs) (over_set text bytes x (omega (arith, lt)))

over_nothing : (text : List ℕ) → over text [] ≡ []
over_nothing [] = refl
over_nothing (t ∷ text) = refl

-- and where there is none
pub over_full : (text more bytes : List ℕ) → length bytes ≤ length text → over text bytes ≡ over (text ++ more) bytes
over_full [] more [] le = sym (over_nothing more)
over_full [] more (y ∷ bytes) le = absurd (omega (arith, le))
over_full (t ∷ text) more [] le = refl
over_full (t ∷ text) more (y ∷ bytes) le = ap (λ (xs : List ℕ). t ∷ xs) (over_full text more bytes (omega (arith, le)))
