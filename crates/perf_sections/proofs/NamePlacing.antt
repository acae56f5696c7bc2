-- Names of events that are found by their keys.
use Rattle.std.proofs.Common.{◌≡◌, ◌≢◌, ℕ, zero, suc, ◌+◌, ◌-◌, ◌*◌, ◌≤◌, ◌<◌, ◌^◌, ◌&&◌, List, [], ◌∷◌, ◌++◌, Bool, true, false, cond, length, get_or, set, drop, Option, Some, None, IfSome, refl, sym, ap, ◌∙◌, nat_lt, nat_le, nat_eq, inl, inr, Contains, All, arith}
use Rattle.std.proofs.lemmas.Bool.{ltb-true, ltb-false, eqb-true, eq-eqb, cases_lt, le-leb, leb-true}
use Rattle.std.proofs.lemmas.List.{drop-drop, length-append, get_or_append_left}
use Rattle.std.proofs.lemmas.List.Elements.{All-head, All-tail}
use Rattle.std.specs.List.Sorted.{IsPartitionPoint}
use Rattle.perf_base.specs.Order.{Order}
use Rattle.perf_sections.specs.Descriptions.{Description, is_of, describes, first_name, description_in, descriptions, description_length, is_whole}
use Rattle.perf_base.specs.Layout.{words_of}
use Rattle.perf_sections.specs.Names.{first_of}
use Rattle.perf_sections.specs.NamePlaces.{first_id_at, key_in, kind_of, number_of, Fits, rank, rank_of, Rises, IsUnnamed, name_at, place_of, HasRank, IsFirst, named, put, AreNamed}
use Rattle.perf_sections.specs.declared.descriptions.EventKey.{EventKey}
use Rattle.perf_sections.specs.declared.name_places.NamePlace.{NamePlace}
use Rattle.perf_sections.specs.declared.section.Section.{Section}
use Rattle.perf_sections.specs.Features.{part_in}
use Rattle.perf_sections.proofs.Rising.{unequal}
use Rattle.perf_sections.proofs.Tables.{differ}

-- ---- keys

both : (p q : Bool) → p && q ≡ true → (p ≡ true) × (q ≡ true)
both true q h = (refl, h)
both false q h = absurd (cc)

-- a description is of the events whose key has its rank
same_rank : (a b : Option ℕ) (t c t' c' : ℕ) → is_of a b (nat_eq t' t && nat_eq c' c) ≡ true → kind_of a t * 2 ^ 64 + number_of a c ≡ kind_of b t' * 2 ^ 64 + number_of b c'
same_rank (Some i) (Some j) t c t' c' h = let e : i ≡ j = eqb-true i j h in omega (arith, e)
same_rank (Some i) None t c t' c' h = absurd (cc)
same_rank None (Some j) t c t' c' h = absurd (cc)
same_rank None None t c t' c' h =
    let p = both (nat_eq t' t) (nat_eq c' c) h in
    let a : t' ≡ t = eqb-true t' t p.0 in
    let b : c' ≡ c = eqb-true c' c p.1 in omega (arith, a, b)

-- and of no others
other_rank : (a b : Option ℕ) (t c t' c' : ℕ) → number_of a c < 2 ^ 64 → number_of b c' < 2 ^ 64 → is_of a b (nat_eq t' t && nat_eq c' c) ≡ false → kind_of a t * 2 ^ 64 + number_of a c ≢ kind_of b t' * 2 ^ 64 + number_of b c'
other_rank (Some i) (Some j) t c t' c' l m h same = differ i j h (omega (arith, same))
other_rank (Some i) None t c t' c' l m h same = absurd (omega (arith, same, l, m))
other_rank None (Some j) t c t' c' l m h same = absurd (omega (arith, same, l, m))
other_rank None None t c t' c' l m h same =
    let a : t' ≡ t = omega (arith, same, l, m) in
    let b : c' ≡ c = omega (arith, same, l, m) in
    let p : nat_eq t' t ≡ true = eq-eqb t' t a in
    let q : nat_eq c' c ≡ true = eq-eqb c' c b in
    let e : nat_eq t' t && nat_eq c' c ≡ true = rw (p, q) refl in absurd (cc)

-- ---- where the first events with a rank are

abbrev pub zero_place : NamePlace
zero_place = record { kind = 0; number = 0; name = record { start = 0; size = 0 } }

place_at : (ps : List NamePlace) (r i : ℕ) (d : NamePlace) → i < length ps → ((k : ℕ) (e : NamePlace) → k < i → rank (get_or ps k e) ≢ r) → rank (get_or ps i d) ≡ r → place_of ps r ≡ Some (get_or ps i d).name
place_at [] r i d lt before is = absurd (omega (arith, lt))
place_at (p ∷ ps) r zero d lt before is = let e : nat_eq (rank p) r ≡ true = eq-eqb (rank p) r is in rw e refl
place_at (p ∷ ps) r (suc i) d lt before is =
    let e : nat_eq (rank p) r ≡ false = unequal (rank p) r (before 0 p (omega arith)) in
    rw e (place_at ps r i d (omega (arith, lt)) (λ k f a. before (suc k) f (omega (arith, a))) is)

put_at : (ps : List NamePlace) (r i : ℕ) (d : NamePlace) (s : Section) → i < length ps → ((k : ℕ) (e : NamePlace) → k < i → rank (get_or ps k e) ≢ r) → rank (get_or ps i d) ≡ r → put r s ps ≡ set ps i (named (get_or ps i d) s)
put_at [] r i d s lt before is = absurd (omega (arith, lt))
put_at (p ∷ ps) r zero d s lt before is = let e : nat_eq (rank p) r ≡ true = eq-eqb (rank p) r is in rw e refl
put_at (p ∷ ps) r (suc i) d s lt before is =
    let e : nat_eq (rank p) r ≡ false = unequal (rank p) r (before 0 p (omega arith)) in
    rw e (ap (λ (qs : List NamePlace). p ∷ qs) (put_at ps r i d s (omega (arith, lt)) (λ k f a. before (suc k) f (omega (arith, a))) is))

pub first_place : (ps : List NamePlace) (r i : ℕ) (d : NamePlace) → IsFirst ps r i → place_of ps r ≡ Some (get_or ps i d).name
first_place ps r i d first = place_at ps r i d first.inside first.before (first.here d)

pub first_put : (ps : List NamePlace) (r i : ℕ) (d : NamePlace) (s : Section) → IsFirst ps r i → put r s ps ≡ set ps i (named (get_or ps i d) s)
first_put ps r i d s first = put_at ps r i d s first.inside first.before (first.here d)

none_has : (ps : List NamePlace) (r : ℕ) → ((k : ℕ) (d : NamePlace) → k < length ps → rank (get_or ps k d) ≢ r) → place_of ps r ≡ None
none_has [] r before = refl
none_has (p ∷ ps) r before =
    let e : nat_eq (rank p) r ≡ false = unequal (rank p) r (before 0 p (omega arith)) in
    rw e (none_has ps r (λ k f a. before (suc k) f (omega (arith, a))))

-- where the lesser ranks end
abbrev pub IsPoint : List NamePlace → ℕ → ℕ → Type 0
IsPoint ps r i = IsPartitionPoint (λ (p : NamePlace). nat_lt (rank p) r ≡ true) (λ (p : NamePlace). nat_lt (rank p) r ≡ false) ps i

before_point : (ps : List NamePlace) (r i : ℕ) → IsPoint ps r i → (k : ℕ) (d : NamePlace) → k < i → k < length ps → rank (get_or ps k d) ≢ r
before_point ps r i point k d lt inside is = let a = ltb-true (rank (get_or ps k d)) r (point.0 k d (omega arith) lt) in absurd (omega (arith, a, is))

pub point_first : (ps : List NamePlace) (r i : ℕ) → IsPoint ps r i → i < length ps → ((d : NamePlace) → rank (get_or ps i d) ≡ r) → IsFirst ps r i
point_first ps r i point lt is = record {
  inside = lt;
  before = λ k d a. before_point ps r i point k d a (omega arith);
  here = is;
}

pub none_of : (ps : List NamePlace) (r i : ℕ) → Rises ps → IsPoint ps r i → ((d : NamePlace) → i < length ps → rank (get_or ps i d) ≢ r) → place_of ps r ≡ None
none_of ps r i sorted point other = none_has ps r (λ k d inside is.
    let low : k < i → 1 ≤ 0 = λ lt. absurd (before_point ps r i point k d lt inside is) in
    let high : i ≤ k → 1 ≤ 0 = λ le. let q = ltb-false (rank (get_or ps i d)) r (point.1 i d (omega arith) (omega (arith, inside))) in let b = sorted i k d le inside in absurd (other d (omega (arith, inside)) (omega (arith, q, b, is))) in
    let none : 1 ≤ 0 = elim (cases_lt k i) [ inl lt ↦ low lt | inr le ↦ high le ] in absurd (omega (arith, none)))

-- ---- events get a name

pub put_none : (ps : List NamePlace) (r : ℕ) (s : Section) → place_of ps r ≡ None → put r s ps ≡ ps
put_none [] r s h = refl
put_none (p ∷ ps) r s h = go (nat_eq (rank p) r) h (λ f. put_none ps r s f)
  where
    go : (b : Bool) → ◌≡◌ {A = Option Section} (cond b (Some p.name) (place_of ps r)) None → (place_of ps r ≡ None → put r s ps ≡ ps) → cond b (named p s ∷ ps) (p ∷ put r s ps) ≡ p ∷ ps
    go true f others = absurd (cc)
    go false f others = ap (λ (qs : List NamePlace). p ∷ qs) (others f)

rank_named : (p : NamePlace) (s : Section) → rank (named p s) ≡ rank p
rank_named p s = go (nat_eq p.name.start 0)
  where
    go : (b : Bool) → rank (cond b (record p { name = s }) p) ≡ rank p
    go true = refl
    go false = refl

name_named : (p : NamePlace) (s : Section) → (named p s).name ≡ cond (nat_eq p.name.start 0) s p.name
name_named p s = go (nat_eq p.name.start 0)
  where
    go : (b : Bool) → (cond b (record p { name = s }) p).name ≡ cond b s p.name
    go true = refl
    go false = refl

-- others keep their place
put_other : (ps : List NamePlace) (r q : ℕ) (s : Section) → q ≢ r → place_of (put r s ps) q ≡ place_of ps q
put_other [] r q s off = refl
put_other (p ∷ ps) r q s off = go (nat_eq (rank p) r) refl (put_other ps r q s off)
  where
    go : (b : Bool) → nat_eq (rank p) r ≡ b → place_of (put r s ps) q ≡ place_of ps q → place_of (cond b (named p s ∷ ps) (p ∷ put r s ps)) q ≡ place_of (p ∷ ps) q
    go true e others =
        let a : rank p ≡ r = eqb-true (rank p) r e in
        let n : nat_eq (rank p) q ≡ false = unequal (rank p) q (λ same. off (sym same ∙ a)) in
        let m : nat_eq (rank (named p s)) q ≡ false = ap (λ k. nat_eq k q) (rank_named p s) ∙ n in
        rw (m, n) refl
    go false e others = ap (λ (x : Option Section). cond (nat_eq (rank p) q) (Some p.name) x) others

-- the first ones have the name, unless they had one
put_same : (ps : List NamePlace) (r : ℕ) (s t : Section) → place_of ps r ≡ Some t → place_of (put r s ps) r ≡ Some (cond (nat_eq t.start 0) s t)
put_same [] r s t h = absurd (cc)
put_same (p ∷ ps) r s t h = go (nat_eq (rank p) r) refl h (λ f. put_same ps r s t f)
  where
    go : (b : Bool) → nat_eq (rank p) r ≡ b → ◌≡◌ {A = Option Section} (cond b (Some p.name) (place_of ps r)) (Some t)
        → (place_of ps r ≡ Some t → place_of (put r s ps) r ≡ Some (cond (nat_eq t.start 0) s t)) → place_of (cond b (named p s ∷ ps) (p ∷ put r s ps)) r ≡ Some (cond (nat_eq t.start 0) s t)
    go true e f others =
        let m : nat_eq (rank (named p s)) r ≡ true = ap (λ k. nat_eq k r) (rank_named p s) ∙ e in
        let same : p.name ≡ t = cc in
        rw m (ap (λ (x : Section). Some x) (name_named p s ∙ ap (λ (x : Section). cond (nat_eq x.start 0) s x) same))
    go false e f others = rw e (others f)

pub has_put : (ps : List NamePlace) (r q : ℕ) (s : Section) → HasRank ps q → HasRank (put r s ps) q
has_put ps r q s has = go (nat_eq q r) refl
  where
    go : (b : Bool) → nat_eq q r ≡ b → HasRank (put r s ps) q
    go true e =
        let a : q ≡ r = eqb-true q r e in
        let h : place_of ps r ≡ Some has.0 = ap (place_of ps) (sym a) ∙ has.1 in
        (cond (nat_eq has.0.start 0) s has.0, ap (place_of (put r s ps)) a ∙ put_same ps r s has.0 h)
    go false e = (has.0, put_other ps r q s (differ q r e) ∙ has.1)

rank_put : (ps : List NamePlace) (r : ℕ) (s : Section) (i : ℕ) (d : NamePlace) → rank (get_or (put r s ps) i d) ≡ rank (get_or ps i d)
rank_put [] r s i d = refl
rank_put (p ∷ ps) r s zero d = go (nat_eq (rank p) r)
  where
    go : (b : Bool) → rank (get_or (cond b (named p s ∷ ps) (p ∷ put r s ps)) 0 d) ≡ rank p
    go true = rank_named p s
    go false = refl
rank_put (p ∷ ps) r s (suc i) d = go (nat_eq (rank p) r) (rank_put ps r s i d)
  where
    go : (b : Bool) → rank (get_or (put r s ps) i d) ≡ rank (get_or ps i d) → rank (get_or (cond b (named p s ∷ ps) (p ∷ put r s ps)) (suc i) d) ≡ rank (get_or ps i d)
    go true others = refl
    go false others = others

length_put : (ps : List NamePlace) (r : ℕ) (s : Section) → length (put r s ps) ≡ length ps
length_put [] r s = refl
length_put (p ∷ ps) r s = go (nat_eq (rank p) r) (length_put ps r s)
  where
    go : (b : Bool) → length (put r s ps) ≡ length ps → length (cond b (named p s ∷ ps) (p ∷ put r s ps)) ≡ suc (length ps)
    go true others = refl
    go false others = ap (λ (n : ℕ). suc n) others

pub rises_put : (ps : List NamePlace) (r : ℕ) (s : Section) → Rises ps → Rises (put r s ps)
rises_put ps r s sorted i j d le lt =
    let a = rank_put ps r s i d in
    let b = rank_put ps r s j d in
    let n = length_put ps r s in
    let c = sorted i j d le (omega (arith, n, lt)) in omega (arith, a, b, c)

-- ---- one description after another

-- the name of events at a place, or if none was found yet, what the other descriptions have
abbrev pub so_far : List ℕ → Section → Option (List ℕ) → Option (List ℕ)
so_far bytes s rest = cond (nat_eq s.start 0) rest (part_in bytes s)

-- the names so far, and what these descriptions have, are the names of all
abbrev pub AreLeft : List ℕ → List NamePlace → List Description → (EventKey → Option (List ℕ)) → Type 0
AreLeft bytes ps ds total = (key : EventKey) (s : Section) → Fits key → place_of ps (rank_of key) ≡ Some s → so_far bytes s (first_name key ds) ≡ total key

unnamed_at : (ps : List NamePlace) (r : ℕ) (s : Section) → All IsUnnamed ps → place_of ps r ≡ Some s → s.start ≡ 0
unnamed_at [] r s none h = absurd (cc)
unnamed_at (p ∷ ps) r s none h = go (nat_eq (rank p) r) h (λ f. unnamed_at ps r s (All-tail IsUnnamed p ps none) f)
  where
    go : (b : Bool) → ◌≡◌ {A = Option Section} (cond b (Some p.name) (place_of ps r)) (Some s) → (place_of ps r ≡ Some s → s.start ≡ 0) → s.start ≡ 0
    go true f others = let same : p.name ≡ s = cc in ap (λ (x : Section). x.start) (sym same) ∙ All-head IsUnnamed p ps none
    go false f others = others f

pub none_yet : (bytes : List ℕ) (ps : List NamePlace) (ds : List Description) → All IsUnnamed ps → AreLeft bytes ps ds (λ key. first_name key ds)
none_yet bytes ps ds none key s small here =
    let e : nat_eq s.start 0 ≡ true = eq-eqb s.start 0 (unnamed_at ps (rank_of key) s none here) in rw e refl

-- a name that was found stays
found_stays : (bytes name : List ℕ) (s : Section) (rest : Option (List ℕ)) → name_at bytes s ≡ Some name → so_far bytes s rest ≡ Some name
found_stays bytes name s rest is = go (nat_eq s.start 0) is
  where
    go : (b : Bool) → ◌≡◌ {A = Option (List ℕ)} (cond b None (part_in bytes s)) (Some name) → cond b rest (part_in bytes s) ≡ Some name
    go true h = absurd (cc)
    go false h = h

-- events of a description, whose place was u
own_name : (bytes name : List ℕ) (s t u : Section) (rest total : Option (List ℕ)) → name_at bytes s ≡ Some name → so_far bytes u (Some name) ≡ total → cond (nat_eq u.start 0) s u ≡ t → so_far bytes t rest ≡ total
own_name bytes name s t u rest total is before now = go (nat_eq u.start 0) refl before now
  where
    go : (b : Bool) → nat_eq u.start 0 ≡ b → cond b (Some name) (part_in bytes u) ≡ total → cond b s u ≡ t → so_far bytes t rest ≡ total
    go true e before now = ap (λ (x : Section). so_far bytes x rest) (sym now) ∙ found_stays bytes name s rest is ∙ before
    go false e before now = ap (λ (x : Section). so_far bytes x rest) (sym now) ∙ ap (λ (b : Bool). cond b rest (part_in bytes u)) e ∙ before

own_place : (bytes name : List ℕ) (ps : List NamePlace) (r : ℕ) (s t : Section) (rest total : Option (List ℕ)) → name_at bytes s ≡ Some name → ((u : Section) → place_of ps r ≡ Some u → so_far bytes u (Some name) ≡ total)
    → place_of (put r s ps) r ≡ Some t → so_far bytes t rest ≡ total
own_place bytes name ps r s t rest total is before here = go (place_of ps r) refl
  where
    go : (o : Option Section) → place_of ps r ≡ o → so_far bytes t rest ≡ total
    go None none =
        let no : ◌≡◌ {A = Option Section} None (Some t) = sym none ∙ sym (ap (λ (qs : List NamePlace). place_of qs r) (put_none ps r s none)) ∙ here in absurd (cc)
    go (Some u) was =
        let now : ◌≡◌ {A = Option Section} (Some (cond (nat_eq u.start 0) s u)) (Some t) = sym (put_same ps r s u was) ∙ here in
        let t_is : cond (nat_eq u.start 0) s u ≡ t = cc in
        own_name bytes name s t u rest total is (before u was) t_is

-- what the descriptions from one on have
first_own : (key : EventKey) (d : Description) (ds : List Description) → describes key d ≡ true → first_name key (d ∷ ds) ≡ Some d.name
first_own key d ds e = rw e refl

first_other : (key : EventKey) (d : Description) (ds : List Description) → describes key d ≡ false → first_name key (d ∷ ds) ≡ first_name key ds
first_other key d ds e = rw e refl

-- a description gives its events their name
pub one_more : (bytes : List ℕ) (ps : List NamePlace) (d : Description) (ds : List Description) (s : Section) (total : EventKey → Option (List ℕ)) → Fits (key_in d) → name_at bytes s ≡ Some d.name
    → AreLeft bytes ps (d ∷ ds) total → AreLeft bytes (put (rank_of (key_in d)) s ps) ds total
one_more bytes ps d ds s total fits is left key t small here = go (describes key d) refl
  where
    go : (b : Bool) → describes key d ≡ b → so_far bytes t (first_name key ds) ≡ total key
    go true e =
        let same : rank_of key ≡ rank_of (key_in d) = same_rank key.id d.id key.type_ key.config d.type d.config e in
        own_place bytes d.name ps (rank_of (key_in d)) s t (first_name key ds) (total key) is
        (λ u was. ap (λ (x : Option (List ℕ)). so_far bytes u x) (sym (first_own key d ds e)) ∙ left key u small (ap (place_of ps) same ∙ was))
        (ap (place_of (put (rank_of (key_in d)) s ps)) (sym same) ∙ here)
    go false e =
        let off = other_rank key.id d.id key.type_ key.config d.type d.config small fits e in
        ap (λ (x : Option (List ℕ)). so_far bytes t x) (sym (first_other key d ds e)) ∙ left key t small (sym (put_other ps (rank_of (key_in d)) (rank_of key) s off) ∙ here)

-- one place of a table
pub named_kept : (p : NamePlace) (s : Section) → 0 < p.name.start → named p s ≡ p
named_kept p s lt = let e : nat_eq p.name.start 0 ≡ false = unequal p.name.start 0 (λ h. absurd (omega (arith, lt, h))) in rw e refl

pub named_new : (p : NamePlace) (s : Section) → p.name.start ≡ 0 → named p s ≡ record p { name = s }
named_new p s is = let e : nat_eq p.name.start 0 ≡ true = eq-eqb p.name.start 0 is in rw e refl

-- ---- events that are there

rank_at : (ps : List NamePlace) (p : NamePlace) (k : ℕ) → k < length ps → get_or ps k p ≡ p → HasRank ps (rank p)
rank_at [] p k lt is = absurd (omega (arith, lt))
rank_at (q ∷ qs) p k lt is = go (nat_eq (rank q) (rank p)) refl k lt is (λ j below same. rank_at qs p j below same)
  where
    go : (b : Bool) → nat_eq (rank q) (rank p) ≡ b → (k : ℕ) → k < length (q ∷ qs) → get_or (q ∷ qs) k p ≡ p → ((j : ℕ) → j < length qs → get_or qs j p ≡ p → HasRank qs (rank p)) → HasRank (q ∷ qs) (rank p)
    go true e k lt is others = (q.name, rw e refl)
    go false e zero lt is others = absurd (differ (rank q) (rank p) e (ap (λ (x : NamePlace). rank x) is))
    go false e (suc k) lt is others = let h = others k (omega (arith, lt)) is in (h.0, rw e h.1)

pub rank_there : (ps : List NamePlace) (p : NamePlace) → Contains ps p → HasRank ps (rank p)
rank_there ps p here = rank_at ps p here.0 here.1 here.2

-- ---- the bytes of a description

pub whole_room : (o : Order) (size : ℕ) (bytes : List ℕ) → is_whole o size bytes ≡ true → description_length o size bytes ≤ length bytes
whole_room o size bytes h = go (nat_lt (length bytes) (size + 8)) h
  where
    go : (b : Bool) → cond b false (nat_le (description_length o size bytes) (length bytes)) ≡ true → description_length o size bytes ≤ length bytes
    go true e = absurd (cc)
    go false e = leb-true (description_length o size bytes) (length bytes) e

pub next_description : (o : Order) (size count i at : ℕ) (bytes : List ℕ) → i < count → is_whole o size (drop at bytes) ≡ true
    → descriptions o size (count - i) (drop at bytes) ≡ description_in o size (drop at bytes) ∷ descriptions o size (count - (i + 1)) (drop (at + description_length o size (drop at bytes)) bytes)
next_description o size count i at bytes lt whole =
    let k : count - i ≡ suc (count - (i + 1)) = omega arith in
    let one : descriptions o size (count - i) (drop at bytes) ≡ description_in o size (drop at bytes) ∷ descriptions o size (count - (i + 1)) (drop (description_length o size (drop at bytes)) (drop at bytes)) = rw (k, whole) refl in
    one ∙ ap (λ (xs : List ℕ). description_in o size (drop at bytes) ∷ descriptions o size (count - (i + 1)) xs) (drop-drop (description_length o size (drop at bytes)) at bytes)

pub no_description : (o : Order) (size count i : ℕ) (left : List ℕ) → i < count → is_whole o size left ≡ false → descriptions o size (count - i) left ≡ []
no_description o size count i left lt cut =
    let k : count - i ≡ suc (count - (i + 1)) = omega arith in rw (k, cut) refl

pub all_described : (o : Order) (size count i : ℕ) (left : List ℕ) → count ≤ i → descriptions o size (count - i) left ≡ []
all_described o size count i left le = let k : count - i ≡ 0 = omega arith in rw k refl

-- no description is left
pub all_named : (bytes : List ℕ) (ps : List NamePlace) (ds : List Description) (total : EventKey → Option (List ℕ)) → ds ≡ [] → AreLeft bytes ps ds total → AreNamed bytes ps total
all_named bytes ps ds total none left key s small here = sym (ap (λ (xs : List Description). so_far bytes s (first_name key xs)) none) ∙ left key s small here

-- the first id of events
pub first_word : (o : Order) (bytes : List ℕ) (at n : ℕ) → at + 8 * n ≤ length bytes → first_id_at o bytes at n ≡ first_of (words_of o n (drop at bytes))
first_word o bytes at zero inside = refl
first_word o bytes at (suc n) inside =
    let some : nat_eq (suc n) 0 ≡ false = unequal (suc n) 0 (λ h. absurd (omega (arith, h))) in
    let e : nat_le (at + 8) (length bytes) ≡ true = le-leb (at + 8) (length bytes) (omega (arith, inside)) in rw (some, e) refl

pub number_fits : (id : Option ℕ) (config : ℕ) → IfSome id (λ n. n < 2 ^ 64) → config < 2 ^ 64 → number_of id config < 2 ^ 64
number_fits None config i c = c
number_fits (Some id) config i c = i

pub contains_more : (ps : List NamePlace) (x p : NamePlace) → Contains ps p → Contains (ps ++ x ∷ []) p
contains_more ps x p here = (here.0, omega (arith, here.1, length-append ps (x ∷ [])), get_or_append_left ps (x ∷ []) p here.0 here.1 ∙ here.2)
