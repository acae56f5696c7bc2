-- Ids in rising order.
use Rattle.std.proofs.Common.{◌≡◌, ◌≢◌, ℕ, zero, suc, ◌+◌, ◌-◌, ◌≤◌, ◌<◌, List, [], ◌∷◌, Bool, true, false, length, get_or, Some, None, refl, sym, ap, ◌∙◌, nat_lt, nat_eq, inl, inr, Contains, arith}
use Rattle.std.proofs.lemmas.Bool.{ltb-true, ltb-false, eqb-true, eq-eqb, cases_lt}
use Rattle.std.proofs.lemmas.List.{get_or_default}
use Rattle.std.specs.List.Sorted.{IsNonDecreasingBy, IsPartitionPoint}
use Rattle.perf_sections.specs.declared.ids.IdOfEvent.{IdOfEvent}
use Rattle.perf_sections.specs.IdTables.{event_of, IsFunction, SharesAnId}
use Rattle.perf_sections.proofs.Tables.{pair}

abbrev pub Rises : List IdOfEvent → Type 0
Rises xs = IsNonDecreasingBy (λ (e : IdOfEvent). e.id) xs

-- none before the i-th has that id
abbrev NoneBefore : List IdOfEvent → ℕ → ℕ → Type 0
NoneBefore xs i id = (k : ℕ) (d : IdOfEvent) → k < i → k < length xs → (get_or xs k d).id ≢ id

pub unequal : (a b : ℕ) → a ≢ b → nat_eq a b ≡ false
unequal a b off = go (nat_eq a b) refl
  where
    go : (c : Bool) → nat_eq a b ≡ c → nat_eq a b ≡ false
    go false e = e
    go true e = absurd (off (eqb-true a b e))

-- the first one that has an id is its event
first_at : (xs : List IdOfEvent) (i id : ℕ) (d : IdOfEvent) → NoneBefore xs i id → i < length xs → (get_or xs i d).id ≡ id → event_of xs id ≡ Some (get_or xs i d).event
first_at [] i id d before lt is = absurd (omega (arith, lt))
first_at (x ∷ xs) zero id d before lt is = let e : nat_eq x.id id ≡ true = eq-eqb x.id id is in rw e refl
first_at (x ∷ xs) (suc i) id d before lt is =
    let e : nat_eq x.id id ≡ false = unequal x.id id (before 0 x (omega arith) (omega arith)) in
    rw e (first_at xs i id d (λ k f a b. before (suc k) f (omega (arith, a)) (omega (arith, b))) (omega (arith, lt)) is)

-- if none has it, there is no event
none_has : (xs : List IdOfEvent) (id : ℕ) → NoneBefore xs (length xs) id → event_of xs id ≡ None
none_has [] id before = refl
none_has (x ∷ xs) id before =
    let e : nat_eq x.id id ≡ false = unequal x.id id (before 0 x (omega arith) (omega arith)) in
    rw e (none_has xs id (λ k f a b. before (suc k) f (omega (arith, a)) (omega (arith, b))))

-- where the lesser ids end
abbrev pub IsPoint : List IdOfEvent → ℕ → ℕ → Type 0
IsPoint xs id i = IsPartitionPoint (λ (y : IdOfEvent). nat_lt y.id id ≡ true) (λ (y : IdOfEvent). nat_lt y.id id ≡ false) xs i

before_point : (xs : List IdOfEvent) (i id : ℕ) → IsPoint xs id i → NoneBefore xs i id
before_point xs i id point k d lt inside is = let a = ltb-true (get_or xs k d).id id (point.0 k d (omega arith) lt) in absurd (omega (arith, a, is))

pub found_at : (xs : List IdOfEvent) (i id : ℕ) (d : IdOfEvent) → IsPoint xs id i → i < length xs → (get_or xs i d).id ≡ id → event_of xs id ≡ Some (get_or xs i d).event
found_at xs i id d point lt is = first_at xs i id d (before_point xs i id point) lt is

pub absent : (xs : List IdOfEvent) (i id : ℕ) → Rises xs → IsPoint xs id i → ((d : IdOfEvent) → i < length xs → (get_or xs i d).id ≢ id) → event_of xs id ≡ None
absent xs i id sorted point other = none_has xs id (λ k d a inside is.
    let low : k < i → 1 ≤ 0 = λ lt. absurd (before_point xs i id point k d lt inside is) in
    let high : i ≤ k → 1 ≤ 0 = λ le. let q = ltb-false (get_or xs i d).id id (point.1 i d (omega arith) (omega (arith, inside))) in let b = sorted i k d le inside in absurd (other d (omega (arith, inside)) (omega arith)) in
    let none : 1 ≤ 0 = elim (cases_lt k i) [ inl lt ↦ low lt | inr le ↦ high le ] in absurd (omega (arith, none)))

-- ---- neighbours

-- neighbours before the top-th with one id have one event
abbrev pub Agree : List IdOfEvent → ℕ → Type 0
Agree xs top = (k : ℕ) (d : IdOfEvent) → k + 1 < top → k + 1 < length xs → (get_or xs k d).id ≡ (get_or xs (k + 1) d).id → (get_or xs k d).event ≡ (get_or xs (k + 1) d).event

along : (xs : List IdOfEvent) (top : ℕ) → Rises xs → Agree xs top → (i more : ℕ) (d : IdOfEvent) → i + more < top → i + more < length xs → (get_or xs i d).id ≡ (get_or xs (i + more) d).id → (get_or xs i d).event ≡ (get_or xs (i + more) d).event
along xs top sorted next i zero d up lt same = ap (λ (n : ℕ). (get_or xs n d).event) (omega arith)
along xs top sorted next i (suc more) d up lt same =
    let step : i + suc more ≡ i + more + 1 = omega arith in
    let same' : (get_or xs i d).id ≡ (get_or xs (i + more + 1) d).id = same ∙ ap (λ (n : ℕ). (get_or xs n d).id) step in
    let low = sorted i (i + more) d (omega arith) (omega arith) in
    let high = sorted (i + more) (i + more + 1) d (omega arith) (omega arith) in
    let level : (get_or xs i d).id ≡ (get_or xs (i + more) d).id = omega arith in
    let level' : (get_or xs (i + more) d).id ≡ (get_or xs (i + more + 1) d).id = omega arith in
    along xs top sorted next i more d (omega arith) (omega arith) level ∙ next (i + more) d (omega arith) (omega arith) level' ∙ ap (λ (n : ℕ). (get_or xs n d).event) (sym step)

between : (xs : List IdOfEvent) (top : ℕ) → Rises xs → Agree xs top → (i j : ℕ) (d : IdOfEvent) → i ≤ j → j < top → j < length xs → (get_or xs i d).id ≡ (get_or xs j d).id → (get_or xs i d).event ≡ (get_or xs j d).event
between xs top sorted next i j d le up lt same =
    let k : i + (j - i) ≡ j = omega arith in
    along xs top sorted next i (j - i) d (omega arith) (omega arith) (same ∙ ap (λ (n : ℕ). (get_or xs n d).id) (sym k)) ∙ ap (λ (n : ℕ). (get_or xs n d).event) k

event_at : (xs : List IdOfEvent) (id n : ℕ) (d : IdOfEvent) (here : Contains xs (pair id n)) → ((get_or xs here.0 d).id ≡ id) × ((get_or xs here.0 d).event ≡ n)
event_at xs id n d here =
    let same : get_or xs here.0 d ≡ get_or xs here.0 (pair id n) = get_or_default xs here.0 d (pair id n) here.1 in
    let is : get_or xs here.0 d ≡ pair id n = same ∙ here.2 in
    (ap (λ (x : IdOfEvent). x.id) is, ap (λ (x : IdOfEvent). x.event) is)

-- two events of an id that both come before the top-th are one
one_event : (xs : List IdOfEvent) (top : ℕ) → Rises xs → Agree xs top → (id m n : ℕ) (a : Contains xs (pair id m)) (b : Contains xs (pair id n)) → a.0 < top → b.0 < top → m ≡ n
one_event xs top sorted next id m n a b la lb =
    let d : IdOfEvent = pair 0 0 in
    let p = event_at xs id m d a in
    let q = event_at xs id n d b in
    let up : a.0 ≤ b.0 → m ≡ n = λ le. sym p.1 ∙ between xs top sorted next a.0 b.0 d le lb b.1 (p.0 ∙ sym q.0) ∙ q.1 in
    let down : b.0 ≤ a.0 → m ≡ n = λ le. sym (sym q.1 ∙ between xs top sorted next b.0 a.0 d le la a.1 (q.0 ∙ sym p.0) ∙ p.1) in
    elim (cases_lt b.0 a.0) [ inl lt ↦ down (omega arith) | inr le ↦ up le ]

pub is_function : (xs : List IdOfEvent) → Rises xs → Agree xs (length xs) → IsFunction xs
is_function xs sorted next id m n a b = one_event xs (length xs) sorted next id m n a b a.1 b.1

-- an id below that of the top-th is not shared
pub least_at : (xs : List IdOfEvent) (top : ℕ) (d : IdOfEvent) → Rises xs → Agree xs top → top < length xs → (id : ℕ) → SharesAnId xs id → (get_or xs top d).id ≤ id
least_at xs top d sorted next lt id s =
    elim (cases_lt id (get_or xs top d).id) [
      | inl low ↦ absurd (s.2 (one_event xs top sorted next id s.0 s.1 s.3 s.4 (below s.0 s.3 low) (below s.1 s.4 low)))
      | inr le ↦ le
    ]
  where
    below : (n : ℕ) (c : Contains xs (pair id n)) → id < (get_or xs top d).id → c.0 < top
    below n c low = elim (cases_lt c.0 top) [
      | inl before ↦ before
      | inr after ↦ let e = event_at xs id n d c in let up = sorted top c.0 d after c.1 in absurd (omega (arith, low, e.0, up))
    ]

-- the first that has an id, if all before it have lesser ones
pub found_first : (xs : List IdOfEvent) (i id : ℕ) (d : IdOfEvent) → ((k : ℕ) (e : IdOfEvent) → k < i → (get_or xs k e).id < id) → i < length xs → (get_or xs i d).id ≡ id → event_of xs id ≡ Some (get_or xs i d).event
found_first xs i id d less lt is = first_at xs i id d (λ k e a inside same. let b = less k e a in absurd (omega (arith, b, same))) lt is
