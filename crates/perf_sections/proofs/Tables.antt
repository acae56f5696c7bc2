-- Ids and their events, in any order.
use Rattle.std.proofs.Common.{◌≡◌, ◌≢◌, ℕ, zero, suc, ◌≤◌, ◌<◌, ◌⊎◌, inl, inr, List, [], ◌∷◌, Bool, true, false, cond, length, get_or, Option, Some, None, refl, sym, ap, ◌∙◌, subst, nat_eq, Contains, arith}
use Rattle.std.proofs.lemmas.Bool.{eqb-true, eq-eqb, cases_lt}
use Rattle.std.proofs.lemmas.List.Sorted.{Contains-permutation, IsPermutation-sym}
use Rattle.std.specs.List.Sorted.{IsPermutation}
use Rattle.perf_sections.specs.declared.ids.IdOfEvent.{IdOfEvent}
use Rattle.perf_sections.specs.IdTables.{event_of, is_event, lesser, least_shared, IsFunction, SharesAnId}

abbrev pub pair : ℕ → ℕ → IdOfEvent
pair id n = record { id = id; event = n }

-- ---- where an entry is

further : (x : IdOfEvent) (xs : List IdOfEvent) (e : IdOfEvent) → Contains xs e → Contains (x ∷ xs) e
further x xs e h = (suc h.0, omega (arith, h.1), h.2)

split_at : (x : IdOfEvent) (xs : List IdOfEvent) (e : IdOfEvent) (k : ℕ) → k < length (x ∷ xs) → get_or (x ∷ xs) k e ≡ e → (x ≡ e) ⊎ Contains xs e
split_at x xs e zero lt is = inl is
split_at x xs e (suc k) lt is = inr (k, omega (arith, lt), is)

-- it is the first one, or further on
split : (x : IdOfEvent) (xs : List IdOfEvent) (e : IdOfEvent) → Contains (x ∷ xs) e → (x ≡ e) ⊎ Contains xs e
split x xs e h = split_at x xs e h.0 h.1 h.2

nothing_in : (e : IdOfEvent) → Contains [] e → ⊥
nothing_in e h = absurd (omega (arith, h.1))

pub differ : (a b : ℕ) → nat_eq a b ≡ false → a ≡ b → ⊥
differ a b off is = let yes : nat_eq a b ≡ true = eq-eqb a b is in absurd (cc)

made_of : (x : IdOfEvent) (id n : ℕ) → x.id ≡ id → x.event ≡ n → x ≡ pair id n
made_of x id n a b = λ i. record { id = a i; event = b i }

-- ---- the first event of an id

pub has_event : (xs : List IdOfEvent) (id m : ℕ) → event_of xs id ≡ Some m → Contains xs (pair id m)
has_event [] id m h = absurd (cc)
has_event (x ∷ xs) id m h = go (nat_eq x.id id) refl h (λ e. has_event xs id m e)
  where
    go : (b : Bool) → nat_eq x.id id ≡ b → ◌≡◌ {A = Option ℕ} (cond b (Some x.event) (event_of xs id)) (Some m) → (event_of xs id ≡ Some m → Contains xs (pair id m)) → Contains (x ∷ xs) (pair id m)
    go true t e next = (0, omega arith, made_of x id m (eqb-true x.id id t) (let s : x.event ≡ m = cc in s))
    go false t e next = further x xs (pair id m) (next e)

pub no_event : (xs : List IdOfEvent) (id n : ℕ) → event_of xs id ≡ None → Contains xs (pair id n) → ⊥
no_event [] id n h c = nothing_in (pair id n) c
no_event (x ∷ xs) id n h c = go (nat_eq x.id id) refl h (λ e there. no_event xs id n e there)
  where
    go : (b : Bool) → nat_eq x.id id ≡ b → ◌≡◌ {A = Option ℕ} (cond b (Some x.event) (event_of xs id)) None → (event_of xs id ≡ None → Contains xs (pair id n) → ⊥) → ⊥
    go true t e next = absurd (cc)
    go false t e next = elim (split x xs (pair id n) c) [
      | inl is ↦ differ x.id id t (ap (λ (y : IdOfEvent). y.id) is)
      | inr there ↦ next e there
    ]

-- if no id is of two events, an event that has an id is the first one
pub event_is : (xs : List IdOfEvent) (id n : ℕ) → IsFunction xs → Contains xs (pair id n) → event_of xs id ≡ Some n
event_is xs id n one here = go (event_of xs id) refl
  where
    go : (o : Option ℕ) → event_of xs id ≡ o → event_of xs id ≡ Some n
    go None e = absurd (no_event xs id n e here)
    go (Some m) e = e ∙ ap (λ (k : ℕ). Some k) (one id m n (has_event xs id m e) here)

-- ---- the same table in another order

pub function_moved : (xs ys : List IdOfEvent) → IsPermutation xs ys → IsFunction ys → IsFunction xs
function_moved xs ys moved one id m n a b = one id m n (Contains-permutation xs ys (pair id m) moved a) (Contains-permutation xs ys (pair id n) moved b)

pub event_moved : (xs ys : List IdOfEvent) (id : ℕ) → IsPermutation xs ys → IsFunction ys → event_of ys id ≡ event_of xs id
event_moved xs ys id moved one = go (event_of ys id) refl (event_of xs id) refl
  where
    go : (o : Option ℕ) → event_of ys id ≡ o → (p : Option ℕ) → event_of xs id ≡ p → event_of ys id ≡ event_of xs id
    go None e None f = e ∙ sym f
    go None e (Some n) f = absurd (no_event ys id n e (Contains-permutation xs ys (pair id n) moved (has_event xs id n f)))
    go (Some n) e p f = e ∙ sym (event_is xs id n (function_moved xs ys moved one) (Contains-permutation ys xs (pair id n) (IsPermutation-sym xs ys moved) (has_event ys id n e)))

pub shared_moved : (xs ys : List IdOfEvent) (id : ℕ) → IsPermutation xs ys → SharesAnId xs id → SharesAnId ys id
shared_moved xs ys id moved h = (h.0, h.1, h.2, Contains-permutation xs ys (pair id h.0) moved h.3, Contains-permutation xs ys (pair id h.1) moved h.4)

-- ---- the least shared id

event_test : (o : Option ℕ) (n : ℕ) → is_event o n ≡ true → o ≡ Some n
event_test None n h = absurd (cc)
event_test (Some m) n h = ap (λ (k : ℕ). Some k) (eqb-true m n h)

test_fails : (o : Option ℕ) (m n : ℕ) → is_event o n ≡ false → o ≡ Some m → m ≢ n
test_fails None m n h e same = absurd (cc)
test_fails (Some k) m n h e same = let a : k ≡ m = cc in differ k n h (a ∙ same)

-- no entry has an event before it
none_before : (t es : List IdOfEvent) (e : IdOfEvent) → least_shared t es ≡ None → Contains es e → event_of t e.id ≡ Some e.event
none_before t [] e h c = absurd (nothing_in e c)
none_before t (x ∷ es) e h c = go (is_event (event_of t x.id) x.event) refl h (λ f there. none_before t es e f there)
  where
    go : (b : Bool) → is_event (event_of t x.id) x.event ≡ b → ◌≡◌ {A = Option ℕ} (cond b (least_shared t es) (Some (lesser x.id (least_shared t es)))) None
        → (least_shared t es ≡ None → Contains es e → event_of t e.id ≡ Some e.event) → event_of t e.id ≡ Some e.event
    go false b f next = absurd (cc)
    go true b f next = elim (split x es e c) [
      | inl is ↦ subst (λ (y : IdOfEvent). event_of t y.id ≡ Some y.event) is (event_test (event_of t x.id) x.event b)
      | inr there ↦ next f there
    ]

-- an entry with that id has an event before it
abbrev Found : List IdOfEvent → List IdOfEvent → ℕ → Type 0
Found t es m = (n : ℕ) × Contains es (pair m n) × (is_event (event_of t m) n ≡ false)

found_further : (t : List IdOfEvent) (x : IdOfEvent) (es : List IdOfEvent) (m : ℕ) → Found t es m → Found t (x ∷ es) m
found_further t x es m h = (h.0, further x es (pair m h.0) h.1, h.2)

found_here : (t : List IdOfEvent) (x : IdOfEvent) (es : List IdOfEvent) (m : ℕ) → x.id ≡ m → is_event (event_of t x.id) x.event ≡ false → Found t (x ∷ es) m
found_here t x es m is off = (x.event, (0, omega arith, made_of x m x.event is refl), subst (λ k. is_event (event_of t k) x.event ≡ false) is off)

one_before : (t es : List IdOfEvent) (m : ℕ) → least_shared t es ≡ Some m → Found t es m
one_before t [] m h = absurd (cc)
one_before t (x ∷ es) m h = go (is_event (event_of t x.id) x.event) refl h (λ k f. one_before t es k f)
  where
    next : is_event (event_of t x.id) x.event ≡ false → (o : Option ℕ) → least_shared t es ≡ o → lesser x.id o ≡ m → ((k : ℕ) → least_shared t es ≡ Some k → Found t es k) → Found t (x ∷ es) m
    next b None e a others = found_here t x es m a b
    next b (Some k) e a others = elim (cases_lt k x.id) [
      | inl lt ↦ let s : k ≡ m = omega arith in found_further t x es m (others m (e ∙ ap (λ (i : ℕ). Some i) s))
      | inr le ↦ let s : x.id ≡ m = omega arith in found_here t x es m s b
    ]

    go : (b : Bool) → is_event (event_of t x.id) x.event ≡ b → ◌≡◌ {A = Option ℕ} (cond b (least_shared t es) (Some (lesser x.id (least_shared t es)))) (Some m)
        → ((k : ℕ) → least_shared t es ≡ Some k → Found t es k) → Found t (x ∷ es) m
    go true b f others = found_further t x es m (others m f)
    go false b f others = next b (least_shared t es) refl (let a : lesser x.id (least_shared t es) ≡ m = cc in a) others

-- it is the least of these
least_before : (t es : List IdOfEvent) (m : ℕ) (e : IdOfEvent) → least_shared t es ≡ Some m → Contains es e → is_event (event_of t e.id) e.event ≡ false → m ≤ e.id
least_before t [] m e h c off = absurd (nothing_in e c)
least_before t (x ∷ es) m e h c off = go (is_event (event_of t x.id) x.event) refl h (λ k f there. least_before t es k e f there off)
  where
    next : (o : Option ℕ) → least_shared t es ≡ o → lesser x.id o ≡ m → ((k : ℕ) → least_shared t es ≡ Some k → Contains es e → k ≤ e.id) → m ≤ e.id
    next None q a others = elim (split x es e c) [
      | inl is ↦ let s : x.id ≡ e.id = ap (λ (y : IdOfEvent). y.id) is in omega (arith, s, a)
      | inr there ↦ let yes : event_of t e.id ≡ Some e.event = none_before t es e q there in absurd (test_fails (event_of t e.id) e.event e.event off yes refl)
    ]
    next (Some k) q a others = elim (split x es e c) [
      | inl is ↦ let s : x.id ≡ e.id = ap (λ (y : IdOfEvent). y.id) is in omega (arith, s, a)
      | inr there ↦ let s : k ≤ e.id = others k q there in omega (arith, s, a)
    ]

    go : (b : Bool) → is_event (event_of t x.id) x.event ≡ b → ◌≡◌ {A = Option ℕ} (cond b (least_shared t es) (Some (lesser x.id (least_shared t es)))) (Some m)
        → ((k : ℕ) → least_shared t es ≡ Some k → Contains es e → k ≤ e.id) → m ≤ e.id
    go true b f others = elim (split x es e c) [
      | inl is ↦ let yes : is_event (event_of t e.id) e.event ≡ true = subst (λ (y : IdOfEvent). is_event (event_of t y.id) y.event ≡ true) is b in absurd (cc)
      | inr there ↦ others m f there
    ]
    go false b f others = next (least_shared t es) refl (let a : lesser x.id (least_shared t es) ≡ m = cc in a) others

pub none_is : (t : List IdOfEvent) → IsFunction t → least_shared t t ≡ None
none_is t one = go (least_shared t t) refl
  where
    go : (o : Option ℕ) → least_shared t t ≡ o → least_shared t t ≡ None
    go None e = e
    go (Some m) e = let f = one_before t t m e in absurd (test_fails (event_of t m) f.0 f.0 f.2 (event_is t m f.0 one f.1) refl)

-- an entry that is not the first of its id shares it
shares : (t : List IdOfEvent) (m : ℕ) → Found t t m → SharesAnId t m
shares t m f = go (event_of t m) refl
  where
    go : (o : Option ℕ) → event_of t m ≡ o → SharesAnId t m
    go None e = absurd (no_event t m f.0 e f.1)
    go (Some n) e = (n, f.0, test_fails (event_of t m) n f.0 f.2 e, has_event t m n e, f.1)

-- one of two events of an id is not the first
one_of_two : (t : List IdOfEvent) (k id : ℕ) → least_shared t t ≡ Some k → SharesAnId t id → k ≤ id
one_of_two t k id e s = go (is_event (event_of t id) s.0) refl (is_event (event_of t id) s.1) refl
  where
    go : (b : Bool) → is_event (event_of t id) s.0 ≡ b → (c : Bool) → is_event (event_of t id) s.1 ≡ c → k ≤ id
    go false p c q = least_before t t k (pair id s.0) e s.3 p
    go true p false q = least_before t t k (pair id s.1) e s.4 q
    go true p true q =
        let a : Some s.0 ≡ Some s.1 = sym (event_test (event_of t id) s.0 p) ∙ event_test (event_of t id) s.1 q in
        let b : s.0 ≡ s.1 = cc in absurd (s.2 b)

pub least_is : (t : List IdOfEvent) (id : ℕ) → SharesAnId t id → ((i : ℕ) → SharesAnId t i → id ≤ i) → least_shared t t ≡ Some id
least_is t id s least = go (least_shared t t) refl
  where
    go : (o : Option ℕ) → least_shared t t ≡ o → least_shared t t ≡ Some id
    go None e =
        let a : Some s.0 ≡ Some s.1 = sym (none_before t t (pair id s.0) e s.3) ∙ none_before t t (pair id s.1) e s.4 in
        let b : s.0 ≡ s.1 = cc in absurd (s.2 b)
    go (Some k) e =
        let low : k ≤ id = one_of_two t k id e s in
        let high : id ≤ k = least k (shares t k (one_before t t k e)) in
        let same : k ≡ id = omega arith in
        e ∙ ap (λ (i : ℕ). Some i) same
