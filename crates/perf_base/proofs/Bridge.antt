-- The layout by offsets is the run of the parts.
use Rattle.std.proofs.Common.{◌≡◌, ℕ, ◌+◌, ◌-◌, ◌≤◌, ◌<◌, Bool, true, false, List, [], length, take, drop, Option, Some, None, refl, sym, ◌∙◌, ap, subst, inl, inr, arith}
use Rattle.std.proofs.lemmas.List.{length-drop, drop-drop}
use Rattle.std.proofs.lemmas.Bool.{cases_lt, le-leb, lt-leb}
use Rattle.perf_base.specs.Order.{Order}
use Rattle.perf_base.specs.Layout.{Shape, ShapeValue, shape_value, size, Parts, done, part, check, slice, Spot, spots, ending, value, first_refusal}
use Rattle.perf_base.specs.Run.{Ran, ran, stopped, one, run_parts, left_at, run_by_spots, by_places}
use Rattle.perf_base.specs.declared.error.ErrorKind.{ErrorKind}
use Rattle.perf_base.specs.declared.error.ErrorKind.TheVariants.{Eof}

pub taken : {B : Type 0} (t : Bool) (x y : B) → t ≡ true → elim t [ true ↦ x | false ↦ y ] ≡ x
taken true x y e = refl
taken false x y e = cc

pub not_taken : {B : Type 0} (t : Bool) (x y : B) → t ≡ false → elim t [ true ↦ x | false ↦ y ] ≡ y
not_taken false x y e = refl
not_taken true x y e = cc

-- a part that fits, and one that doesn't
pub one_yes : (o : Order) (shape : Shape) (bytes : List ℕ) → size shape (length bytes) ≤ length bytes →
    one o shape bytes ≡ ran (shape_value o shape (take (size shape (length bytes)) bytes)) (drop (size shape (length bytes)) bytes)
unfolding one
one_yes o shape bytes h = taken _ _ _ (le-leb (size shape (length bytes)) (length bytes) h)

pub one_no : (o : Order) (shape : Shape) (bytes : List ℕ) → length bytes < size shape (length bytes) → one o shape bytes ≡ stopped Eof []
unfolding one
one_no o shape bytes h = not_taken _ _ _ (lt-leb (size shape (length bytes)) (length bytes) h)

-- what follows a part
abbrev pub onward : {A B : Type 0} → (A → List ℕ → Ran B) → Ran A → Ran B
onward f (ran v left) = f v left
onward f (stopped e left) = stopped e left

pub run_step : {A : Type 0} (o : Order) (shape : Shape) (k : ShapeValue shape → Parts A) (bytes : List ℕ) →
    run_parts o (part shape k) bytes ≡ onward (λ v left. run_parts o (k v) left) (one o shape bytes)
run_step {A} o shape k bytes = go (one o shape bytes)
  where
    go : (r : Ran (ShapeValue shape)) → ◌≡◌ {A = Ran A} (elim r [ ran v left ↦ run_parts o (k v) left | stopped e left ↦ stopped e left ]) (onward (λ v left. run_parts o (k v) left) r)
    go (ran v left) = refl
    go (stopped e left) = refl

pub run_yes : {A : Type 0} (o : Order) (shape : Shape) (k : ShapeValue shape → Parts A) (bytes : List ℕ) (n : ℕ) → size shape (length bytes) ≡ n → n ≤ length bytes →
    run_parts o (part shape k) bytes ≡ run_parts o (k (shape_value o shape (take n bytes))) (drop n bytes)
run_yes {A} o shape k bytes n e =
    subst (λ (m : ℕ). m ≤ length bytes → run_parts o (part shape k) bytes ≡ run_parts o (k (shape_value o shape (take m bytes))) (drop m bytes)) e
    (λ h. run_step o shape k bytes ∙ ap (onward (λ v left. run_parts o (k v) left)) (one_yes o shape bytes h))

pub run_no : {A : Type 0} (o : Order) (shape : Shape) (k : ShapeValue shape → Parts A) (bytes : List ℕ) → length bytes < size shape (length bytes) →
    run_parts o (part shape k) bytes ≡ stopped Eof []
run_no o shape k bytes h = run_step o shape k bytes ∙ ap (onward (λ v left. run_parts o (k v) left)) (one_no o shape bytes h)

pub judged_yes : {A : Type 0} (o : Order) (body : List ℕ) (s : ℕ) (shape : Shape) (k : ShapeValue shape → Parts A) →
    let n : ℕ = size shape (length body - s) in s + n ≤ length body →
    run_by_spots o body s (part shape k) ≡ run_by_spots o body (s + n) (k (shape_value o shape (slice body s n)))
judged_yes {A} o body s shape k h =
    let n : ℕ = size shape (length body - s) in
    let q : Parts A = k (shape_value o shape (slice body s n)) in
    let xs : List Spot = spots o body (s + n) q in
    ap (λ (b : Bool). elim (elim b as (λ b. Option ErrorKind) [ true ↦ first_refusal (length body) xs | false ↦ Some Eof ]) as (λ f. Ran A) [ None ↦ ran (value o body (s + n) q) (drop (ending o body (s + n) q) body) | Some e ↦ stopped e (elim b as (λ b. List ℕ) [ true ↦ left_at body xs | false ↦ [] ]) ]) (le-leb (s + n) (length body) h)

pub judged_no : {A : Type 0} (o : Order) (body : List ℕ) (s : ℕ) (shape : Shape) (k : ShapeValue shape → Parts A) →
    length body < s + size shape (length body - s) → run_by_spots o body s (part shape k) ≡ stopped Eof []
judged_no {A} o body s shape k h =
    let n : ℕ = size shape (length body - s) in
    let q : Parts A = k (shape_value o shape (slice body s n)) in
    let xs : List Spot = spots o body (s + n) q in
    ap (λ (b : Bool). elim (elim b as (λ b. Option ErrorKind) [ true ↦ first_refusal (length body) xs | false ↦ Some Eof ]) as (λ f. Ran A) [ None ↦ ran (value o body (s + n) q) (drop (ending o body (s + n) q) body) | Some e ↦ stopped e (elim b as (λ b. List ℕ) [ true ↦ left_at body xs | false ↦ [] ]) ]) (lt-leb (s + n) (length body) h)

pub bridge : {A : Type 0} (o : Order) (body : List ℕ) (s : ℕ) (p : Parts A) → s ≤ length body → run_parts o p (drop s body) ≡ run_by_spots o body s p
bridge o body s (done v) h = refl
bridge o body s (check true e p) h = bridge o body s p h
bridge o body s (check false e p) h = refl
bridge o body s (part shape k) h =
    let n : ℕ = size shape (length body - s) in
    let sized : size shape (length (drop s body)) ≡ n = ap (size shape) (length-drop s body) in
    elim (cases_lt (length body) (s + n)) [
      | inr fits ↦
          run_yes o shape k (drop s body) n sized (omega (arith, length-drop s body))
          ∙ ap (run_parts o (k (shape_value o shape (slice body s n)))) (drop-drop n s body)
          ∙ bridge o body (s + n) (k (shape_value o shape (slice body s n))) fits
          ∙ sym (judged_yes o body s shape k fits)
      | inl short ↦
          run_no o shape k (drop s body) (omega (arith, length-drop s body, sized)) ∙ sym (judged_no o body s shape k short)
    ]

pub places_run : {A : Type 0} (o : Order) (p : Parts A) (body : List ℕ) → by_places o p body ≡ run_parts o p body
unfolding by_places
places_run o p body = sym (bridge o body 0 p (omega arith))
