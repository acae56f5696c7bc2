-- Parts without a check succeed whenever they end within the body.
use Rattle.std.proofs.Common.{◌≡◌, ℕ, ◌+◌, ◌-◌, ◌≤◌, List, length, drop, Option, Some, None, refl, ◌∙◌, ap, arith}
use Rattle.std.proofs.lemmas.Bool.{le-leb}
use Rattle.perf_base.specs.Order.{Order}
use Rattle.perf_base.specs.Layout.{ShapeValue, shape_value, size, Parts, done, part, check, slice, spots, ending, value, first_refusal}
use Rattle.perf_base.specs.Run.{Ran, ran, stopped, left_at, by_places}
use Rattle.perf_base.specs.declared.error.ErrorKind.{ErrorKind}
use Rattle.perf_base.proofs.Bridge.{taken}

-- there is no check among the parts
abbrev pub Unchecked : {A : Type 0} → Parts A → Type 0
Unchecked (done v) = Unit {0}
Unchecked (part shape k) = (a : ShapeValue shape) → Unchecked (k a)
Unchecked (check t e p) = ⊥

onwards : {A : Type 0} (o : Order) (body : List ℕ) (s : ℕ) (p : Parts A) → s ≤ ending o body s p
onwards o body s (done v) = omega arith
onwards o body s (part shape k) =
    let n : ℕ = size shape (length body - s) in
    let after : s + n ≤ ending o body (s + n) (k (shape_value o shape (slice body s n))) = onwards o body (s + n) (k (shape_value o shape (slice body s n))) in
    omega arith
onwards o body s (check t e p) = onwards o body s p

unchecked_stand : {A : Type 0} (o : Order) (body : List ℕ) (s : ℕ) (p : Parts A) → Unchecked p → ending o body s p ≤ length body → first_refusal (length body) (spots o body s p) ≡ None
unchecked_stand o body s (done v) free fits = refl
unchecked_stand o body s (check t e p) free fits = absurd free
unchecked_stand o body s (part shape k) free fits =
    let n : ℕ = size shape (length body - s) in
    let here : s + n ≤ ending o body (s + n) (k (shape_value o shape (slice body s n))) = onwards o body (s + n) (k (shape_value o shape (slice body s n))) in
    taken _ _ _ (le-leb (s + n) (length body) (omega arith)) ∙ unchecked_stand o body (s + n) (k (shape_value o shape (slice body s n))) (free (shape_value o shape (slice body s n))) fits

pub unchecked_run : {A : Type 0} (o : Order) (p : Parts A) (body : List ℕ) → Unchecked p → ending o body 0 p ≤ length body →
    by_places o p body ≡ ran (value o body 0 p) (drop (ending o body 0 p) body)
unfolding by_places
unchecked_run {A} o p body free fits =
    ap (λ (f : Option ErrorKind). elim f as (λ f. Ran A) [ None ↦ ran (value o body 0 p) (drop (ending o body 0 p) body) | Some e ↦ stopped e (left_at body (spots o body 0 p)) ]) (unchecked_stand o body 0 p free fits)
