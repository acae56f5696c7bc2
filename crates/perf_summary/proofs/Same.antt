-- Threads are found by their ids.
use Rattle.std.proofs.Common.{◌≡◌, ℕ, ◌==◌, Bool, true, false, cond, ◌&&◌, refl, ap, ◌∙◌, arith, Ordering, Less, Equal, Greater, is_eq, nat_cmp}
use Rattle.std.specs.Prelude.{Some, if◌then◌else◌}
use Rattle.std.proofs.lemmas.Bool.{eqb-true}
use Rattle.std.specs.BTreeMap.{BTreeMap, get, is_at}
use Rattle.std.specs.Ordering.{ordering_then}
use Rattle.perf_summary.specs.ThreadSteps.{Adds, grown, or_none}
use Rattle.perf_summary.specs.Threads.{id_cmp, is_same}
use Rattle.perf_summary.specs.declared.facts.Fact.{Fact}
use Rattle.perf_summary.specs.declared.threads.Thread.{Thread}

same_number : (x y : ℕ) → is_eq (nat_cmp x y) ≡ (x == y)
same_number x y = grind arith

then_eq : (o p : Ordering) → is_eq (ordering_then o p) ≡ (is_eq o && is_eq p)
then_eq Less p = refl
then_eq Equal p = refl
then_eq Greater p = refl

-- ids are equal in their order if they are the same
pub same_id : (a b : ℕ × ℕ) → is_at (id_cmp a) b ≡ is_same a b
same_id a b =
    then_eq (nat_cmp a.0 b.0) (nat_cmp a.1 b.1)
    ∙ ap (λ x. x && is_eq (nat_cmp a.1 b.1)) (same_number a.0 b.0)
    ∙ ap (λ x. (a.0 == b.0) && x) (same_number a.1 b.1)

both : (p q : Bool) → (p && q) ≡ true → (p ≡ true) × (q ≡ true)
both true true e = (refl, refl)
both true false e = absurd (cc)
both false q e = absurd (cc)

-- the same ids are equal
pub same_equal : (a b : ℕ × ℕ) → is_same a b ≡ true → a ≡ b
same_equal a b e =
    let parts = both (a.0 == b.0) (a.1 == b.1) e in
    ap (λ x. (x, a.1)) (eqb-true a.0 b.0 parts.0) ∙ ap (λ y. (b.0, y)) (eqb-true a.1 b.1 parts.1)

-- a thread that took the place of another was added
pub added : (x : Fact) (old new : BTreeMap (ℕ × ℕ) Thread) (t : Thread) → ((q : ℕ × ℕ) → get id_cmp new q ≡ cond (is_at (id_cmp x.who) q) (Some t) (get id_cmp old q))
    → t ≡ grown (or_none (get id_cmp old x.who)) x → Adds x old new
added x old new t updates is = λ who. updates who ∙ ap (λ b. cond b (Some t) (get id_cmp old who)) (same_id x.who who) ∙ go who (is_same x.who who) refl where
  go : (who : ℕ × ℕ) (b : Bool) → is_same x.who who ≡ b → cond b (Some t) (get id_cmp old who) ≡ (if b then Some (grown (or_none (get id_cmp old who)) x) else get id_cmp old who)
  go who true e = ap Some is ∙ ap (λ (w : ℕ × ℕ). Some (grown (or_none (get id_cmp old w)) x)) (same_equal x.who who e)
  go who false e = refl
