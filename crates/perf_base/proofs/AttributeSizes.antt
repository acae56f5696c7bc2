-- An attribute that is accepted takes as many bytes as its size specifies.
use Rattle.std.proofs.Common.{◌≡◌, ℕ, ◌+◌, ◌-◌, ◌<◌, Bool, true, false, List, [], ◌∷◌, length, take, drop, Option, Some, None, Ok, Err, refl, sym, ◌∙◌, ap, subst, arith}
use Rattle.std.specs.Prelude.{Result, ◌==◌, ◌||◌, nat_le, nat_lt, if◌then◌else◌}
use Rattle.std.proofs.lemmas.Bool.{le-leb}
use Rattle.std.proofs.lemmas.Bool.Decides.{nat_tests}
use Rattle.perf_base.specs.Order.{Order}
use Rattle.perf_base.specs.Layout.{Width, optional, bytes_in, size, layout, ending, Spot, takes, holds, stands, spot_kind, spots, first_refusal, value}
use Rattle.perf_base.specs.Attribute.{attribute, is_attribute_size}
use Rattle.perf_base.specs.declared.sys.perf_event_attr.{perf_event_attr}
use Rattle.perf_base.specs.declared.error.ErrorKind.{ErrorKind}

sized_if : (b : Bool) (w : Width) (left : ℕ) → size (optional b w) left ≡ (if b then bytes_in w else 0)
sized_if true w left = refl
sized_if false w left = refl

-- n as a number of bytes, if it is at least k
abbrev from : ℕ → ℕ → ℕ → ℕ
from k n bytes = if nat_le k n then bytes else 0

-- where an attribute of a size ends
abbrev reach : ℕ → ℕ
reach n =
    64 + from 72 n 8 + from 80 n 8 + from 96 n 8 + from 96 n 4 + from 96 n 4 + from 104 n 8
    + from 112 n 4 + from 112 n 2 + from 112 n 2 + from 120 n 4 + from 120 n 4 + from 128 n 8 + from 136 n 8 + (n - 136)

reached : (n : ℕ) → is_attribute_size n ≡ true → reach n ≡ n
reached n h = go (n == 64) (n == 72) (n == 80) (n == 96) (n == 104) (n == 112) (n == 120) (n == 128) (n == 136) refl refl refl refl refl refl refl refl refl h
  where
    known : (k : ℕ) → reach k ≡ k → (n == k) ≡ true → reach n ≡ n
    known k e h = subst (λ m. reach m ≡ m) (sym (grind (arith, nat_tests))) e

    above : 136 < n → reach n ≡ n
    above h = rw (le-leb 72 n (omega arith), le-leb 80 n (omega arith), le-leb 96 n (omega arith), le-leb 104 n (omega arith), le-leb 112 n (omega arith), le-leb 120 n (omega arith), le-leb 128 n (omega arith), le-leb 136 n (omega arith)) (omega arith)

    go : (a b c d e f g i j : Bool) → (n == 64) ≡ a → (n == 72) ≡ b → (n == 80) ≡ c → (n == 96) ≡ d → (n == 104) ≡ e → (n == 112) ≡ f → (n == 120) ≡ g → (n == 128) ≡ i → (n == 136) ≡ j →
        (a || b || c || d || e || f || g || i || j || nat_lt 136 n) ≡ true → reach n ≡ n
    go true b c d e f g i j p1 p2 p3 p4 p5 p6 p7 p8 p9 h = known 64 refl p1
    go false true c d e f g i j p1 p2 p3 p4 p5 p6 p7 p8 p9 h = known 72 refl p2
    go false false true d e f g i j p1 p2 p3 p4 p5 p6 p7 p8 p9 h = known 80 refl p3
    go false false false true e f g i j p1 p2 p3 p4 p5 p6 p7 p8 p9 h = known 96 refl p4
    go false false false false true f g i j p1 p2 p3 p4 p5 p6 p7 p8 p9 h = known 104 refl p5
    go false false false false false true g i j p1 p2 p3 p4 p5 p6 p7 p8 p9 h = known 112 refl p6
    go false false false false false false true i j p1 p2 p3 p4 p5 p6 p7 p8 p9 h = known 120 refl p7
    go false false false false false false false true j p1 p2 p3 p4 p5 p6 p7 p8 p9 h = known 128 refl p8
    go false false false false false false false false true p1 p2 p3 p4 p5 p6 p7 p8 p9 h = known 136 refl p9
    go false false false false false false false false false p1 p2 p3 p4 p5 p6 p7 p8 p9 h = above (grind (arith, nat_tests))

ends_at : (o : Order) (body : List ℕ) → ending o body 0 attribute ≡ reach (o.four (take 4 (drop 4 body)))
ends_at o body = simp sized_if

-- a layout that succeeds
stood : {A : Type 0} (f : Option ErrorKind) (v a : A) → ◌≡◌ {A = Result A ErrorKind} (elim f [ None ↦ Ok v | Some e ↦ Err e ]) (Ok a) → (f ≡ None) × (v ≡ a)
stood None v a h = (refl, cc)
stood (Some e) v a h = absurd (cc)

first : (t : Bool) (f : Option ErrorKind) (e : ErrorKind) → ◌≡◌ {A = Option ErrorKind} (elim t [ true ↦ f | false ↦ Some e ]) None → (t ≡ true) × (f ≡ None)
first true f e h = (refl, h)
first false f e h = absurd (cc)

-- the third of the spots, if it is a check
abbrev ThirdHolds : List Spot → Type 0
ThirdHolds [] = Unit {0}
ThirdHolds (x ∷ []) = Unit {0}
ThirdHolds (x ∷ y ∷ []) = Unit {0}
ThirdHolds (x ∷ y ∷ takes s n shape ∷ xs) = Unit {0}
ThirdHolds (x ∷ y ∷ holds s t e ∷ xs) = t ≡ true

third : (len : ℕ) (xs : List Spot) → first_refusal len xs ≡ None → ThirdHolds xs
third len [] h = tt
third len (x ∷ []) h = tt
third len (x ∷ y ∷ []) h = tt
third len (x ∷ y ∷ takes s n shape ∷ xs) h = tt
third len (x ∷ y ∷ holds s t e ∷ xs) h =
    let after = first (stands len x) (first_refusal len (y ∷ holds s t e ∷ xs)) (spot_kind x) h in
    let next = first (stands len y) (first_refusal len (holds s t e ∷ xs)) (spot_kind y) after.1 in
    (first t (first_refusal len xs) e next.1).0

-- An attribute that was read ends where its size specifies.
pub ends : (o : Order) (body : List ℕ) (a : perf_event_attr) → layout o attribute body ≡ Ok a → ending o body 0 attribute ≡ a.size
ends o body a h =
    let n : ℕ = o.four (take 4 (drop 4 body)) in
    let both : (first_refusal (length body) (spots o body 0 attribute) ≡ None) × (value o body 0 attribute ≡ a) = stood (first_refusal (length body) (spots o body 0 attribute)) (value o body 0 attribute) a h in
    let size : n ≡ a.size = ap (λ (x : perf_event_attr). x.size) both.1 in
    let known : is_attribute_size n ≡ true = third (length body) (spots o body 0 attribute) both.0 in
    ends_at o body ∙ reached n known ∙ size
