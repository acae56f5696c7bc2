-- Boxes inside and beside one another.
use Rattle.std.proofs.Common.{◌≡◌, ◌≢◌, ℕ, ◌+◌, ◌*◌, ◌/◌, ◌<◌, ◌≤◌, Bool, true, false, cond, eqb, ltb, ◌||◌, List, [], ◌∷◌, max, inl, inr, refl, sym, ap, ◌∙◌, arith}
use Rattle.std.specs.Prelude.{◌⊎◌}
use Rattle.std.proofs.Math.Nat.{div-mul-le_self}
use Rattle.std.proofs.lemmas.Nat.{le-div}
use Rattle.std.proofs.lemmas.Bool.{cases_eq, true≢false}
use Rattle.std.proofs.lemmas.Bool.Decides.{nat_tests}
use Rattle.std.proofs.lemmas.List.Sums.{sum_by-cons}
use Rattle.perf_flame.specs.Boxes.{begins, is_before, worth_of, left_of}
use Rattle.perf_flame.specs.Laws.{IsInside, IsPlain, IsEntity}
use Rattle.perf_flame.specs.Lines.{Line, total_of}
use Rattle.perf_flame.specs.Svg.{edge, escaped_byte}
use Rattle.perf_flame.proofs.Begins.{before_trans, not_before_itself, before_longer, before_or_begins}

chain_step : (q r x : ℕ) (a b c : Bool) → (a ≡ true → b ≡ true → c ≡ true) → cond (eqb r q) a false ≡ true → cond (eqb x r) b false ≡ true → cond (eqb x q) c false ≡ true
chain_step q r x a b c rest h g = grind (arith, nat_tests)

begins_trans : (qs rs xs : List ℕ) → begins qs rs ≡ true → begins rs xs ≡ true → begins qs xs ≡ true
begins_trans [] rs xs h g = refl
begins_trans (q ∷ qs) [] xs h g = cc
begins_trans (q ∷ qs) (r ∷ rs) [] h g = g
begins_trans (q ∷ qs) (r ∷ rs) (x ∷ xs) h g = chain_step q r x _ _ _ (begins_trans qs rs xs) h g

beside_step : (q r x : ℕ) (a b c d : Bool) → (a ≡ true → b ≡ true → c ≡ false → d ≡ true) → cond (eqb x q) a false ≡ true → cond (eqb q r) b (ltb q r) ≡ true → cond (eqb r q) c false ≡ false
    → cond (eqb x r) d (ltb x r) ≡ true
beside_step q r x a b c d rest h g f = grind (arith, nat_tests)

-- what begins so is before another beginning that does not begin so
begun_before : (qs rs xs : List ℕ) → begins qs xs ≡ true → is_before qs rs ≡ true → begins qs rs ≡ false → is_before xs rs ≡ true
begun_before [] rs xs h g f = absurd (true≢false f)
begun_before (q ∷ qs) [] xs h g f = absurd (true≢false (sym g))
begun_before (q ∷ qs) (r ∷ rs) [] h g f = refl
begun_before (q ∷ qs) (r ∷ rs) (x ∷ xs) h g f = beside_step q r x _ _ _ _ (begun_before qs rs xs) h g f

false_unless : (b : Bool) → (b ≡ true → false ≡ true) → b ≡ false
false_unless true absurdly = sym (absurdly refl)
false_unless false absurdly = refl

-- what begins so is not before
not_both : (q xs : List ℕ) → begins q xs ≡ true → is_before xs q ≡ false
not_both q xs h = false_unless (is_before xs q) (λ less. sym (not_before_itself xs) ∙ before_longer xs q xs less h)

left_cons : (q : List ℕ) (l : Line) (ls : List Line) → left_of (l ∷ ls) q ≡ (cond (is_before l.stack q) l.count 0) + left_of ls q
left_cons q l ls = sum_by-cons (λ (l : Line). cond (is_before l.stack q) l.count 0) l ls

worth_cons : (q : List ℕ) (l : Line) (ls : List Line) → worth_of (l ∷ ls) q ≡ (cond (begins q l.stack) l.count 0) + worth_of ls q
worth_cons q l ls = sum_by-cons (λ (l : Line). cond (begins q l.stack) l.count 0) l ls

left_step : (a b : Bool) (n : ℕ) → (a ≡ true → b ≡ true) → (cond a n 0) ≤ (cond b n 0)
left_step a b n h = grind (arith, nat_tests)

right_step : (a b c d : Bool) (n : ℕ) → (a ≡ true → (c || d) ≡ true) → (b ≡ true → d ≡ true) → (b ≡ true → a ≡ false) → (cond a n 0) + (cond b n 0) ≤ (cond c n 0) + (cond d n 0)
right_step a b c d n h g f = grind (arith, nat_tests)

beside : (a b c : Bool) (n : ℕ) → (a ≡ true → c ≡ true) → (b ≡ true → c ≡ true) → (b ≡ true → a ≡ false) → (cond a n 0) + (cond b n 0) ≤ (cond c n 0)
beside a b c n h g f = grind (arith, nat_tests)

left_inside : (lines : List Line) (parent child : List ℕ) → begins parent child ≡ true → left_of lines parent ≤ left_of lines child
left_inside [] parent child h = omega arith
left_inside (l ∷ ls) parent child h =
    let step = left_step (is_before l.stack parent) (is_before l.stack child) l.count (λ less. before_longer l.stack parent child less h) in
    omega (arith, step, left_inside ls parent child h, left_cons parent l ls, left_cons child l ls)

right_inside : (lines : List Line) (parent child : List ℕ) → begins parent child ≡ true → left_of lines child + worth_of lines child ≤ left_of lines parent + worth_of lines parent
right_inside [] parent child h = omega arith
right_inside (l ∷ ls) parent child h =
    let step =
    right_step (is_before l.stack child) (begins child l.stack) (is_before l.stack parent) (begins parent l.stack) l.count
    (λ less. before_or_begins l.stack parent child less h) (begins_trans parent child l.stack h) (not_both child l.stack) in
    omega (arith, step, right_inside ls parent child h, left_cons parent l ls, left_cons child l ls, worth_cons parent l ls, worth_cons child l ls)

pub inside : (lines : List Line) (parent child : List ℕ) → begins parent child ≡ true → IsInside (left_of lines child) (left_of lines child + worth_of lines child) (left_of lines parent) (left_of lines parent + worth_of lines parent)
inside lines parent child h = (left_inside lines parent child h, right_inside lines parent child h)

pub apart : (lines : List Line) (first second : List ℕ) → is_before first second ≡ true → begins first second ≡ false → left_of lines first + worth_of lines first ≤ left_of lines second
apart [] first second less other = omega arith
apart (l ∷ ls) first second less other =
    let step =
    beside (is_before l.stack first) (begins first l.stack) (is_before l.stack second) l.count
    (λ before. before_trans l.stack first second before less) (λ begun. begun_before first second l.stack begun less other) (not_both first l.stack) in
    omega (arith, step, apart ls first second less other, left_cons first l ls, worth_cons first l ls, left_cons second l ls)

div_rises : (a b t : ℕ) → 0 < t → a ≤ b → a / t ≤ b / t
div_rises a b t some le = le-div (a / t) b t some (omega (arith, div-mul-le_self a t, le))

-- what is drawn keeps the order of counts
pub edge_rises : (total m n : ℕ) → m ≤ n → edge total m ≤ edge total n
edge_rises total m n le =
    let parts : m * 1200000 / max total 1 ≤ n * 1200000 / max total 1 = div_rises (m * 1200000) (n * 1200000) (max total 1) (omega arith) (omega arith) in
    omega (arith, parts)

pub drawn_inside : (lines : List Line) (parent child : List ℕ) → begins parent child ≡ true
    → IsInside (edge (total_of lines) (left_of lines child)) (edge (total_of lines) (left_of lines child + worth_of lines child))
    (edge (total_of lines) (left_of lines parent)) (edge (total_of lines) (left_of lines parent + worth_of lines parent))
drawn_inside lines parent child h =
    let counts = inside lines parent child h in (
      edge_rises (total_of lines) (left_of lines parent) (left_of lines child) counts.0,
      edge_rises (total_of lines) (left_of lines child + worth_of lines child) (left_of lines parent + worth_of lines parent) counts.1,
    )

pub drawn_apart : (lines : List Line) (first second : List ℕ) → is_before first second ≡ true → begins first second ≡ false
    → edge (total_of lines) (left_of lines first + worth_of lines first) ≤ edge (total_of lines) (left_of lines second)
drawn_apart lines first second less other = edge_rises (total_of lines) (left_of lines first + worth_of lines first) (left_of lines second) (apart lines first second less other)

-- a byte as XML writes it
pub opens_nothing : (b : ℕ) → IsPlain (escaped_byte b) ⊎ IsEntity (escaped_byte b)
opens_nothing b = elim (cases_eq b 38) [
  | inl is ↦ inr (inl (ap escaped_byte is))
  | inr n38 ↦ elim (cases_eq b 60) [
    | inl is ↦ inr (inr (inl (ap escaped_byte is)))
    | inr n60 ↦ elim (cases_eq b 62) [
      | inl is ↦ inr (inr (inr (inl (ap escaped_byte is))))
      | inr n62 ↦ elim (cases_eq b 34) [
        | inl is ↦ inr (inr (inr (inr (ap escaped_byte is))))
        | inr n34 ↦ inl (b, itself b n38 n60 n62 n34, n38, n60, n62, n34)
      ]
    ]
  ]
]
  where
    itself : (b : ℕ) → b ≢ 38 → b ≢ 60 → b ≢ 62 → b ≢ 34 → escaped_byte b ≡ b ∷ []
    itself b n38 n60 n62 n34 = grind (arith, nat_tests)
