-- The front of the line of an address: its digits, two at a time, and the bytes before and after them.
use Rattle.std.proofs.Common.{◌≡◌, ℕ, zero, suc, ◌+◌, ◌-◌, ◌*◌, ◌/◌, ◌%◌, ◌^◌, ◌<◌, ◌≤◌, false, cond, List, [], ◌∷◌, ◌++◌, length, take, drop, replicate, codes, refl, ap, ◌∙◌, sym, inl, inr, arith, append_assoc, length-append, length-drop}
use Rattle.std.specs.Fmt.{digits, digits_onto, digit_glyph}
use Rattle.std.proofs.lemmas.Bool.{cases_lt, eq-eqb, ne_eqb}
use Rattle.std.proofs.lemmas.List.{take-replicate, take-append-drop, take-append-le, take-take}

-- the digits of n before xs, at most k of them
abbrev pub spell : ℕ → ℕ → List ℕ → List ℕ
spell k n xs = digits_onto k 16 false n xs

abbrev last_digit : ℕ → ℕ
last_digit n = digit_glyph false (n % 16)

spell_last : (k n : ℕ) (xs : List ℕ) → n < 16 → spell (suc k) n xs ≡ last_digit n ∷ xs
spell_last k n xs small = ap (λ t. cond t (last_digit n ∷ xs) (spell k (n / 16) (last_digit n ∷ xs))) (eq-eqb (n / 16) 0 (omega arith))

spell_next : (k n : ℕ) (xs : List ℕ) → 16 ≤ n → spell (suc k) n xs ≡ spell k (n / 16) (last_digit n ∷ xs)
spell_next k n xs large = ap (λ t. cond t (last_digit n ∷ xs) (spell k (n / 16) (last_digit n ∷ xs))) (ne_eqb (n / 16) 0 (λ e. omega arith))

spell_pair : (k n : ℕ) (xs : List ℕ) → 256 ≤ n → spell (suc (suc k)) n xs ≡ spell k (n / 256) (digit_glyph false (n % 256 / 16) ∷ digit_glyph false (n % 256 % 16) ∷ xs)
spell_pair k n xs large =
    let a : n / 16 / 16 ≡ n / 256 = omega arith in
    let b : n / 16 % 16 ≡ n % 256 / 16 = omega arith in
    let c : n % 16 ≡ n % 256 % 16 = omega arith in
    rw (spell_next (suc k) n xs (omega arith), spell_next k (n / 16) (last_digit n ∷ xs) (omega arith), a, b, ← c)

spell_two : (k n : ℕ) (xs : List ℕ) → 16 ≤ n → n < 256 → spell (suc (suc k)) n xs ≡ digit_glyph false (n / 16) ∷ digit_glyph false (n % 16) ∷ xs
spell_two k n xs large small =
    let a : n / 16 % 16 ≡ n / 16 = omega arith in
    rw (spell_next (suc k) n xs large, spell_last k (n / 16) (last_digit n ∷ xs) (omega arith), a)

-- the digits come before what is already written
spell_front : (k n : ℕ) (xs : List ℕ) → spell k n xs ≡ spell k n [] ++ xs
spell_front zero n xs = refl
spell_front (suc k) n xs =
    elim (cases_lt n 16) [
      | inl few ↦ spell_last k n xs few ∙ ap (λ ys. ys ++ xs) (sym (spell_last k n [] few))
      | inr many ↦ spell_next k n xs many ∙ spell_front k (n / 16) (last_digit n ∷ xs) ∙ sym (append_assoc (spell k (n / 16) []) (last_digit n ∷ []) xs)
          ∙ ap (λ ys. ys ++ xs) (sym (spell_next k n [] many ∙ spell_front k (n / 16) (last_digit n ∷ [])))
    ]

as_spelled : (n : ℕ) → digits 16 false n ≡ spell 64 n []
unfolding digits
as_spelled n = refl

pub spelled : (n : ℕ) (xs : List ℕ) → spell 64 n xs ≡ digits 16 false n ++ xs
spelled n xs = spell_front 64 n xs ∙ ap (λ ys. ys ++ xs) (sym (as_spelled n))

-- ---- a number is written before a place

pow_two : (at : ℕ) → 2 ≤ at → 16 ^ at ≡ 256 * 16 ^ (at - 2)
pow_two zero low = absurd (omega arith)
pow_two (suc zero) low = absurd (omega arith)
pow_two (suc (suc k)) low =
    let same : k ≡ suc (suc k) - 2 = omega arith in
    let more : 16 ^ suc (suc k) ≡ 256 * 16 ^ k = omega arith in
    more ∙ ap (λ m. 256 * 16 ^ m) same

-- a number of two digits or more needs a place of 3 or more, one of three digits a place of 4
pub room_two : (n at : ℕ) → 16 ≤ n → 16 * n < 16 ^ at → 3 ≤ at
room_two n zero large fits = absurd (omega arith)
room_two n (suc zero) large fits = absurd (omega arith)
room_two n (suc (suc zero)) large fits = absurd (omega arith)
room_two n (suc (suc (suc k))) large fits = omega arith

pub room_pair : (n at : ℕ) → 256 ≤ n → 16 * n < 16 ^ at → 4 ≤ at
room_pair n zero large fits = absurd (omega arith)
room_pair n (suc zero) large fits = absurd (omega arith)
room_pair n (suc (suc zero)) large fits = absurd (omega arith)
room_pair n (suc (suc (suc zero))) large fits = absurd (omega arith)
room_pair n (suc (suc (suc (suc k)))) large fits = omega arith

pub room_left : (n at : ℕ) → 2 ≤ at → 16 * n < 16 ^ at → 16 * (n / 256) < 16 ^ (at - 2)
room_left n at low fits = omega (arith, pow_two at low, fits)

pub pair_written : (n at : ℕ) (xs ys : List ℕ) → 256 ≤ n → 2 ≤ at → ys ≡ digit_glyph false (n % 256 / 16) ∷ digit_glyph false (n % 256 % 16) ∷ xs → spell (47 + (at - 2)) (n / 256) ys ≡ spell (47 + at) n xs
pair_written n at xs ys large low is =
    let count : suc (suc (47 + (at - 2))) ≡ 47 + at = omega arith in
    ap (spell (47 + (at - 2)) (n / 256)) is ∙ sym (spell_pair (47 + (at - 2)) n xs large) ∙ ap (λ k. spell k n xs) count

pub two_written : (n at : ℕ) (xs ys : List ℕ) → 16 ≤ n → n < 256 → 2 ≤ at → ys ≡ digit_glyph false (n / 16) ∷ digit_glyph false (n % 16) ∷ xs → ys ≡ spell (47 + at) n xs
two_written n at xs ys large small low is =
    let count : suc (suc (47 + (at - 2))) ≡ 47 + at = omega arith in
    is ∙ sym (spell_two (47 + (at - 2)) n xs large small) ∙ ap (λ k. spell k n xs) count

pub one_written : (n at : ℕ) (xs ys : List ℕ) → n < 16 → 1 ≤ at → ys ≡ digit_glyph false n ∷ xs → ys ≡ spell (47 + at) n xs
one_written n at xs ys small low is =
    let same : n ≡ n % 16 = omega arith in
    let count : suc (47 + (at - 1)) ≡ 47 + at = omega arith in
    is ∙ ap (λ d. digit_glyph false d ∷ xs) same ∙ sym (spell_last (47 + (at - 1)) n xs small) ∙ ap (λ k. spell k n xs) count

-- what is the same before a place is so before a lower one
pub before_lower : (xs ys zs : List ℕ) (low at : ℕ) → low ≤ at → take low xs ≡ take low ys → take at ys ≡ take at zs → take low xs ≡ take low zs
before_lower xs ys zs low at le same more = same ∙ sym (take-take low at ys le) ∙ ap (take low) more ∙ take-take low at zs le

-- ---- the cells

abbrev pub blank : List ℕ
blank = codes "\t                 ("

blank_front : (r : ℕ) → 1 ≤ r → r ≤ 17 → take r blank ≡ 9 ∷ replicate (r - 1) 32
blank_front zero low high = absurd (omega arith)
blank_front (suc k) low high =
    let same : k ≡ suc k - 1 = omega arith in
    ap (λ ys. 9 ∷ ys) (take-append-le k (replicate 17 32) (codes "(") (omega arith) ∙ take-replicate k 17 32 (omega arith) ∙ ap (λ n. replicate n 32) same)

pub cells_are : (cells ds : List ℕ) (r : ℕ) → length cells ≡ 19 → 1 ≤ r → r ≤ 17 → take r cells ≡ take r blank → drop r cells ≡ ds ++ codes " (" → cells ≡ codes "\t" ++ ((replicate (16 - length ds) 32 ++ ds) ++ codes " (")
cells_are cells ds r long low high front back =
    let count : 19 - r ≡ length ds + 2 = sym (ap (λ n. n - r) long) ∙ sym (length-drop r cells) ∙ ap length back ∙ length-append ds (codes " (") in
    let pad : r - 1 ≡ 16 - length ds = omega arith in
    sym (take-append-drop r cells) ∙ ap (λ xs. xs ++ drop r cells) (front ∙ blank_front r low high)
    ∙ ap (λ xs. (9 ∷ replicate (r - 1) 32) ++ xs) back
    ∙ ap (λ n. (9 ∷ replicate n 32) ++ (ds ++ codes " (")) pad
    ∙ ap (λ xs. 9 ∷ xs) (sym (append_assoc (replicate (16 - length ds) 32) ds (codes " (")))
