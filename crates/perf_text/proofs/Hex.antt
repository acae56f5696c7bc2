-- The text of a number in hexadecimal, two digits at a time.
use Rattle.std.proofs.Common.{◌≡◌, ℕ, zero, suc, ◌+◌, ◌-◌, ◌*◌, ◌/◌, ◌%◌, ◌^◌, ◌<◌, ◌≤◌, Bool, true, false, cond, ◌&&◌, T, eqb, List, [], ◌∷◌, ◌++◌, length, get_or, refl, ap, ◌∙◌, sym, inl, inr, arith, eq-zero-or-pos, eqb→eq, append_assoc, length-append}
use Rattle.std.specs.Fmt.{digits, digits_onto, digit_glyph}
use Rattle.std.specs.Str.{IsAscii, IsUtf8}
use Rattle.std.proofs.lemmas.Str.{IsUtf8-from_ascii}
use Rattle.std.proofs.lemmas.Bool.{cases_lt, eq-eqb, ne_eqb}
use Rattle.std.proofs.lemmas.Bool.Decides.{nat_tests}
use Rattle.std.proofs.lemmas.Str.Ascii.{IsAscii-nil, IsAscii-cons}
use Rattle.std.proofs.lemmas.Fmt.{hex_one_digit, hex_two_digits}
use lib.Ieee.Fits.{and_l, and_r}
use Rattle.perf_text.specs.Numbers.{hex, hex_byte}
use Rattle.perf_text.specs.declared.hexadecimal.TheConstants.{PAIRS}

abbrev pub pair : ℕ → List ℕ
pair b = digit_glyph false (b / 16) ∷ digit_glyph false (b % 16) ∷ []

abbrev are_pairs : ℕ → Bool
are_pairs zero = true
are_pairs (suc b) = (eqb (get_or PAIRS (2 * b) 0) (digit_glyph false (b / 16)) && eqb (get_or PAIRS (2 * b + 1) 0) (digit_glyph false (b % 16))) && are_pairs b

below : (n b : ℕ) → T (are_pairs n) → b < n → (get_or PAIRS (2 * b) 0 ≡ digit_glyph false (b / 16)) × (get_or PAIRS (2 * b + 1) 0 ≡ digit_glyph false (b % 16))
below zero b t h = absurd (omega arith)
below (suc n) b t h =
    elim (eq-zero-or-pos (n - b)) [
      | inl z ↦ let e : b ≡ n = omega arith in let a = and_l _ (are_pairs n) t in rw e (eqb→eq _ _ (and_l _ _ a), eqb→eq _ _ (and_r _ _ a))
      | inr g ↦ below n b (and_r _ (are_pairs n) t) (omega arith)
    ]

pub PAIRS_at : (b : ℕ) → b < 256 → (get_or PAIRS (2 * b) 0 ≡ digit_glyph false (b / 16)) × (get_or PAIRS (2 * b + 1) 0 ≡ digit_glyph false (b % 16))
PAIRS_at b h = below 256 b tt h

-- the digits of n before xs, at most k of them
abbrev spell : ℕ → ℕ → List ℕ → List ℕ
spell k n xs = digits_onto k 16 false n xs

abbrev last_digit : ℕ → ℕ
last_digit n = digit_glyph false (n % 16)

spell_last : (k n : ℕ) (xs : List ℕ) → n < 16 → spell (suc k) n xs ≡ last_digit n ∷ xs
spell_last k n xs h = ap (λ t. cond t (last_digit n ∷ xs) (spell k (n / 16) (last_digit n ∷ xs))) (eq-eqb (n / 16) 0 (omega arith))

spell_next : (k n : ℕ) (xs : List ℕ) → 16 ≤ n → spell (suc k) n xs ≡ spell k (n / 16) (last_digit n ∷ xs)
spell_next k n xs h = ap (λ t. cond t (last_digit n ∷ xs) (spell k (n / 16) (last_digit n ∷ xs))) (ne_eqb (n / 16) 0 (λ e. omega arith))

-- the digits come before what is already written
spell_front : (k n : ℕ) (xs : List ℕ) → spell k n xs ≡ spell k n [] ++ xs
spell_front zero n xs = refl
spell_front (suc k) n xs =
    elim (cases_lt n 16) [
      | inl few ↦ spell_last k n xs few ∙ ap (λ ys. ys ++ xs) (sym (spell_last k n [] few))
      | inr many ↦ spell_next k n xs many ∙ spell_front k (n / 16) (last_digit n ∷ xs) ∙ sym (append_assoc (spell k (n / 16) []) (last_digit n ∷ []) xs)
          ∙ ap (λ ys. ys ++ xs) (sym (spell_next k n [] many ∙ spell_front k (n / 16) (last_digit n ∷ [])))
    ]

-- a bound above the number of digits changes nothing
spell_enough : (k n : ℕ) (xs : List ℕ) → n < 16 ^ suc k → spell (suc (suc k)) n xs ≡ spell (suc k) n xs
spell_enough zero n xs fits = spell_last 1 n xs (omega arith) ∙ sym (spell_last 0 n xs (omega arith))
spell_enough (suc k) n xs fits =
    elim (cases_lt n 16) [
      | inl few ↦ spell_last (suc (suc k)) n xs few ∙ sym (spell_last (suc k) n xs few)
      | inr many ↦ spell_next (suc (suc k)) n xs many ∙ spell_enough k (n / 16) (last_digit n ∷ xs) (omega arith) ∙ sym (spell_next (suc k) n xs many)
    ]

as_spelled : (n : ℕ) → digits 16 false n ≡ spell 64 n []
unfolding digits
as_spelled n = refl

pub digits_one : (n : ℕ) → n < 16 → digits 16 false n ≡ digit_glyph false n ∷ []
digits_one n small = hex_one_digit false n small

pub digits_step : (n : ℕ) → 16 ≤ n → n < 2 ^ 64 → digits 16 false n ≡ digits 16 false (n / 16) ++ (last_digit n ∷ [])
digits_step n large small =
    as_spelled n ∙ spell_next 63 n [] large ∙ sym (spell_enough 62 (n / 16) (last_digit n ∷ []) (omega arith))
    ∙ spell_front 64 (n / 16) (last_digit n ∷ []) ∙ ap (λ xs. xs ++ (last_digit n ∷ [])) (sym (as_spelled (n / 16)))

pub digits_two : (n : ℕ) → 16 ≤ n → n < 256 → digits 16 false n ≡ pair n
digits_two n large small = hex_two_digits false n large small

pub digits_pair : (n : ℕ) → 256 ≤ n → n < 2 ^ 64 → digits 16 false n ≡ digits 16 false (n / 256) ++ pair (n % 256)
digits_pair n large small =
    let a : n / 16 / 16 ≡ n / 256 = omega arith in
    let b : n / 16 % 16 ≡ n % 256 / 16 = omega arith in
    let c : n % 16 ≡ n % 256 % 16 = omega arith in
    rw (digits_step n (omega arith) small, digits_step (n / 16) (omega arith) (omega arith), append_assoc, a, b, ← c)

pub length_one : (n : ℕ) → n < 16 → length (digits 16 false n) ≡ 1
length_one n small = ap length (digits_one n small)

pub length_two : (n : ℕ) → 16 ≤ n → n < 256 → length (digits 16 false n) ≡ 2
length_two n large small = ap length (digits_two n large small)

pub length_pair : (n : ℕ) → 256 ≤ n → n < 2 ^ 64 → length (digits 16 false n) ≡ length (digits 16 false (n / 256)) + 2
length_pair n large small = ap length (digits_pair n large small) ∙ length-append _ _

-- a number below 16 ^ n has at most n digits
within : (k n : ℕ) → n < 16 ^ suc k → n < 2 ^ 64 → length (digits 16 false n) ≤ suc k
within zero n fits small = omega (arith, length_one n (omega arith))
within (suc k) n fits small =
    elim (cases_lt n 16) [
      | inl few ↦ omega (arith, length_one n few)
      | inr many ↦ omega (arith, within k (n / 16) (omega arith) (omega arith), ap length (digits_step n many small), length-append (digits 16 false (n / 16)) (last_digit n ∷ []))
    ]

pub length_digits : (n : ℕ) → n < 2 ^ 64 → length (digits 16 false n) ≤ 16
length_digits n small = within 15 n (omega arith) small

glyph_is_ascii : (d : ℕ) → d < 16 → digit_glyph false d < 128
glyph_is_ascii d small = grind (arith, nat_tests)

spelled_in_ascii : (k n : ℕ) (xs : List ℕ) → IsAscii xs → IsAscii (spell k n xs)
spelled_in_ascii zero n xs h = h
spelled_in_ascii (suc k) n xs h = either (eqb (n / 16) 0) _ _ more (spelled_in_ascii k (n / 16) _ more)
  where
    more : IsAscii (last_digit n ∷ xs)
    more = IsAscii-cons (last_digit n) xs (glyph_is_ascii (n % 16) (omega arith)) h

    either : (b : Bool) (us vs : List ℕ) → IsAscii us → IsAscii vs → IsAscii (cond b us vs)
    either true us vs p q = p
    either false us vs p q = q

IsAscii-digits : (n : ℕ) → IsAscii (digits 16 false n)
IsAscii-digits n = rw (as_spelled n) (spelled_in_ascii 64 n [] IsAscii-nil)

pub IsUtf8-hex : (n : ℕ) → IsUtf8 (hex n)
IsUtf8-hex n = IsUtf8-from_ascii _ (IsAscii-cons _ (120 ∷ digits 16 false n) (omega arith) (IsAscii-cons _ (digits 16 false n) (omega arith) (IsAscii-digits n)))

pub IsUtf8-pair : (b : ℕ) → b < 256 → IsUtf8 (pair b)
IsUtf8-pair b small = IsUtf8-from_ascii _ (IsAscii-cons _ (digit_glyph false (b % 16) ∷ []) (glyph_is_ascii (b / 16) (omega arith)) (IsAscii-cons _ [] (glyph_is_ascii (b % 16) (omega arith)) IsAscii-nil))

pub hex_byte_is_pair : (b : ℕ) → b < 256 → hex_byte b ≡ pair b
hex_byte_is_pair b small = rw (digits_one (b / 16) (omega arith), digits_one (b % 16) (omega arith))
