-- The parts of a line have no control characters.
use Rattle.std.proofs.Common.{◌≡◌, ℕ, zero, suc, ◌+◌, ◌-◌, ◌/◌, ◌%◌, ◌≤◌, ◌<◌, Bool, true, false, ◌&&◌, not, cond, T, List, [], ◌∷◌, ◌++◌, ◌∙◌, refl, sym, ap, subst, arith, inl, inr, codes, eq-zero-or-pos, nat_le, nat_lt, ◌==◌, leb→le}
use Rattle.std.specs.List.{flat_map, list_all}
use Rattle.std.specs.Str.{chars}
use Rattle.std.specs.Char.{encode_utf8}
use Rattle.std.specs.Fmt.{decimal, digits, digits_onto, digit_glyph}
use Rattle.std.proofs.lemmas.Bool.{le-leb, ne_eqb}
use Rattle.std.proofs.lemmas.List.Folds.{list_all-append}
use Rattle.std.proofs.lemmas.List.Elements.{All-nil, All-cons}
use Rattle.std.specs.Str.Lossy.{after_first_chunk}
use Rattle.perf_text.specs.Numbers.{hex_byte}
use Rattle.perf_reports.specs.TaskLines.{HasNoControl, stays, escaped_byte, escaped_char, escaped_text, escape_name, escaped_within, text_in_front, invalid_after}
use Rattle.perf_reports.proofs.Escaped.{both, picked}

-- `HasNoControl` as a test
abbrev is_no_control : ℕ → Bool
is_no_control byte = nat_le 32 byte && not (byte == 127)

abbrev pub Clean : List ℕ → Type 0
Clean xs = list_all is_no_control xs ≡ true

clean_byte : (byte : ℕ) → 32 ≤ byte → ¬ (byte ≡ 127) → is_no_control byte ≡ true
clean_byte byte low other = (λ i. le-leb 32 byte low i && not (ne_eqb byte 127 other i))

cleanly : (byte : ℕ) → is_no_control byte ≡ true → (32 ≤ byte) × ¬ (byte ≡ 127)
cleanly byte h = (leb→le 32 byte (subst T (sym (both _ _ h).0) tt), λ e. let no : false ≡ true = sym (ap is_no_control e) ∙ h in cc)

pub no_control : (xs : List ℕ) → Clean xs → HasNoControl xs
no_control [] h = All-nil (λ byte. (32 ≤ byte) × ¬ (byte ≡ 127))
no_control (x ∷ xs) h =
    let p = both (is_no_control x) (list_all is_no_control xs) h in
    All-cons (λ byte. (32 ≤ byte) × ¬ (byte ≡ 127)) x xs (cleanly x p.0) (no_control xs p.1)

-- ---- parts that are joined

clean_cons : (x : ℕ) (xs : List ℕ) → is_no_control x ≡ true → Clean xs → Clean (x ∷ xs)
clean_cons x xs p q = (λ i. p i && q i)

pub clean_joined : (xs ys : List ℕ) → Clean xs → Clean ys → Clean (xs ++ ys)
clean_joined xs ys p q = list_all-append is_no_control xs ys ∙ (λ i. p i && q i)

pub clean_each : {X : Type 0} (f : X → List ℕ) (xs : List X) → ((x : X) → Clean (f x)) → Clean (flat_map f xs)
clean_each f [] h = refl
clean_each f (x ∷ xs) h = clean_joined (f x) (flat_map f xs) (h x) (clean_each f xs h)

-- ---- digits

abbrev are_clean : ℕ → Bool
are_clean zero = true
are_clean (suc d) = is_no_control (digit_glyph false d) && are_clean d

below : (n d : ℕ) → are_clean n ≡ true → d < n → is_no_control (digit_glyph false d) ≡ true
below zero d t h = absurd (omega arith)
below (suc n) d t h =
    elim (eq-zero-or-pos (n - d)) [
      | inl z ↦ let e : d ≡ n = omega arith in ap (λ k. is_no_control (digit_glyph false k)) e ∙ (both (is_no_control (digit_glyph false n)) (are_clean n) t).0
      | inr g ↦ below n d (both (is_no_control (digit_glyph false n)) (are_clean n) t).1 (omega arith)
    ]

spelled : (k base n : ℕ) (xs : List ℕ) → ((m : ℕ) → m % base < 16) → Clean xs → Clean (digits_onto k base false n xs)
spelled zero base n xs small h = h
spelled (suc k) base n xs small h =
    let last : Clean (digit_glyph false (n % base) ∷ xs) = clean_cons (digit_glyph false (n % base)) xs (below 16 (n % base) refl (small n)) h in
    picked Clean (n / base == 0) (digit_glyph false (n % base) ∷ xs) (digits_onto k base false (n / base) (digit_glyph false (n % base) ∷ xs)) last (spelled k base (n / base) (digit_glyph false (n % base) ∷ xs) small last)

pub clean_decimal : (n : ℕ) → Clean (decimal n)
unfolding digits
clean_decimal n = spelled 64 10 n [] (λ m. omega arith) refl

pub clean_digits : (n : ℕ) → Clean (digits 16 false n)
unfolding digits
clean_digits n = spelled 64 16 n [] (λ m. omega arith) refl

pub clean_hex_byte : (byte : ℕ) → Clean (hex_byte byte)
clean_hex_byte byte = clean_joined (digits 16 false (byte / 16)) (digits 16 false (byte % 16)) (clean_digits (byte / 16)) (clean_digits (byte % 16))

-- ---- names

clean_escape : (byte : ℕ) → Clean (escaped_byte byte)
clean_escape byte = clean_joined (codes "\\x") (hex_byte byte) refl (clean_hex_byte byte)

high : (byte : ℕ) (xs : List ℕ) → 128 ≤ byte → Clean xs → Clean (byte ∷ xs)
high byte xs h p = clean_cons byte xs (clean_byte byte (omega arith) (λ e. omega arith)) p

clean_encoded : (c : ℕ) → stays c ≡ true → Clean (encode_utf8 c)
unfolding encode_utf8
clean_encoded c h =
    let low : 32 ≤ c = leb→le 32 c (subst T (sym (both _ _ h).0) tt) in
    let other : ¬ (c ≡ 127) = λ e. let no : false ≡ true = sym (ap stays e) ∙ h in cc in
    let last : List ℕ = (128 + c % 64) ∷ [] in
    let middle : List ℕ = (128 + c / 64 % 64) ∷ last in
    let one : Clean (c ∷ []) = clean_cons c [] (clean_byte c low other) refl in
    let end : Clean last = high (128 + c % 64) [] (omega arith) refl in
    let two : Clean ((192 + c / 64) ∷ last) = high (192 + c / 64) last (omega arith) end in
    let three : Clean ((224 + c / 4096) ∷ middle) = high (224 + c / 4096) middle (omega arith) (high (128 + c / 64 % 64) last (omega arith) end) in
    let four : Clean ((240 + c / 262144) ∷ (128 + c / 4096 % 64) ∷ middle) =
    high (240 + c / 262144) ((128 + c / 4096 % 64) ∷ middle) (omega arith) (high (128 + c / 4096 % 64) middle (omega arith) (high (128 + c / 64 % 64) last (omega arith) end)) in
    picked Clean (nat_lt c 128) (c ∷ []) (cond (nat_lt c 2048) ((192 + c / 64) ∷ last) (cond (nat_lt c 65536) ((224 + c / 4096) ∷ middle) ((240 + c / 262144) ∷ (128 + c / 4096 % 64) ∷ middle))) one
    (picked Clean (nat_lt c 2048) ((192 + c / 64) ∷ last) (cond (nat_lt c 65536) ((224 + c / 4096) ∷ middle) ((240 + c / 262144) ∷ (128 + c / 4096 % 64) ∷ middle)) two
    (picked Clean (nat_lt c 65536) ((224 + c / 4096) ∷ middle) ((240 + c / 262144) ∷ (128 + c / 4096 % 64) ∷ middle) three four))

clean_char : (c : ℕ) → Clean (escaped_char c)
clean_char c = by_test (stays c) refl
  where
    by_test : (b : Bool) → stays c ≡ b → Clean (cond b (encode_utf8 c) (flat_map escaped_byte (encode_utf8 c)))
    by_test true h = clean_encoded c h
    by_test false h = clean_each escaped_byte (encode_utf8 c) clean_escape

clean_within : (most : ℕ) (bytes : List ℕ) → Clean (escaped_within most bytes)
clean_within zero bytes = refl
clean_within (suc most) bytes =
    clean_joined (escaped_text (text_in_front bytes)) (flat_map escaped_byte (invalid_after bytes) ++ escaped_within most (after_first_chunk bytes)) (clean_each escaped_char (chars (text_in_front bytes)) clean_char)
    (clean_joined (flat_map escaped_byte (invalid_after bytes)) (escaped_within most (after_first_chunk bytes)) (clean_each escaped_byte (invalid_after bytes) clean_escape) (clean_within most (after_first_chunk bytes)))

pub clean_escaped : (bytes : List ℕ) → Clean (escape_name bytes)
clean_escaped bytes = clean_within _ bytes
