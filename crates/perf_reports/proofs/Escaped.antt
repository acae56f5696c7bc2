-- Names with some bytes escaped.
use Rattle.std.proofs.Common.{◌≡◌, ℕ, zero, suc, ◌+◌, ◌-◌, ◌≤◌, ◌<◌, Bool, true, false, ◌&&◌, cond, ◌==◌, nat_lt, Option, Some, None, unwrap_or, slice_index, List, [], ◌∷◌, ◌++◌, ◌∙◌, length, take, drop, refl, sym, ap, arith, append_assoc, append-nil, length-append, inl, inr, codes}
use Rattle.std.specs.List.{flat_map, list_all}
use Rattle.std.specs.Str.{IsUtf8, IsAscii, chars, is_utf8}
use Rattle.std.specs.Char.{encode_utf8, is_ascii}
use Rattle.std.specs.Fmt.{digits}
use Rattle.std.specs.Int.{is_in_range}
use Rattle.std.specs.Str.Lossy.{utf8_valid_len, utf8_invalid_len, utf8_error_len, error_len_of_some, error_len_after_one, error_len_after_two}
use Rattle.std.specs.Str.Lossy.{second_byte_min, second_byte_max, after_first_chunk}
use Rattle.std.proofs.lemmas.Bool.{cases_lt, ltb-true}
use Rattle.std.proofs.lemmas.List.{length-drop, drop_all}
use Rattle.std.proofs.lemmas.Str.{encodes-chars, chars-IsAscii, IsUtf8-from_ascii, utf8_valid_len-IsUtf8}
use lib.Seq.{take_at, drop_at}
use lib.Utf8.{encodes}
use Rattle.perf_reports.specs.TaskLines.{stays, escaped_byte, escaped_char, escaped_text, escape_name, escaped_within, text_in_front, invalid_after}

-- ---- worked examples

-- `sh`, a line feed and `exit 1`
line_feed : escape_name (codes "sh\nexit 1") ≡ codes "sh\\x0aexit 1"
unfolding utf8_valid_len utf8_error_len is_utf8 chars encode_utf8 digits
line_feed = refl

-- the sequence that clears a terminal
escape : escape_name (0x1B ∷ codes "[2J") ≡ codes "\\x1b[2J"
unfolding utf8_valid_len utf8_error_len is_utf8 chars encode_utf8 digits
escape = refl

-- a byte that is not UTF-8
invalid : escape_name (0x61 ∷ 0xFF ∷ 0x62 ∷ []) ≡ codes "a\\xffb"
unfolding utf8_valid_len utf8_error_len is_utf8 chars encode_utf8 digits
invalid = refl

-- a backslash
backslash : escape_name (0x5C ∷ []) ≡ codes "\\x5c"
unfolding utf8_valid_len utf8_error_len is_utf8 chars encode_utf8 digits
backslash = refl

-- U+00E9, which stays, and U+0085, which does not
letter : escape_name (0xC3 ∷ 0xA9 ∷ []) ≡ 0xC3 ∷ 0xA9 ∷ []
unfolding utf8_valid_len utf8_error_len is_utf8 chars encode_utf8 digits
letter = refl

next_line : escape_name (0xC2 ∷ 0x85 ∷ []) ≡ codes "\\xc2\\x85"
unfolding utf8_valid_len utf8_error_len is_utf8 chars encode_utf8 digits
next_line = refl

-- ---- text that stays as it is

pub both : (a b : Bool) → (a && b) ≡ true → (a ≡ true) × (b ≡ true)
both true true h = (refl, refl)
both true false h = (refl, h)
both false b h = (h, cc)

all_stay : (cs : List ℕ) → list_all stays cs ≡ true → flat_map escaped_char cs ≡ encodes cs
all_stay [] h = refl
all_stay (c ∷ cs) h =
    let p = both (stays c) (list_all stays cs) h in
    ap (λ b. cond b (encode_utf8 c) (flat_map escaped_byte (encode_utf8 c)) ++ flat_map escaped_char cs) p.0 ∙ ap (λ xs. encode_utf8 c ++ xs) (all_stay cs p.1)

pub text_stays : (text : List ℕ) → IsUtf8 text → list_all stays (chars text) ≡ true → escaped_text text ≡ text
text_stays text u h = all_stay (chars text) h ∙ encodes-chars text u

-- ---- one text after another

within_nil : (most : ℕ) → escaped_within most [] ≡ []
unfolding utf8_valid_len utf8_error_len chars
within_nil zero = refl
within_nil (suc most) = within_nil most

-- what holds of two values holds of the one that a test picks
pub picked : {A : Type 0} (P : A → Type 0) (b : Bool) (x y : A) → P x → P y → P (cond b x y)
picked P true x y p q = p
picked P false x y p q = q

-- an invalid sequence has at least one byte, if there are any bytes
invalid_some : (bytes : List ℕ) → 0 < length bytes → 0 < utf8_invalid_len bytes
unfolding utf8_error_len
invalid_some bytes some =
    let P : Option ℕ → Type 0 = λ o. 0 < unwrap_or o (length bytes) in
    let one : P (Some 1) = omega arith in
    let two : P (Some 2) = omega arith in
    let three : P (Some 3) = omega arith in
    let x = slice_index bytes 0 in
    let third = is_in_range 0x80 0xBF (slice_index bytes 2) in
    let second = is_in_range (second_byte_min x) (second_byte_max x) (slice_index bytes 1) in
    let long : Option ℕ = cond (nat_lt (length bytes) 4) None (Some 3) in
    let after_two : P (error_len_after_two bytes) =
    picked P (nat_lt (length bytes) 3) None (cond third long (Some 2)) some (picked P third long (Some 2) (picked P (nat_lt (length bytes) 4) None (Some 3) some three) two) in
    let after_one : P (error_len_after_one bytes) =
    picked P (nat_lt (length bytes) 2) None (cond second (error_len_after_two bytes) (Some 1)) some (picked P second (error_len_after_two bytes) (Some 1) after_two one) in
    picked P (length bytes == 0) None (error_len_of_some bytes) some (picked P (is_in_range 0xC2 0xF4 x) (error_len_after_one bytes) (Some 1) after_one one)

shorter : (bytes : List ℕ) → 0 < length bytes → length (after_first_chunk bytes) < length bytes
shorter bytes some =
    let n = utf8_valid_len bytes in
    let left : length (drop n bytes) ≡ length bytes - n = length-drop n bytes in
    let whole = length-drop (n + utf8_invalid_len (drop n bytes)) bytes in
    elim (cases_lt n (length bytes)) [
      | inl few ↦ let more = invalid_some (drop n bytes) (omega (arith, left)) in omega (arith, whole, more)
      | inr all ↦ omega (arith, whole)
    ]

nothing : (xs : List ℕ) → length xs ≤ 0 → xs ≡ []
nothing [] e = refl
nothing (x ∷ xs) e = absurd (omega arith)

within_enough : (k j : ℕ) (bytes : List ℕ) → length bytes ≤ k → length bytes ≤ j → escaped_within k bytes ≡ escaped_within j bytes
within_enough zero j bytes p q = ap (escaped_within 0) (nothing bytes p) ∙ sym (ap (escaped_within j) (nothing bytes p) ∙ within_nil j)
within_enough (suc k) zero bytes p q = ap (escaped_within (suc k)) (nothing bytes q) ∙ within_nil (suc k) ∙ sym (ap (escaped_within 0) (nothing bytes q))
within_enough (suc k) (suc j) bytes p q =
    elim (cases_lt 0 (length bytes)) [
      | inl some ↦ let less = shorter bytes some in
          ap (λ t. escaped_text (text_in_front bytes) ++ (flat_map escaped_byte (invalid_after bytes) ++ t)) (within_enough k j (after_first_chunk bytes) (omega arith) (omega arith))
      | inr none ↦ ap (escaped_within (suc k)) (nothing bytes none) ∙ within_nil (suc k) ∙ sym (ap (escaped_within (suc j)) (nothing bytes none) ∙ within_nil (suc j))
    ]

escaped_step : (bytes : List ℕ) → 0 < length bytes → escape_name bytes ≡ escaped_text (text_in_front bytes) ++ (flat_map escaped_byte (invalid_after bytes) ++ escape_name (after_first_chunk bytes))
escaped_step bytes some =
    let less = shorter bytes some in
    within_enough (length bytes) (suc (length bytes)) bytes (omega arith) (omega arith)
    ∙ ap (λ t. escaped_text (text_in_front bytes) ++ (flat_map escaped_byte (invalid_after bytes) ++ t)) (within_enough (length bytes) (length (after_first_chunk bytes)) (after_first_chunk bytes) (omega arith) (omega arith))

-- the same of bytes that are cut into a text, the invalid bytes after it and the rest
pub escaped_chunk : (bytes valid invalid rest : List ℕ) → 0 < length bytes → bytes ≡ valid ++ (invalid ++ rest) → length valid ≡ utf8_valid_len bytes
    → length invalid ≡ utf8_invalid_len (drop (utf8_valid_len bytes) bytes) → escape_name bytes ≡ escaped_text valid ++ (flat_map escaped_byte invalid ++ escape_name rest)
escaped_chunk bytes valid invalid rest some parts valid_len invalid_len =
    let n = utf8_valid_len bytes in
    let m = utf8_invalid_len (drop n bytes) in
    let front : take n bytes ≡ valid = ap (take n) parts ∙ take_at valid (invalid ++ rest) n valid_len in
    let left : drop n bytes ≡ invalid ++ rest = ap (drop n) parts ∙ drop_at valid (invalid ++ rest) n valid_len in
    let middle : take m (drop n bytes) ≡ invalid = ap (take m) left ∙ take_at invalid rest m invalid_len in
    let both_len : length (valid ++ invalid) ≡ n + m = omega (arith, length-append valid invalid) in
    let back : after_first_chunk bytes ≡ rest = ap (drop (n + m)) (parts ∙ sym (append_assoc valid invalid rest)) ∙ drop_at (valid ++ invalid) rest (n + m) both_len in
    escaped_step bytes some ∙ (λ i. escaped_text (front i) ++ (flat_map escaped_byte (middle i) ++ escape_name (back i)))

-- ---- names that are plain

abbrev plain : ℕ → Bool
plain byte = is_ascii byte && stays byte

plain_both : (byte : ℕ) (bytes : List ℕ) → list_all plain (byte ∷ bytes) ≡ true → (is_ascii byte ≡ true) × (stays byte ≡ true) × (list_all plain bytes ≡ true)
plain_both byte bytes h =
    let (first, others) = both (plain byte) (list_all plain bytes) h in
    let (ascii, stay) = both (is_ascii byte) (stays byte) first in (ascii, stay, others)

plain_ascii : (bytes : List ℕ) → list_all plain bytes ≡ true → IsAscii bytes
plain_ascii [] h i = omega arith
plain_ascii (b ∷ bs) h zero = ltb-true b 128 (plain_both b bs h).0
plain_ascii (b ∷ bs) h (suc i) = plain_ascii bs (plain_both b bs h).2 i

plain_stays : (bytes : List ℕ) → list_all plain bytes ≡ true → list_all stays bytes ≡ true
plain_stays [] h = refl
plain_stays (b ∷ bs) h = let (ascii, stay, others) = plain_both b bs h in ap (λ t. t && list_all stays bs) stay ∙ plain_stays bs others

-- ASCII in which every byte stays
pub escaped_plain : (bytes : List ℕ) → list_all (λ byte. is_ascii byte && stays byte) bytes ≡ true → escape_name bytes ≡ bytes
unfolding utf8_error_len
escaped_plain [] h = refl
escaped_plain (b ∷ bs) h =
    let bytes = b ∷ bs in
    let ascii = plain_ascii bytes h in
    let utf8 = IsUtf8-from_ascii bytes ascii in
    let whole = utf8_valid_len-IsUtf8 bytes utf8 in
    let same : escaped_text bytes ≡ bytes = text_stays bytes utf8 (ap (list_all stays) (chars-IsAscii bytes ascii) ∙ plain_stays bytes h) in
    let none : drop (utf8_valid_len bytes) bytes ≡ [] = ap (λ n. drop n bytes) whole ∙ drop_all (length bytes) bytes (omega arith) in
    escaped_chunk bytes bytes [] [] (omega arith) (sym (append-nil bytes)) (sym whole) (ap (λ xs. utf8_invalid_len xs) (sym none)) ∙ append-nil (escaped_text bytes) ∙ same
