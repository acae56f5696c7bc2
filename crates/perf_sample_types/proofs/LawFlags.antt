-- The flags of a sample type: one flag decides one field.
use Rattle.std.proofs.Common.{◌≡◌, ◌≢◌, ℕ, zero, suc, ◌+◌, ◌-◌, ◌*◌, ◌/◌, ◌%◌, ◌^◌, ◌<◌, Bool, true, false, not, ◌&&◌, ◌||◌, List, [], ◌∷◌, map, length, set, get_or, Option, Some, None, refl, sym, ◌∙◌, ap, inl, inr, eq-eqb, arith, subst}
use Rattle.std.specs.Prelude.{nat_eq, nat_lt, bit_or}
use Rattle.std.specs.Int.{bit_at}
use Rattle.std.specs.List.{Contains}
use Rattle.std.proofs.lemmas.Nat.Bits.{bit_at_or, bit_at-pow_same, bit_at-pow_other, bit_at-lt, bit_at-suc, bit_at_lowest, bit_at_cat_low, bit_at_cat_high}
use Rattle.std.proofs.lemmas.Nat.{pow_pos}
use Rattle.std.proofs.lemmas.List.{length-map, get_or-map}
use Rattle.std.proofs.lemmas.Bool.{eqb-false, ne_eqb, cases_eq, cases_lt, cases_Bool, eqb-true, cond-true, cond-false, ltb-true}
use Rattle.std.proofs.Math.Bool.{or-true}
use Rattle.perf_base.specs.Configuration.{Configuration, kept_sample_type, under_sample_type}
use Rattle.perf_base.specs.Layout.{Parts}
use Rattle.perf_base.specs.Table.{present_if}
use Rattle.perf_sample_types.specs.Sample.{Field, FieldValue, settings_of, is_present, has_one, field_under, fields_under}
use Rattle.perf_words.specs.Bits.{has_bit}
use Rattle.perf_sample_types.specs.SampleLaws.{no_field, with_flag, without_bit, without_bits}

-- ---- one bit

as_test : (n m i j : ℕ) → bit_at n i ≡ bit_at m j → has_bit n i ≡ has_bit m j
as_test n m i j e = ap (λ b. nat_eq b 1) e

-- the bits below 40 are kept
pub kept_bit : (n i : ℕ) → i < 40 → has_bit (kept_sample_type n) i ≡ has_bit n i
kept_bit n i h =
    let whole : n / 2 ^ 40 * 2 ^ 40 + n % 2 ^ 40 ≡ n = omega arith in
    as_test (n % 2 ^ 40) n i i (sym (bit_at_cat_low (n / 2 ^ 40) 40 (n % 2 ^ 40) i h) ∙ ap (λ m. bit_at m i) whole)

set_same : (n k : ℕ) → has_bit (bit_or n (2 ^ k)) k ≡ true
set_same n k =
    let one : bit_at (bit_or n (2 ^ k)) k ≡ 1 = rw (bit_at_or n (2 ^ k) k, bit_at-pow_same k) (omega (arith, bit_at-lt n k)) in
    ap (λ b. nat_eq b 1) one

set_other : (n k i : ℕ) → i ≢ k → has_bit (bit_or n (2 ^ k)) i ≡ has_bit n i
set_other n k i ne =
    as_test (bit_or n (2 ^ k)) n i i (rw (bit_at_or n (2 ^ k) i, bit_at-pow_other k i ne) (omega arith))

-- a number is its bits from k on, and those below
split_bit : (n k : ℕ) → n / 2 ^ k * 2 ^ k + n % 2 ^ k ≡ n
split_bit n k = omega (arith, pow_pos k)

-- If bit k is 1, the number without it has 0 there, and all bits above as before.
less_same : (q l k : ℕ) → q % 2 ≡ 1 → l < 2 ^ k → bit_at ((q - 1) * 2 ^ k + l) k ≡ 0
less_same q l k odd small =
    let none : k - k ≡ 0 = omega arith in
    let even : (q - 1) % 2 ≡ 0 = omega arith in
    bit_at_cat_high (q - 1) k l k small (omega arith) ∙ ap (λ i. bit_at (q - 1) i) none ∙ bit_at_lowest (q - 1) ∙ even

less_above : (q l k j : ℕ) → q % 2 ≡ 1 → l < 2 ^ k → bit_at ((q - 1) * 2 ^ k + l) (k + suc j) ≡ bit_at (q * 2 ^ k + l) (k + suc j)
less_above q l k j odd small =
    let half : (q - 1) / 2 ≡ q / 2 = omega arith in
    let above : (k + suc j) - k ≡ suc j = omega arith in
    let same : bit_at (q - 1) (suc j) ≡ bit_at q (suc j) =
    bit_at-suc (q - 1) j ∙ ap (λ m. bit_at m j) half ∙ sym (bit_at-suc q j) in
    bit_at_cat_high (q - 1) k l (k + suc j) small (omega arith) ∙ ap (λ i. bit_at (q - 1) i) above ∙ same
    ∙ ap (λ i. bit_at q i) (sym above) ∙ sym (bit_at_cat_high q k l (k + suc j) small (omega arith))

less_below : (q l k i : ℕ) → i < k → bit_at ((q - 1) * 2 ^ k + l) i ≡ bit_at (q * 2 ^ k + l) i
less_below q l k i h = bit_at_cat_low (q - 1) k l i h ∙ sym (bit_at_cat_low q k l i h)

less_product : (n p q l r : ℕ) → q ≡ suc r → q * p + l ≡ n → n - p ≡ (q - 1) * p + l
less_product n p q l r e whole =
    let expanded : suc r * p + l ≡ n = ap (λ t. t * p + l) (sym e) ∙ whole in
    let less : q - 1 ≡ r = omega arith in
    let known : n - p ≡ r * p + l = omega arith in
    known ∙ ap (λ t. t * p + l) (sym less)

less_is : (n k : ℕ) → n / 2 ^ k % 2 ≡ 1 → n - 2 ^ k ≡ (n / 2 ^ k - 1) * 2 ^ k + n % 2 ^ k
less_is n k odd = less_product n (2 ^ k) (n / 2 ^ k) (n % 2 ^ k) (n / 2 ^ k - 1) (omega arith) (split_bit n k)

-- ---- a number without a bit

less_bit : (n k i : ℕ) → n / 2 ^ k % 2 ≡ 1 → i ≢ k → bit_at (n - 2 ^ k) i ≡ bit_at n i
less_bit n k i odd ne =
    let small : n % 2 ^ k < 2 ^ k = omega (arith, pow_pos k) in
    let moved : bit_at ((n / 2 ^ k - 1) * 2 ^ k + n % 2 ^ k) i ≡ bit_at (n / 2 ^ k * 2 ^ k + n % 2 ^ k) i = elim (cases_lt i k) [
      | inl below ↦ less_below (n / 2 ^ k) (n % 2 ^ k) k i below
      | inr above ↦
          let at : k + suc (i - k - 1) ≡ i = omega (arith, ne) in
          subst (λ m. bit_at ((n / 2 ^ k - 1) * 2 ^ k + n % 2 ^ k) m ≡ bit_at (n / 2 ^ k * 2 ^ k + n % 2 ^ k) m) at
          (less_above (n / 2 ^ k) (n % 2 ^ k) k (i - k - 1) odd small)
    ] in
    ap (λ m. bit_at m i) (less_is n k odd) ∙ moved ∙ ap (λ m. bit_at m i) (split_bit n k)

without_same : (n k : ℕ) → has_bit (without_bit n k) k ≡ false
without_same n k = elim (cases_Bool (has_bit n k)) [
  | inl is ↦
      let odd : n / 2 ^ k % 2 ≡ 1 = eqb-true (n / 2 ^ k % 2) 1 is in
      let small : n % 2 ^ k < 2 ^ k = omega (arith, pow_pos k) in
      let gone : bit_at (n - 2 ^ k) k ≡ 0 = ap (λ m. bit_at m k) (less_is n k odd) ∙ less_same (n / 2 ^ k) (n % 2 ^ k) k odd small in
      ap (λ m. has_bit m k) (cond-true (has_bit n k) (n - 2 ^ k) n is) ∙ ap (λ b. nat_eq b 1) gone
  | inr not_set ↦ ap (λ m. has_bit m k) (cond-false (has_bit n k) (n - 2 ^ k) n not_set) ∙ not_set
]

without_other : (n k i : ℕ) → i ≢ k → has_bit (without_bit n k) i ≡ has_bit n i
without_other n k i ne = elim (cases_Bool (has_bit n k)) [
  | inl is ↦
      let odd : n / 2 ^ k % 2 ≡ 1 = eqb-true (n / 2 ^ k % 2) 1 is in
      ap (λ m. has_bit m i) (cond-true (has_bit n k) (n - 2 ^ k) n is) ∙ ap (λ b. nat_eq b 1) (less_bit n k i odd ne)
  | inr not_set ↦ ap (λ m. has_bit m i) (cond-false (has_bit n k) (n - 2 ^ k) n not_set)
]

-- ---- lists of flags

or_false : (a b : Bool) → a || b ≡ false → (a ≡ false) × (b ≡ false)
or_false false b e = (refl, e)
or_false true b e = absurd (cc)

pub and_true : (a b : Bool) → a && b ≡ true → (a ≡ true) × (b ≡ true)
and_true true b e = (refl, e)
and_true false b e = absurd (cc)

not_true : (a : Bool) → not a ≡ true → a ≡ false
not_true false e = refl
not_true true e = cc

abbrev has_number : ℕ → List ℕ → Bool
has_number n [] = false
has_number n (m ∷ ms) = nat_eq n m || has_number n ms

pub is_number : (ms : List ℕ) (n : ℕ) → Contains ms n → has_number n ms ≡ true
is_number [] n has = absurd (omega (arith, has.1))
is_number (m ∷ ms) n (zero, h, e) = ap (λ b. b || has_number n ms) (eq-eqb n m (sym e))
is_number (m ∷ ms) n (suc k, h, e) = ap (λ b. nat_eq n m || b) (is_number ms n (k, omega arith, e)) ∙ or-true (nat_eq n m)

-- no number of the first list is in the second
abbrev shares : List ℕ → List ℕ → Bool
shares [] ms = false
shares (k ∷ ks) ms = has_number k ms || shares ks ms

abbrev shares_one : List ℕ → List (List ℕ) → Bool
shares_one ks [] = false
shares_one ks (ms ∷ mss) = shares ks ms || (shares ms ks || shares_one ks mss)

-- no two of the lists have a number in common
abbrev pub all_apart : List (List ℕ) → Bool
all_apart [] = true
all_apart (ks ∷ kss) = not (shares_one ks kss) && all_apart kss

no_share : (ks : List ℕ) (mss : List (List ℕ)) (j : ℕ) → shares_one ks mss ≡ false → j < length mss →
    (shares ks (get_or mss j []) ≡ false) × (shares (get_or mss j []) ks ≡ false)
no_share ks [] j e h = absurd (omega arith)
no_share ks (ms ∷ mss) zero e h =
    let parts = or_false (shares ks ms) (shares ms ks || shares_one ks mss) e in
    (parts.0, (or_false (shares ms ks) (shares_one ks mss) parts.1).0)
no_share ks (ms ∷ mss) (suc j) e h =
    let parts = or_false (shares ks ms) (shares ms ks || shares_one ks mss) e in
    no_share ks mss j (or_false (shares ms ks) (shares_one ks mss) parts.1).1 (omega arith)

apart : (kss : List (List ℕ)) (i j : ℕ) → all_apart kss ≡ true → i < length kss → j < length kss → j ≢ i →
    shares (get_or kss i []) (get_or kss j []) ≡ false
apart [] i j e hi hj ne = absurd (omega arith)
apart (ks ∷ kss) zero zero e hi hj ne = absurd (ne refl)
apart (ks ∷ kss) zero (suc j) e hi hj ne =
    (no_share ks kss j (not_true _ (and_true (not (shares_one ks kss)) (all_apart kss) e).0) (omega arith)).0
apart (ks ∷ kss) (suc i) zero e hi hj ne =
    (no_share ks kss i (not_true _ (and_true (not (shares_one ks kss)) (all_apart kss) e).0) (omega arith)).1
apart (ks ∷ kss) (suc i) (suc j) e hi hj ne =
    apart kss i j (and_true (not (shares_one ks kss)) (all_apart kss) e).1 (omega arith) (omega arith) (λ same. ne (ap suc same))

not_shared : (ks ms : List ℕ) (k : ℕ) → shares ks ms ≡ false → has_number k ks ≡ true → has_number k ms ≡ false
not_shared [] ms k e h = cc
not_shared (n ∷ ks) ms k e h = elim (cases_eq k n) [
  | inl same ↦ ap (λ x. has_number x ms) same ∙ (or_false (has_number n ms) (shares ks ms) e).0
  | inr differ ↦ not_shared ks ms k (or_false (has_number n ms) (shares ks ms) e).1 (ap (λ b. b || has_number k ks) (sym (ne_eqb k n differ)) ∙ h)
]

-- ---- which flags of a list a number has

has_same : (a b : ℕ) (ms : List ℕ) → ((m : ℕ) → has_number m ms ≡ true → has_bit a m ≡ has_bit b m) → has_one a ms ≡ has_one b ms
has_same a b [] same = refl
has_same a b (m ∷ ms) same =
    ap (λ t. t || has_one a ms) (same m (ap (λ t. t || has_number m ms) (eq-eqb m m refl)))
    ∙ ap (λ t. has_bit b m || t) (has_same a b ms (λ k h. same k (ap (λ t. nat_eq k m || t) h ∙ or-true (nat_eq k m))))

has_set : (a k : ℕ) (ms : List ℕ) → has_number k ms ≡ true → has_bit a k ≡ true → has_one a ms ≡ true
has_set a k [] h is = cc
has_set a k (m ∷ ms) h is = elim (cases_eq k m) [
  | inl same ↦ ap (λ b. b || has_one a ms) (ap (has_bit a) (sym same) ∙ is)
  | inr differ ↦
      ap (λ b. has_bit a m || b) (has_set a k ms (ap (λ b. b || has_number k ms) (sym (ne_eqb k m differ)) ∙ h) is) ∙ or-true (has_bit a m)
]

has_none : (a : ℕ) (ms : List ℕ) → ((m : ℕ) → has_number m ms ≡ true → has_bit a m ≡ false) → has_one a ms ≡ false
has_none a [] none = refl
has_none a (m ∷ ms) none =
    ap (λ b. b || has_one a ms) (none m (ap (λ b. b || has_number m ms) (eq-eqb m m refl)))
    ∙ has_none a ms (λ k h. none k (ap (λ b. nat_eq k m || b) h ∙ or-true (nat_eq k m)))

-- ---- a number without some bits

differs : (k m : ℕ) (ms : List ℕ) → has_number k (m ∷ ms) ≡ false → (k ≢ m) × (has_number k ms ≡ false)
differs k m ms e = let parts = or_false (nat_eq k m) (has_number k ms) e in (eqb-false k m parts.0, parts.1)

without_kept : (n : ℕ) (ks : List ℕ) (m : ℕ) → has_number m ks ≡ false → has_bit (without_bits n ks) m ≡ has_bit n m
without_kept n [] m e = refl
without_kept n (k ∷ ks) m e =
    let parts = differs m k ks e in
    without_other (without_bits n ks) k m parts.0 ∙ without_kept n ks m parts.1

without_gone : (n : ℕ) (ks : List ℕ) (m : ℕ) → has_number m ks ≡ true → has_bit (without_bits n ks) m ≡ false
without_gone n [] m e = cc
without_gone n (k ∷ ks) m e = elim (cases_eq m k) [
  | inl same ↦ ap (has_bit (without_bit (without_bits n ks) k)) same ∙ without_same (without_bits n ks) k
  | inr differ ↦
      without_other (without_bits n ks) k m differ
      ∙ without_gone n ks m (ap (λ b. b || has_number m ks) (sym (ne_eqb m k differ)) ∙ e)
]

-- ---- configurations

-- all flags of a list are among the 40 that are kept
abbrev pub are_kept : List ℕ → Bool
are_kept [] = true
are_kept (k ∷ ks) = nat_lt k 40 && are_kept ks

number_kept : (ms : List ℕ) (m : ℕ) → are_kept ms ≡ true → has_number m ms ≡ true → m < 40
number_kept [] m low e = cc
number_kept (k ∷ ms) m low e = elim (cases_eq m k) [
  | inl same ↦ subst (λ t. t < 40) (sym same) (ltb-true k 40 (and_true (nat_lt k 40) (are_kept ms) low).0)
  | inr differ ↦
      number_kept ms m (and_true (nat_lt k 40) (are_kept ms) low).1 (ap (λ b. b || has_number m ms) (sym (ne_eqb m k differ)) ∙ e)
]

kept_flags : (n : ℕ) (ms : List ℕ) → are_kept ms ≡ true → has_one (kept_sample_type n) ms ≡ has_one n ms
kept_flags n ms low = has_same (kept_sample_type n) n ms (λ m h. kept_bit n m (number_kept ms m low h))

set_kept : (n k : ℕ) (ms : List ℕ) → has_number k ms ≡ false → has_one (bit_or n (2 ^ k)) ms ≡ has_one n ms
set_kept n k ms e =
    has_same (bit_or n (2 ^ k)) n ms (λ m h. set_other n k m (λ same. absurd (let both : has_number k ms ≡ true = ap (λ t. has_number t ms) (sym same) ∙ h in cc)))

cleared_kept : (n : ℕ) (ks ms : List ℕ) → shares ks ms ≡ false → has_one (without_bits n ks) ms ≡ has_one n ms
cleared_kept n ks ms e = has_same (without_bits n ks) n ms (λ m h. without_kept n ks m (elim (cases_Bool (has_number m ks)) [
  | inl both ↦ absurd (let none : has_number m ms ≡ false = not_shared ks ms m e both in cc)
  | inr none ↦ none
]))

-- ---- tables

pub map_same : {X Y : Type 0} (g h : X → Y) (xs : List X) (d : X) → ((j : ℕ) → j < length xs → h (get_or xs j d) ≡ g (get_or xs j d)) → map h xs ≡ map g xs
map_same g h [] d same = refl
map_same g h (x ∷ xs) d same =
    ap (λ u. u ∷ map h xs) (same 0 (omega arith)) ∙ ap (λ t. g x ∷ t) (map_same g h xs d (λ j hj. same (suc j) (omega arith)))

-- two maps of a list that differ at one place
map_differs : {X Y : Type 0} (g h : X → Y) (xs : List X) (i : ℕ) (d : X) (y : Y) → i < length xs →
    ((j : ℕ) → j < length xs → j ≢ i → h (get_or xs j d) ≡ g (get_or xs j d)) → h (get_or xs i d) ≡ y → map h xs ≡ set (map g xs) i y
map_differs g h [] i d y hi same at = absurd (omega arith)
map_differs g h (x ∷ xs) zero d y hi same at =
    ap (λ u. u ∷ map h xs) at ∙ ap (λ t. y ∷ t) (map_same g h xs d (λ j hj. same (suc j) (omega arith) (λ e. absurd (cc))))
map_differs g h (x ∷ xs) (suc i) d y hi same at =
    ap (λ u. u ∷ map h xs) (same 0 (omega arith) (λ e. absurd (cc)))
    ∙ ap (λ t. g x ∷ t) (map_differs g h xs i d y (omega arith) (λ j hj ne. same (suc j) (omega arith) (λ e. ne (omega arith))) at)

abbrev pub field_of : List Field → ℕ → Field
field_of fields f = get_or fields f no_field

abbrev pub flag_lists : List Field → List (List ℕ)
flag_lists fields = map (λ g. g.flags) fields

flags_apart : (fields : List Field) (i j : ℕ) → all_apart (flag_lists fields) ≡ true → i < length fields → j < length fields → j ≢ i →
    shares (field_of fields i).flags (field_of fields j).flags ≡ false
flags_apart fields i j e hi hj ne =
    let flags : Field → List ℕ = λ g. g.flags in
    ap (λ t. shares t (field_of fields j).flags) (sym (get_or-map flags fields i no_field [] hi))
    ∙ ap (λ t. shares (get_or (map flags fields) i []) t) (sym (get_or-map flags fields j no_field [] hj))
    ∙ apart (map flags fields) i j e (rw (length-map fields flags) hi) (rw (length-map fields flags) hj) ne

-- all flags of a table are among the 40 that are kept
abbrev pub tables_kept : List Field → Bool
tables_kept [] = true
tables_kept (g ∷ gs) = are_kept g.flags && tables_kept gs

table_kept : (fields : List Field) → tables_kept fields ≡ true → (j : ℕ) → j < length fields → are_kept (field_of fields j).flags ≡ true
table_kept [] e j h = absurd (omega arith)
table_kept (g ∷ gs) e zero h = (and_true (are_kept g.flags) (tables_kept gs) e).0
table_kept (g ∷ gs) e (suc j) h = table_kept gs (and_true (are_kept g.flags) (tables_kept gs) e).1 j (omega arith)

pub under_true : (c : Configuration) (g : Field) → is_present c g ≡ true → field_under c g ≡ Some (g.parts (settings_of c))
under_true c g e = ap (λ b. present_if b (g.parts (settings_of c))) e

pub under_false : (c : Configuration) (g : Field) → is_present c g ≡ false → field_under c g ≡ None
under_false c g e = ap (λ b. present_if b (g.parts (settings_of c))) e

-- another sample type, which changes whether field f is present, and no other field
changed_fields : (fields : List Field) (c : Configuration) (t f : ℕ) (now : Option (Parts FieldValue)) →
    tables_kept fields ≡ true → f < length fields →
    ((j : ℕ) → j < length fields → j ≢ f → has_one t (field_of fields j).flags ≡ has_one c.sample_type (field_of fields j).flags) →
    present_if (has_one t (field_of fields f).flags) ((field_of fields f).parts (settings_of c)) ≡ now →
    fields_under (under_sample_type t c) fields ≡ set (fields_under c fields) f now
changed_fields fields c t f now low h others is =
    let at : (j : ℕ) → j < length fields → field_under (under_sample_type t c) (field_of fields j)
    ≡ present_if (has_one t (field_of fields j).flags) ((field_of fields j).parts (settings_of c)) =
    λ j hj. ap (λ b. present_if b ((field_of fields j).parts (settings_of c))) (kept_flags t (field_of fields j).flags (table_kept fields low j hj)) in
    map_differs (field_under c) (field_under (under_sample_type t c)) fields f no_field now h
    (λ j hj ne. at j hj ∙ ap (λ b. present_if b ((field_of fields j).parts (settings_of c))) (others j hj ne))
    (at f h ∙ is)

pub with_fields : (fields : List Field) (c : Configuration) (f k : ℕ) → all_apart (flag_lists fields) ≡ true → tables_kept fields ≡ true →
    f < length fields → Contains (field_of fields f).flags k →
    fields_under (with_flag c k) fields ≡ set (fields_under c fields) f (Some ((field_of fields f).parts (settings_of c)))
with_fields fields c f k differ low h has =
    let t : ℕ = bit_or c.sample_type (2 ^ k) in
    let mine : has_number k (field_of fields f).flags ≡ true = is_number (field_of fields f).flags k has in
    changed_fields fields c t f (Some ((field_of fields f).parts (settings_of c))) low h
    (λ j hj ne. set_kept c.sample_type k (field_of fields j).flags
    (not_shared (field_of fields f).flags (field_of fields j).flags k (flags_apart fields f j differ h hj ne) mine))
    (ap (λ b. present_if b ((field_of fields f).parts (settings_of c))) (has_set t k (field_of fields f).flags mine (set_same c.sample_type k)))

pub without_fields : (fields : List Field) (c : Configuration) (f : ℕ) → all_apart (flag_lists fields) ≡ true → tables_kept fields ≡ true →
    f < length fields →
    fields_under (under_sample_type (without_bits c.sample_type (field_of fields f).flags) c) fields ≡ set (fields_under c fields) f None
without_fields fields c f differ low h =
    let ks : List ℕ = (field_of fields f).flags in
    let t : ℕ = without_bits c.sample_type ks in
    changed_fields fields c t f None low h
    (λ j hj ne. cleared_kept c.sample_type ks (field_of fields j).flags (flags_apart fields f j differ h hj ne))
    (ap (λ b. present_if b ((field_of fields f).parts (settings_of c))) (has_none t ks (λ m h'. without_gone c.sample_type ks m h')))
