-- Build ids one after another.
use Rattle.std.specs.Prelude.{if◌then◌else◌, ◌==◌, nat_lt, nat_le}
use Rattle.std.proofs.Common.{◌≡◌, ℕ, zero, suc, ◌-◌, ◌+◌, ◌<◌, ◌≤◌, Bool, true, false, List, [], ◌∷◌, ◌++◌, length, drop, Some, None, refl, sym, ap, ◌∙◌, arith}
use Rattle.std.proofs.lemmas.Bool.{lt-ltb, ltb-false, leb-true}
use Rattle.std.proofs.lemmas.List.{length-drop}
use Rattle.perf_base.specs.Order.{Order}
use Rattle.perf_file.specs.BuildIds.{Build, is_whole, record_size, build_in, first_builds, builds, are_whole, joined}

-- a whole record has 36 bytes or more, which are there
two_tests : (a b c : Bool) → (if a then false else (if b then false else c)) ≡ true → (b ≡ false) × (c ≡ true)
two_tests true b c e = absurd (cc)
two_tests false true c e = absurd (cc)
two_tests false false c e = (refl, e)

pub sizes : (o : Order) (bytes : List ℕ) → is_whole o bytes ≡ true → (36 ≤ record_size o bytes) × (record_size o bytes ≤ length bytes)
sizes o bytes whole =
    let t = two_tests (nat_lt (length bytes) 36) (nat_lt (record_size o bytes) 36) (nat_le (record_size o bytes) (length bytes)) whole in
    (ltb-false (record_size o bytes) 36 t.0, leb-true (record_size o bytes) (length bytes) t.1)

shorter : (o : Order) (bytes : List ℕ) → is_whole o bytes ≡ true → length (drop (record_size o bytes) bytes) + 36 ≤ length bytes
shorter o bytes whole = let s = sizes o bytes whole in omega (arith, s.0, s.1, length-drop (record_size o bytes) bytes)

cut : (o : Order) (n : ℕ) (bytes : List ℕ) → is_whole o bytes ≡ false → first_builds o n bytes ≡ []
unfolding first_builds
cut o zero bytes other = refl
cut o (suc n) bytes other = rw other refl

first : (o : Order) (n : ℕ) (bytes : List ℕ) → is_whole o bytes ≡ true → first_builds o (suc n) bytes ≡ build_in o bytes ∷ first_builds o n (drop (record_size o bytes) bytes)
unfolding first_builds
first o n bytes whole = rw whole refl

none : (o : Order) (bytes : List ℕ) → length bytes ≤ 0 → is_whole o bytes ≡ false
none o bytes empty = let a : nat_lt (length bytes) 36 ≡ true = lt-ltb (length bytes) 36 (omega arith) in rw a refl

-- there are no more build ids than bytes
enough : (o : Order) (n m : ℕ) (bytes : List ℕ) → length bytes ≤ n → length bytes ≤ m → first_builds o n bytes ≡ first_builds o m bytes
enough o zero m bytes a b = cut o zero bytes (none o bytes a) ∙ sym (cut o m bytes (none o bytes a))
enough o (suc n) zero bytes a b = cut o (suc n) bytes (none o bytes b) ∙ sym (cut o zero bytes (none o bytes b))
enough o (suc n) (suc m) bytes a b = go (is_whole o bytes) refl (λ less. enough o n m (drop (record_size o bytes) bytes) (omega (arith, less)) (omega (arith, less)))
  where
    go : (w : Bool) → is_whole o bytes ≡ w → (length (drop (record_size o bytes) bytes) + 36 ≤ length bytes → first_builds o n (drop (record_size o bytes) bytes) ≡ first_builds o m (drop (record_size o bytes) bytes)) → first_builds o (suc n) bytes ≡ first_builds o (suc m) bytes
    go true w same = first o n bytes w ∙ ap (λ (bs : List Build). build_in o bytes ∷ bs) (same (shorter o bytes w)) ∙ sym (first o m bytes w)
    go false w same = cut o (suc n) bytes w ∙ sym (cut o (suc m) bytes w)

-- the first of them, and the others
pub next_build : (o : Order) (bytes : List ℕ) → is_whole o bytes ≡ true → builds o bytes ≡ build_in o bytes ∷ builds o (drop (record_size o bytes) bytes)
next_build o bytes whole =
    let rest : List ℕ = drop (record_size o bytes) bytes in
    let s = shorter o bytes whole in
    enough o (length bytes) (suc (length bytes)) bytes (omega arith) (omega arith) ∙ first o (length bytes) bytes whole
    ∙ ap (λ (bs : List Build). build_in o bytes ∷ bs) (enough o (length bytes) (length rest) rest (omega (arith, s)) (omega arith))

pub no_build : (o : Order) (bytes : List ℕ) → is_whole o bytes ≡ false → builds o bytes ≡ []
no_build o bytes other = cut o (length bytes) bytes other

-- ---- whether all are whole

pub all_taken : (o : Order) (n : ℕ) (left : List ℕ) → (length left == 0) ≡ true → are_whole o n left ≡ true
unfolding are_whole
all_taken o zero left empty = empty
all_taken o (suc n) left empty = rw empty refl

pub none_whole : (o : Order) (count i : ℕ) (left : List ℕ) → i < count → (length left == 0) ≡ false → is_whole o left ≡ false → are_whole o (count - i) left ≡ false
unfolding are_whole
none_whole o count i left lt some other = let k : count - i ≡ suc (count - (i + 1)) = omega arith in rw (k, some, other) refl

pub more_whole : (o : Order) (count i : ℕ) (left : List ℕ) → i < count → (length left == 0) ≡ false → is_whole o left ≡ true → are_whole o (count - i) left ≡ are_whole o (count - (i + 1)) (drop (record_size o left) left)
unfolding are_whole
more_whole o count i left lt some whole = let k : count - i ≡ suc (count - (i + 1)) = omega arith in rw (k, some, whole) refl

pub over : (o : Order) (n : ℕ) (left : List ℕ) → n ≡ 0 → are_whole o n left ≡ (length left == 0)
unfolding are_whole
over o n left done = rw done refl

-- ---- build ids in notes

-- those of no records
nothing : (o : Order) → builds o [] ≡ []
unfolding first_builds
nothing o = refl

pub only_noted : (o : Order) (b : Build) (noted rest : List Build) → noted ≡ b ∷ rest → Some (builds o [] ++ noted) ≡ joined None noted
only_noted o b noted rest is =
    ap (λ (l : List Build). Some (l ++ noted)) (nothing o) ∙ ap (λ (l : List Build). Some l) is ∙ sym (ap (λ (l : List Build). joined None l) is)
