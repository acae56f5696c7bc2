-- Sections by rising start, swept from the first.
use Rattle.std.proofs.Common.{◌≡◌, ℕ, ◌+◌, ◌≤◌, ◌<◌, List, [], ◌∷◌, Bool, true, false, cond, ◌&&◌, length, take, get_or, refl, sym, ap, ◌∙◌, subst, nat_lt, nat_eq, arith}
use Rattle.std.specs.Bool.{OnTrue}
use Rattle.std.specs.List.{count_by, sum_by}
use Rattle.std.specs.List.Sorted.{IsPermutation, IsNonDecreasingBy}
use Rattle.std.proofs.lemmas.Bool.Decides.{nat_tests}
use Rattle.std.proofs.lemmas.List.{take_all, get_or_default}
use Rattle.std.proofs.lemmas.List.Sums.{count_by_more_yes, count_by_more_no, sum_by-take-le, sum_by-cons}
use Rattle.std.proofs.lemmas.List.Sorted.{sum_by-IsPermutation}
use Rattle.perf_sections.specs.declared.section.Section.{Section}
use Rattle.perf_sections.specs.Sections.{covers, begins_inside, are_apart, ShareNothing}

-- all before the i-th start at that place or before it
abbrev pub StartBefore : List Section → ℕ → ℕ → Type 0
StartBefore ys i p = (j : ℕ) (d : Section) → j < i → (get_or ys j d).start ≤ p

-- what is known after i sections
pub record Swept (ys : List Section) (i reach : ℕ) : Type 0 where
  pub once : (p : ℕ) → count_by (covers p) (take i ys) ≤ 1
  pub beyond : (p : ℕ) → reach ≤ p → count_by (covers p) (take i ys) ≡ 0
  pub touched : (p : ℕ) → StartBefore ys i p → p < reach → 1 ≤ count_by (covers p) (take i ys)

pub covers_yes : (p : ℕ) (s : Section) → s.start ≤ p → p < s.start + s.size → covers p s ≡ true
covers_yes p s a b = grind (arith, nat_tests)

pub covers_no : (p : ℕ) (s : Section) → s.start + s.size ≤ p → covers p s ≡ false
covers_no p s a = grind (arith, nat_tests)

pub covers_before : (p : ℕ) (s : Section) → p < s.start → covers p s ≡ false
covers_before p s a = grind (arith, nat_tests)

pub swept_none : (ys : List Section) → Swept ys 0 0
swept_none ys = record { once = λ p. omega arith; beyond = λ p h. refl; touched = λ p h lt. absurd (omega arith) }

fewer : (ys : List Section) (i p : ℕ) → StartBefore ys (i + 1) p → StartBefore ys i p
fewer ys i p h j d lt = h j d (omega arith)

-- a section without bytes changes nothing
pub swept_empty : (ys : List Section) (i reach : ℕ) (s : Section) → i < length ys → s ≡ get_or ys i s → s.size ≡ 0 → Swept ys i reach → Swept ys (i + 1) reach
swept_empty ys i reach s lt is empty h =
    let no : (p : ℕ) → covers p s ≡ false = λ p. grind (arith, nat_tests) in
    let same : (p : ℕ) → count_by (covers p) (take (i + 1) ys) ≡ count_by (covers p) (take i ys) = λ p. count_by_more_no (covers p) ys i s lt (ap (covers p) (sym is) ∙ no p) in
    record {
      once = λ p. rw (same p) (h.once p);
      beyond = λ p b. same p ∙ h.beyond p b;
      touched = λ p b lower. rw (same p) (h.touched p (fewer ys i p b) lower);
    }

counted : (ys : List Section) (i p : ℕ) (s : Section) (c : Bool) → i < length ys → s ≡ get_or ys i s → covers p s ≡ c → count_by (covers p) (take (i + 1) ys) ≡ count_by (covers p) (take i ys) + cond c 1 0
counted ys i p s true lt is e = count_by_more_yes (covers p) ys i s lt (ap (covers p) (sym is) ∙ e)
counted ys i p s false lt is e = let a : count_by (covers p) (take (i + 1) ys) ≡ count_by (covers p) (take i ys) = count_by_more_no (covers p) ys i s lt (ap (covers p) (sym is) ∙ e) in omega (arith, a)

once_more : (p start finish reach was now : ℕ) (c : Bool) → reach ≤ start → (c ≡ true → start ≤ p) → was ≤ 1 → (reach ≤ p → was ≡ 0) → now ≡ was + cond c 1 0 → now ≤ 1
once_more p start finish reach was now true apart inside few beyond is = let a : was ≡ 0 = beyond (let b : start ≤ p = inside refl in omega arith) in omega arith
once_more p start finish reach was now false apart inside few beyond is = omega arith

covers_start : (p : ℕ) (s : Section) → covers p s ≡ true → s.start ≤ p
covers_start p s h = grind (arith, nat_tests)

-- the next one begins where those before it have ended
pub swept_some : (ys : List Section) (i reach : ℕ) (s : Section) → i < length ys → s ≡ get_or ys i s → reach ≤ s.start → Swept ys i reach → Swept ys (i + 1) (s.start + s.size)
swept_some ys i reach s lt is apart h =
    record {
      once = λ p. once_more p s.start (s.start + s.size) reach (count_by (covers p) (take i ys)) (count_by (covers p) (take (i + 1) ys)) (covers p s) apart (covers_start p s) (h.once p) (h.beyond p) (counted ys i p s (covers p s) lt is refl);
      beyond = λ p b. let a = counted ys i p s false lt is (covers_no p s b) in let z = h.beyond p (omega arith) in omega (arith, a, z);
      touched = λ p b lower.
          let from : s.start ≤ p = subst (λ (x : Section). x.start ≤ p) (sym is) (b i s (omega arith)) in
          let a = counted ys i p s true lt is (covers_yes p s from lower) in omega (arith, a);
    }

some_inside : (n : ℕ) → 1 ≤ n → nat_eq n 0 ≡ false
some_inside n h = grind (arith, nat_tests)

is_at : (ys : List Section) (i : ℕ) (s d : Section) → i < length ys → s ≡ get_or ys i s → s ≡ get_or ys i d
is_at ys i s d lt is = is ∙ get_or_default ys i s d lt

-- the next one begins inside one before it
pub swept_stops : (ys : List Section) (i reach : ℕ) (s : Section) → IsNonDecreasingBy (λ (x : Section). x.start) ys → i < length ys → s ≡ get_or ys i s → 0 < s.size → s.start < reach → Swept ys i reach → are_apart ys ≡ false
swept_stops ys i reach s sorted lt is some inside h =
    let before : StartBefore ys i s.start = λ j d l. subst (λ (x : Section). (get_or ys j d).start ≤ x.start) (sym (is_at ys i s d lt is)) (sorted j i d (omega arith) lt) in
    let one : 1 ≤ count_by (covers s.start) (take i ys) = h.touched s.start before inside in
    let own : covers s.start s ≡ true = covers_yes s.start s (omega arith) (omega arith) in
    let two : 2 ≤ count_by (covers s.start) ys = let a = counted ys i s.start s true lt is own in let b = sum_by-take-le (λ x. cond (covers s.start x) 1 0) ys (i + 1) in omega (arith, a, b) in
    let test : begins_inside ys s ≡ true = grind (arith, nat_tests) in
    let here : count_by (begins_inside ys) (take (i + 1) ys) ≡ count_by (begins_inside ys) (take i ys) + 1 = count_by_more_yes (begins_inside ys) ys i s lt (ap (begins_inside ys) (sym is) ∙ test) in
    let all = sum_by-take-le (λ x. cond (begins_inside ys x) 1 0) ys (i + 1) in
    some_inside (count_by (begins_inside ys) ys) (omega (arith, here, all))

-- all were swept
pub swept_all : (ys : List Section) (i reach : ℕ) → length ys ≤ i → Swept ys i reach → ShareNothing ys
swept_all ys i reach le h p = subst (λ (xs : List Section). count_by (covers p) xs ≤ 1) (take_all i ys le) (h.once p)

none_begins : (xs ys : List Section) → ShareNothing ys → count_by (begins_inside ys) xs ≡ 0
none_begins [] ys h = refl
none_begins (x ∷ xs) ys h = let few : count_by (covers x.start) ys ≤ 1 = h x.start in let no : begins_inside ys x ≡ false = grind (arith, nat_tests) in let rest : count_by (begins_inside ys) xs ≡ 0 = none_begins xs ys h in sum_by-cons (λ s. cond (begins_inside ys s) 1 0) x xs ∙ ap (λ (b : Bool). cond b 1 0 + count_by (begins_inside ys) xs) no ∙ ap (λ (n : ℕ). 0 + n) rest

pub nothing_is_apart : (ys : List Section) → ShareNothing ys → are_apart ys ≡ true
nothing_is_apart ys h = ap (λ (n : ℕ). nat_eq n 0) (none_begins ys ys h)

-- the order of the sections does not matter
pub nothing_moved : (xs ys : List Section) → IsPermutation xs ys → ShareNothing ys → ShareNothing xs
nothing_moved xs ys moved h p = let same = sum_by-IsPermutation (λ s. cond (covers p s) 1 0) xs ys moved in let few = h p in omega (arith, same, few)

pub apart_moved : (xs ys : List Section) → IsPermutation xs ys → are_apart ys ≡ are_apart xs
apart_moved xs ys moved =
    let each : (s : Section) → count_by (covers s.start) ys ≡ count_by (covers s.start) xs = λ s. sum_by-IsPermutation (λ x. cond (covers s.start x) 1 0) xs ys moved in
    let tests : count_by (begins_inside ys) ys ≡ count_by (begins_inside xs) ys = λ i. sum_by (λ s. cond (nat_lt 0 s.size && nat_lt 1 (each s i)) 1 0) ys in
    ap (λ (n : ℕ). nat_eq n 0) (tests ∙ sum_by-IsPermutation (λ s. cond (begins_inside xs s) 1 0) xs ys moved)

pub nothing_moved_on : (b : Bool) (xs ys : List Section) → IsPermutation xs ys → OnTrue b (ShareNothing ys) → OnTrue b (ShareNothing xs)
nothing_moved_on true xs ys moved h = nothing_moved xs ys moved h
nothing_moved_on false xs ys moved h = tt
