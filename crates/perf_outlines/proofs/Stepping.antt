-- Items read one after another, and what is made of them.
use Rattle.std.proofs.Common.{◌≡◌, ℕ, suc, ◌-◌, ◌+◌, ◌/◌, ◌≤◌, ◌<◌, List, [], ◌∷◌, ◌++◌, take, set, length, Result, Ok, Err, OnOk, min, refl, sym, ap, subst, ◌∙◌, arith}
use Rattle.std.proofs.lemmas.List.{append_assoc, length-set}
use Rattle.std.proofs.lemmas.List.Sums.{sum_by-cons}
use Rattle.perf_sections.specs.declared.error.OpenError.{OpenError}
use Rattle.perf_sections.specs.declared.section.Section.{Section}
use Rattle.perf_outlines.specs.Filled.{Fills}
use Rattle.perf_sections.specs.Sections.{ShareNothing}
use Rattle.perf_sections.specs.Opens.{◌>>=◌, each_from}
use Rattle.perf_outlines.specs.Outlines.{ids_in, id_count}

pub regroup : {A B : Type 0} (x : A) (k : List A → Result B OpenError) (read : Result (List A) OpenError) → ((read >>= λ xs. Ok (x ∷ xs)) >>= k) ≡ (read >>= λ xs. k (x ∷ xs))
regroup x k (Ok xs) = refl
regroup x k (Err e) = refl

-- one more was read
pub step : {A B : Type 0} (item : ℕ → Result A OpenError) (count i : ℕ) (x : A) (k : List A → Result B OpenError) → i < count → item i ≡ Ok x
    → (each_from item i (count - i) >>= k) ≡ (each_from item (i + 1) (count - (i + 1)) >>= λ xs. k (x ∷ xs))
unfolding each_from
step item count i x k lt is =
    let n : count - i ≡ suc (count - (i + 1)) = omega arith in
    rw (n, is) (regroup x k (each_from item (i + 1) (count - (i + 1))))

-- the next one is refused
pub stop : {A B : Type 0} (item : ℕ → Result A OpenError) (count i : ℕ) (e : OpenError) (k : List A → Result B OpenError) → i < count → item i ≡ Err e
    → (each_from item i (count - i) >>= k) ≡ Err e
unfolding each_from
stop item count i e k lt is =
    let n : count - i ≡ suc (count - (i + 1)) = omega arith in
    rw (n, is) refl

-- all were read
pub over : {A B : Type 0} (item : ℕ → Result A OpenError) (count i : ℕ) (k : List A → Result B OpenError) → count ≤ i
    → (each_from item i (count - i) >>= k) ≡ k []
unfolding each_from
over item count i k le =
    let n : count - i ≡ 0 = omega arith in
    rw n refl

-- the ids of one more section are counted
pub count_more : (total most : ℕ) (s : Section) (read : Result (List Section) OpenError)
    → (read >>= λ all. Ok (min (total + id_count (s ∷ all)) most)) ≡ (read >>= λ all. Ok (min (min (total + s.size / 8) most + id_count all) most))
count_more total most s (Ok all) = let c : id_count (s ∷ all) ≡ s.size / 8 + id_count all = sum_by-cons ids_in s all in ap (λ (n : ℕ). Ok n) (omega (arith, c))
count_more total most s (Err e) = refl

-- none is left to count
pub count_done : (total most : ℕ) → total ≤ most → ◌≡◌ {A = Result ℕ OpenError} (Ok total) (Ok (min (total + id_count []) most))
count_done total most le = let n : total ≡ min (total + 0) most = omega arith in ap (λ (k : ℕ). Ok k) n

-- one more was written
pub front_more : {A B : Type 0} (front : List B) (x : B) (h : List A → List B) (read : Result (List A) OpenError)
    → (read >>= λ xs. Ok (front ++ (x ∷ h xs))) ≡ (read >>= λ xs. Ok ((front ++ x ∷ []) ++ h xs))
front_more {A} {B} front x h (Ok xs) = ap (λ (ys : List B). Ok ys) (sym (append_assoc front (x ∷ []) (h xs)))
front_more front x h (Err e) = refl

pub three_set : (list : List Section) (a b c : Section) → 3 ≤ length list → take 3 (set (set (set list 0 a) 1 b) 2 c) ≡ a ∷ b ∷ c ∷ []
three_set [] a b c le = absurd (omega (arith, le))
three_set (x ∷ []) a b c le = absurd (omega (arith, le))
three_set (x ∷ y ∷ []) a b c le = absurd (omega (arith, le))
three_set (x ∷ y ∷ z ∷ rest) a b c le = refl

pub three_length : (list : List Section) (a b c : Section) → length (set (set (set list 0 a) 1 b) 2 c) ≡ length list
three_length list a b c = length-set (set (set list 0 a) 1 b) 2 c ∙ length-set (set list 0 a) 1 b ∙ length-set list 0 a

-- the same parts were written once more
pub filled_again : (result : Result (Unit {0}) OpenError) (expected : Result (List Section) OpenError) (first second : List Section) → expected ≡ Ok first → Fills result expected second → ShareNothing first → OnOk result (ShareNothing second)
filled_again (Ok done) expected first second was is apart = let same : first ≡ second = cc in subst ShareNothing same apart
filled_again (Err e) expected first second was is apart = tt
