-- Parts that share no byte have together no more bytes than the file.
use Rattle.std.proofs.Common.{◌≡◌, ℕ, zero, suc, ◌+◌, ◌-◌, ◌*◌, ◌/◌, ◌≤◌, ◌<◌, List, [], ◌∷◌, length, drop, get_or, All, cond, min, refl, sym, ap, ◌∙◌, arith}
use Rattle.std.specs.List.{count_by, sum_by}
use Rattle.std.proofs.lemmas.Bool.Decides.{nat_tests}
use Rattle.std.proofs.lemmas.List.Sums.{sum_by-cons}
use Rattle.perf_sections.specs.declared.section.Section.{Section}
use Rattle.perf_outlines.specs.Outlines.{ids_in, id_count}
use Rattle.perf_sections.specs.Sections.{covers, ShareNothing, IsInside}

-- the sum of the first n values
abbrev tally : (ℕ → ℕ) → ℕ → ℕ
tally f zero = 0
tally f (suc n) = tally f n + f n

few : (f : ℕ → ℕ) (n : ℕ) → ((p : ℕ) → f p ≤ 1) → tally f n ≤ n
few f zero h = omega arith
few f (suc n) h = let a = few f n h in let b = h n in omega (arith, a, b)

joined : (f g : ℕ → ℕ) (n : ℕ) → tally (λ p. f p + g p) n ≡ tally f n + tally g n
joined f g zero = refl
joined f g (suc n) = let a = joined f g n in omega (arith, a)

-- one part covers as many places as it has bytes
abbrev one : Section → ℕ → ℕ
one s p = cond (covers p s) 1 0

one_is : (p : ℕ) (s : Section) → one s p ≡ (min (suc p) (s.start + s.size) - min (suc p) s.start) - (min p (s.start + s.size) - min p s.start)
one_is p s = grind (arith, nat_tests)

one_part : (s : Section) (n : ℕ) → tally (one s) n ≡ min n (s.start + s.size) - min n s.start
one_part s zero = omega arith
one_part s (suc n) = let a = one_part s n in let b = one_is n s in omega (arith, a, b)

part_size : (s : Section) (n : ℕ) → s.start + s.size ≤ n → tally (one s) n ≡ s.size
part_size s n le = let a = one_part s n in omega (arith, a, le)

sizes : (xs : List Section) (n : ℕ) → ((k : ℕ) (d : Section) → k < length xs → (get_or xs k d).start + (get_or xs k d).size ≤ n) → tally (λ p. count_by (covers p) xs) n ≡ sum_by (λ (s : Section). s.size) xs
sizes [] zero h = refl
sizes [] (suc n) h = let a = sizes [] n (λ k d lt. absurd (omega (arith, lt))) in omega (arith, a)
sizes (x ∷ xs) n h =
    let each : (p : ℕ) → count_by (covers p) (x ∷ xs) ≡ one x p + count_by (covers p) xs = λ p. sum_by-cons (λ s. cond (covers p s) 1 0) x xs in
    let a : tally (λ p. count_by (covers p) (x ∷ xs)) n ≡ tally (λ p. one x p + count_by (covers p) xs) n = λ i. tally (λ p. each p i) n in
    let b = part_size x n (h 0 x (omega arith)) in
    let c = sizes xs n (λ k d lt. h (suc k) d (omega (arith, lt))) in
    a ∙ joined (one x) (λ p. count_by (covers p) xs) n ∙ ap (λ m. m + tally (λ p. count_by (covers p) xs) n) b ∙ ap (λ m. x.size + m) c ∙ sym (sum_by-cons (λ (s : Section). s.size) x xs)

-- eight bytes an id
eighths : (xs : List Section) → 8 * id_count xs ≤ sum_by (λ (s : Section). s.size) xs
eighths [] = omega arith
eighths (x ∷ xs) = let a = eighths xs in let b = sum_by-cons ids_in x xs in let c = sum_by-cons (λ (s : Section). s.size) x xs in omega (arith, a, b, c)

after : (xs : List Section) (n : ℕ) → sum_by (λ (s : Section). s.size) (drop n xs) ≤ sum_by (λ (s : Section). s.size) xs
after xs zero = omega arith
after [] (suc n) = omega arith
after (x ∷ xs) (suc n) = let a = after xs n in let c = sum_by-cons (λ (s : Section). s.size) x xs in omega (arith, a, c)

-- the ids of apart parts have room in the file
pub ids_fit : (bytes : List ℕ) (parts : List Section) → ShareNothing parts → All (IsInside bytes) parts → id_count (drop 3 parts) ≤ length bytes / 8
ids_fit bytes parts apart inside =
    let a = sizes parts (length bytes) inside in
    let b = few (λ p. count_by (covers p) parts) (length bytes) apart in
    let c = after parts 3 in
    let d = eighths (drop 3 parts) in
    omega (arith, a, b, c, d)
