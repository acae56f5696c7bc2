-- The branches of a list of numbers, and the numbers of a list of branches.
use Rattle.std.proofs.Common.{◌≡◌, ℕ, zero, suc, ◌*◌, List, [], ◌∷◌, length, get_or, map, take, drop, refl, sym, ◌∙◌, ap, arith}
use Rattle.std.proofs.lemmas.List.{take-take, drop-take, drop-drop}
use Rattle.std.specs.List.{flat_map}
use Rattle.std.specs.Simd.{first_chunks}
use Rattle.perf_base.specs.Layout.{words_of}
use Rattle.perf_base.specs.Order.{Order}
use Rattle.perf_reader.proofs.Calls.{chain}
use Rattle.perf_sample_types.specs.Branches.{branches_of, branch_numbers, branch_of}
use Rattle.perf_words.specs.Branch.{Branch}

pub branches_flat : (xs : List Branch) → branches_of (flat_map branch_numbers xs) ≡ xs
branches_flat [] = refl
branches_flat (x ∷ xs) = ap (λ (ys : List Branch). x ∷ ys) (branches_flat xs)

-- three numbers as a branch
abbrev pub branch_of_three : List ℕ → Branch
branch_of_three ns = record { from = get_or ns 0 0; to = get_or ns 1 0; word = get_or ns 2 0 }

pub numbers_of_three : (ns : List ℕ) → length ns ≡ 3 → branch_numbers (branch_of_three ns) ≡ ns
numbers_of_three [] long = absurd (omega (arith, long))
numbers_of_three (x ∷ []) long = absurd (omega (arith, long))
numbers_of_three (x ∷ y ∷ []) long = absurd (omega (arith, long))
numbers_of_three (x ∷ y ∷ z ∷ []) long = refl
numbers_of_three (x ∷ y ∷ z ∷ n ∷ ns) long = absurd (omega (arith, long))

-- bytes are the numbers of the branches in their pieces of 24
pub branch_words : (o : Order) (k : ℕ) (bytes : List ℕ) → flat_map branch_numbers (map (branch_of o) (first_chunks 24 k bytes)) ≡ words_of o (3 * k) bytes
branch_words o zero bytes = refl
branch_words o (suc k) bytes =
    let front : List ℕ = take 24 bytes in
    let others : List ℕ = flat_map branch_numbers (map (branch_of o) (first_chunks 24 k (drop 24 bytes))) in
    let first : take 8 front ≡ take 8 bytes = take-take 8 24 bytes (omega arith) in
    let second : take 8 (drop 8 front) ≡ take 8 (drop 8 bytes) = ap (take 8) (drop-take 8 16 bytes) ∙ take-take 8 16 (drop 8 bytes) (omega arith) in
    let third : take 8 (drop 16 front) ≡ take 8 (drop 8 (drop 8 bytes)) = ap (take 8) (drop-take 16 8 bytes) ∙ take-take 8 8 (drop 16 bytes) (omega arith) ∙ ap (take 8) (sym (drop-drop 8 8 bytes)) in
    let rest : drop 24 bytes ≡ drop 8 (drop 8 (drop 8 bytes)) = sym (drop-drop 8 16 bytes) ∙ ap (drop 8) (sym (drop-drop 8 8 bytes)) in
    let more : suc (suc (suc (3 * k))) ≡ 3 * suc k = omega arith in
    ap (λ xs. o.eight xs ∷ o.eight (take 8 (drop 8 front)) ∷ o.eight (take 8 (drop 16 front)) ∷ others) first
    ∙ ap (λ xs. o.eight (take 8 bytes) ∷ o.eight xs ∷ o.eight (take 8 (drop 16 front)) ∷ others) second
    ∙ ap (λ xs. o.eight (take 8 bytes) ∷ o.eight (take 8 (drop 8 bytes)) ∷ o.eight xs ∷ others) third
    ∙ ap (λ (ns : List ℕ). o.eight (take 8 bytes) ∷ o.eight (take 8 (drop 8 bytes)) ∷ o.eight (take 8 (drop 8 (drop 8 bytes))) ∷ ns) (branch_words o k (drop 24 bytes) ∙ ap (words_of o (3 * k)) rest)
    ∙ ap (λ n. words_of o n bytes) more

-- what the reading of a branch stack needs
pub ruleset branch_reads = (branches_flat, chain)
