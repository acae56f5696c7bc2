-- Items read one after another, as a loop does.
use Rattle.std.proofs.Common.{◌≡◌, ℕ, suc, ◌-◌, ◌+◌, ◌*◌, ◌/◌, ◌≤◌, ◌<◌, List, [], ◌∷◌, ◌++◌, Result, Ok, Err, refl, sym, ap, ◌∙◌, append_assoc, arith}
use Rattle.std.proofs.Math.Nat.{le-div_iff_mul-le}
use Rattle.std.proofs.lemmas.List.{append-nil}
use Rattle.perf_sections.specs.declared.error.OpenError.{OpenError}
use Rattle.perf_sections.specs.declared.error.OpenError.TheVariants as errors
use Rattle.perf_sections.specs.Opens.{◌>>=◌, each_from, Fails}

-- what was read before, and what is still read
abbrev pub with_front : {A : Type 0} → List A → Result (List A) OpenError → Result (List A) OpenError
with_front front read = read >>= λ xs. Ok (front ++ xs)

pub regroup : {A : Type 0} (front : List A) (n : A) (read : Result (List A) OpenError) → with_front front (read >>= λ xs. Ok (n ∷ xs)) ≡ with_front (front ++ n ∷ []) read
regroup {A} front n (Ok xs) = ap (λ (ns : List A). Ok ns) (simp append_assoc)
regroup front n (Err e) = refl

pub goes_on : {A : Type 0} (item : ℕ → Result A OpenError) (front : List A) (count i : ℕ) (n : A) (total : Result (List A) OpenError) → i < count
    → item i ≡ Ok n
    → with_front front (each_from item i (count - i)) ≡ total → with_front (front ++ n ∷ []) (each_from item (i + 1) (count - (i + 1))) ≡ total
unfolding each_from
goes_on item front count i n total lt is so_far =
    let k : count - i ≡ suc (count - (i + 1)) = omega arith in
    let one : with_front front (each_from item i (count - i)) ≡ with_front (front ++ n ∷ []) (each_from item (i + 1) (count - (i + 1))) = rw (k, is) (regroup front n (each_from item (i + 1) (count - (i + 1)))) in
    sym one ∙ so_far

pub ends : {A : Type 0} (item : ℕ → Result A OpenError) (front : List A) (count i : ℕ) (e : OpenError) (total : Result (List A) OpenError) → i < count
    → item i ≡ Err e
    → with_front front (each_from item i (count - i)) ≡ total → total ≡ Err e
unfolding each_from
ends item front count i e total lt is so_far =
    let k : count - i ≡ suc (count - (i + 1)) = omega arith in
    let one : with_front front (each_from item i (count - i)) ≡ Err e = rw (k, is) refl in
    sym so_far ∙ one

pub is_done : {A : Type 0} (item : ℕ → Result A OpenError) (front : List A) (count i : ℕ) (total : Result (List A) OpenError) → count ≤ i
    → with_front front (each_from item i (count - i)) ≡ total → total ≡ Ok front
unfolding each_from
is_done {A} item front count i total le so_far =
    let k : count - i ≡ 0 = omega arith in
    let one : with_front front (each_from item i (count - i)) ≡ Ok front = rw k (ap (λ (ns : List A). Ok ns) (append-nil front)) in
    sym so_far ∙ one

-- an entry that is counted ends inside the attributes
pub entry_ends : (i size entry : ℕ) → 0 < entry → i < size / entry → i * entry + entry ≤ size
entry_ends i size entry some lt = let more : (i + 1) * entry ≤ size = (le-div_iff_mul-le some).0 (omega arith) in omega (arith, more)

pub fails : {Y : Type 0} (e : OpenError) (total : Result Y OpenError) → total ≡ Err e → Fails e total
fails errors.OutOfMemory total h = tt
fails e total h = h
