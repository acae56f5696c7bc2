-- Two lists side by side.
use Rattle.std.proofs.Common.{◌≡◌, ℕ, zero, suc, ◌+◌, ◌≤◌, ◌<◌, List, [], ◌∷◌, ◌++◌, length, get_or, take, map, zip, refl, ap, arith}
use Rattle.std.proofs.lemmas.List.{take_all}
use Rattle.std.proofs.lemmas.Slice.Zip.{length-zip}

pub zip_more : {A B C : Type 0} (f : A × B → C) (xs : List A) (ys : List B) (i : ℕ) (a : A) (b : B) → i < length xs → i < length ys
    → map f (take (i + 1) (zip xs ys)) ≡ map f (take i (zip xs ys)) ++ f (get_or xs i a, get_or ys i b) ∷ []
zip_more f [] ys i a b l m = absurd (omega (arith, l))
zip_more f (x ∷ xs) [] i a b l m = absurd (omega (arith, m))
zip_more f (x ∷ xs) (y ∷ ys) zero a b l m = refl
zip_more {C} f (x ∷ xs) (y ∷ ys) (suc i) a b l m =
    let e : suc i + 1 ≡ suc (i + 1) = omega arith in
    rw e (ap (λ (zs : List C). f (x, y) ∷ zs) (zip_more f xs ys i a b (omega (arith, l)) (omega (arith, m))))

pub zip_all : {A B : Type 0} (xs : List A) (ys : List B) (i : ℕ) → length ys ≤ i → take i (zip xs ys) ≡ zip xs ys
zip_all xs ys i h = take_all i (zip xs ys) (omega (arith, length-zip xs ys))
