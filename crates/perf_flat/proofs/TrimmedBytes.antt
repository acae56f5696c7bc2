-- Byte strings of a body, each at its place.
use Rattle.std.proofs.Common.{◌≡◌, ℕ, ◌+◌, ◌-◌, ◌≤◌, Bool, true, false, List, [], ◌∷◌, length, take, drop, refl, ap, subst, arith, if◌then◌else◌}
use Rattle.std.proofs.lemmas.List.{length-drop, length-take-le}
use Rattle.perf_base.specs.Zeros.{all_zero, trim_zeros}

-- ---- byte strings of a body

-- they fit after so many bytes
pub record Stands (body : List ℕ) (s : ℕ) (bytes : List ℕ) : Type 0 where
  pub inside : s + length bytes ≤ length body
  pub there : take (length bytes) (drop s body) ≡ bytes

pub taken_stands : (body : List ℕ) (s n : ℕ) → s + n ≤ length body → Stands body s (take n (drop s body))
taken_stands body s n within =
    let left : length (drop s body) ≡ length body - s = length-drop s body in
    let many : length (take n (drop s body)) ≡ n = length-take-le n (drop s body) (omega arith) in
    record {
      inside = omega arith;
      there = ap (λ m. take m (drop s body)) many;
    }

-- a name without the zero bytes at its end is a front of it
pub trimmed_front : (xs : List ℕ) → (take (length (trim_zeros xs)) xs ≡ trim_zeros xs) × (length (trim_zeros xs) ≤ length xs)
trimmed_front [] = (refl, omega arith)
trimmed_front (x ∷ xs) = go (all_zero (x ∷ xs)) (trimmed_front xs)
  where
    go : (b : Bool) → (take (length (trim_zeros xs)) xs ≡ trim_zeros xs) × (length (trim_zeros xs) ≤ length xs) →
        let ys : List ℕ = if b then [] else x ∷ trim_zeros xs in (take (length ys) (x ∷ xs) ≡ ys) × (length ys ≤ length (x ∷ xs))
    go true h = (refl, omega arith)
    go false h = (ap (λ ys. x ∷ ys) h.0, omega (arith, h.1))

pub name_stands : (body : List ℕ) (s : ℕ) (bytes : List ℕ) → s ≤ length body → trim_zeros (drop s body) ≡ bytes → Stands body s bytes
name_stands body s bytes within is =
    let front = trimmed_front (drop s body) in
    let left : length (drop s body) ≡ length body - s = length-drop s body in
    subst (Stands body s) is (record { inside = omega (arith, front.1); there = front.0 })
