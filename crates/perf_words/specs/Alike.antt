-- How two values compare and hash: the result of `==`, and the hash of each, if they represent
-- numbers of the kernel.
use Rattle.std.specs.Prelude.{◌≡◌, ℕ, Bool, List, IsTrue, ◌↔◌, fold}

-- The hash of a number by a hash function, which has a start state, takes one write of bytes after
-- another, and finishes. `writes` are the writes that the number makes.
abbrev pub number_hash : {H : Type 0} →
    (finish : H → ℕ) (write : H → List ℕ → H) (start : H) (writes : ℕ → List (List ℕ)) → ℕ → ℕ
number_hash finish write start writes n = finish (fold write start (writes n))

-- Values that represent the numbers a and b are equal if and only if a and b are, and each hashes
-- as its number does. So equal values have equal hashes.
pub record IsByNumber (hash : ℕ → ℕ) (a b : ℕ) (equal : Bool) (hash_a hash_b : ℕ) : Type 0 where
  pub equality : IsTrue equal ↔ (a ≡ b)
  pub first_hash : hash_a ≡ hash a
  pub second_hash : hash_b ≡ hash b
