-- How two values with several numbers compare and hash.
use Rattle.std.specs.Prelude.{◌≡◌, ℕ, Bool, List, IsTrue, ◌↔◌, fold}
use Rattle.perf_types.specs.declared.namespaces.NamespaceEntry.{NamespaceEntry}

-- The hash of an entry by a hash function, which has a start state, takes one write of bytes after
-- another, and finishes. `writes` are the writes that a number makes: those of the device come
-- first, then those of the inode.
abbrev pub entry_hash : {H : Type 0} →
    (finish : H → ℕ) (write : H → List ℕ → H) (start : H) (writes : ℕ → List (List ℕ)) →
    NamespaceEntry → ℕ
entry_hash finish write start writes e =
    finish (fold write (fold write start (writes e.dev)) (writes e.inode))

-- Values are equal if and only if all their numbers are, and each hashes as its numbers do. So
-- equal values have equal hashes.
pub record IsByFields {A : Type 0} (hash : A → ℕ) (a b : A) (equal : Bool)
    (hash_a hash_b : ℕ) : Type 0 where
  pub equality : IsTrue equal ↔ (a ≡ b)
  pub first_hash : hash_a ≡ hash a
  pub second_hash : hash_b ≡ hash b
