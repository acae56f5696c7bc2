-- The entries of a NAMESPACES record and their numbers. Twice as many numbers as the count are as
-- many entries as the count.
use Rattle.std.proofs.Common.{◌≡◌, ℕ, zero, suc, ◌*◌, List, [], ◌∷◌, ◌++◌, length, refl, ap, arith}
use Rattle.std.specs.List.{flat_map}
use Rattle.perf_base.specs.Layout.{words_of}
use Rattle.perf_base.specs.Order.{Order}
use Rattle.perf_types.specs.Namespaces.{namespace_entries, entry_numbers}
use Rattle.perf_types.specs.declared.namespaces.NamespaceEntry.{NamespaceEntry}

counted : (count n : ℕ) (o : Order) (bytes : List ℕ) → n ≡ 2 * count → length (namespace_entries (words_of o n bytes)) ≡ count
counted zero zero o bytes is = refl
counted zero (suc n) o bytes is = absurd (omega (arith, is))
counted (suc count) zero o bytes is = absurd (omega (arith, is))
counted (suc count) (suc zero) o bytes is = absurd (omega (arith, is))
counted (suc count) (suc (suc n)) o bytes is = ap suc (counted count n o _ (omega (arith, is)))

pub length-entries_of : (count : ℕ) (o : Order) (bytes : List ℕ) → length (namespace_entries (words_of o (2 * count) bytes)) ≡ count
length-entries_of count o bytes = counted count (2 * count) o bytes refl

pub entries_flat : (xs : List NamespaceEntry) → namespace_entries (flat_map entry_numbers xs) ≡ xs
entries_flat [] = refl
entries_flat (x ∷ xs) = ap (λ (ys : List NamespaceEntry). x ∷ ys) (entries_flat xs)

-- the numbers of one more entry
pub flat_more : (xs : List NamespaceEntry) (dev inode : ℕ) → (flat_map entry_numbers xs ++ dev ∷ []) ++ inode ∷ [] ≡ flat_map entry_numbers (xs ++ record { dev = dev; inode = inode } ∷ [])
flat_more [] dev inode = refl
flat_more (x ∷ xs) dev inode = ap (λ (ys : List ℕ). x.dev ∷ x.inode ∷ ys) (flat_more xs dev inode)
