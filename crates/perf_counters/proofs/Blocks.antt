-- Blocks of a list: how many there are, the position of each, and the last one.
use Rattle.std.proofs.Common.{rules, ◌^◌, Option, nat_lt, ◌≡◌, ◌≤◌, ◌<◌, ℕ, zero, suc, ◌+◌, ◌*◌, ◌/◌, ◌%◌, Bool, true, false}
use Rattle.std.proofs.Common.{List, [], ◌∷◌, ◌++◌, length, take, drop, map}
use Rattle.std.proofs.Common.{Some, None, option_map, slice_get}
use Rattle.std.proofs.Common.{refl, ◌∙◌, ap, arith}
use Rattle.std.proofs.lemmas.List.{length-map, length-drop, map-append, drop-drop}
use Rattle.std.proofs.lemmas.List.{take_all, take-append-le, drop-append-le}
use Rattle.std.proofs.Math.Nat.{mul-le-mul_right, div-mul-le_self}
use Rattle.std.proofs.lemmas.Option.{slice_get-map, slice_get_past}
use Rattle.perf_reader.proofs.Calls.{chain}
use Rattle.perf_counters.proofs.Flags.{read_flags}
use Rattle.perf_counters.specs.GroupEntry.{blocks, block_len, entry_of, entries_of, entry_with_id}
use Rattle.perf_counters.specs.ReadGroup.{all_entries}
use Rattle.perf_counters.specs.GroupIter.{entries_left}
use Rattle.perf_counters.specs.declared.group_iter.GroupIter.{GroupIter}
use Rattle.std.specs.Option.{SomeIff}

-- ---- how many there are

pub length-blocks : {T : Type 0} (n count : ℕ) (xs : List T) → length (blocks n count xs) ≡ count
length-blocks n zero xs = refl
length-blocks n (suc count) xs = ap suc (length-blocks n count (drop n xs))

pub length-entries_of : (i l : Bool) (count : ℕ) (words : List ℕ) →
    length (entries_of i l count words) ≡ count
length-entries_of i l count words =
    let n = block_len i l in
    length-map (blocks n count words) (entry_of i l) ∙ length-blocks n count words

pub length-entries_left : (it : GroupIter) → length (entries_left it) ≡ it.left
length-entries_left it = length-entries_of it.with_id it.with_lost it.left it.words.now

-- ---- lengths of lists

-- a list of whole blocks has as many numbers as its blocks have together
pub whole_blocks : (i l : Bool) (n : ℕ) → n % block_len i l ≡ 0 →
    n ≡ n / block_len i l * block_len i l
whole_blocks false false n is = omega (arith, is)
whole_blocks false true n is = omega (arith, is)
whole_blocks true false n is = omega (arith, is)
whole_blocks true true n is = omega (arith, is)

-- `count` blocks are a list of whole blocks
pub counted_blocks : (i l : Bool) (count : ℕ) → count * block_len i l % block_len i l ≡ 0
counted_blocks false false count = omega arith
counted_blocks false true count = omega arith
counted_blocks true false count = omega arith
counted_blocks true true count = omega arith

-- what reading a group needs
pub ruleset group_reads = (read_flags, counted_blocks, chain)

-- a list of `count` blocks has as many entries
counted : (i l : Bool) (n count : ℕ) → n ≡ count * block_len i l → n / block_len i l ≡ count
counted false false n count is = omega (arith, is)
counted false true n count is = omega (arith, is)
counted true false n count is = omega (arith, is)
counted true true n count is = omega (arith, is)

pub all_entries-counted : (i l : Bool) (count : ℕ) (words : List ℕ) →
    length words ≡ count * block_len i l → all_entries i l words ≡ entries_of i l count words
all_entries-counted i l count words is =
    ap (λ k. entries_of i l k words) (counted i l (length words) count is)

-- a block of the list ends within the list
pub block_fits : (m n k : ℕ) → k < n / m → k * m + m ≤ n
block_fits m n k is =
    let next : (k + 1) * m ≤ n / m * m = mul-le-mul_right m (omega (arith, is)) in
    let all : n / m * m ≤ n = div-mul-le_self n m in
    let same : (k + 1) * m ≡ k * m + m = grind arith in
    omega (arith, next, all, same)

-- ---- the position of each

block_at : {T : Type 0} (n count k : ℕ) (xs : List T) → k < count →
    slice_get (blocks n count xs) k ≡ Some (take n (drop (k * n) xs))
block_at n zero k xs within = absurd (omega (arith, within))
block_at n (suc count) zero xs within =
    let none : 0 * n ≡ 0 = grind arith in
    rw none refl
block_at n (suc count) (suc k) xs within =
    let place : drop (k * n) (drop n xs) ≡ drop (n + k * n) xs = drop-drop (k * n) n xs in
    let same : n + k * n ≡ suc k * n = grind arith in
    block_at n count k (drop n xs) (omega (arith, within))
    ∙ ap (λ ys. Some (take n ys)) (place ∙ ap (λ m. drop m xs) same)

pub entry_at : (i l : Bool) (count k : ℕ) (words : List ℕ) → k < count →
    slice_get (entries_of i l count words) k
    ≡ Some (entry_of i l (take (block_len i l) (drop (k * block_len i l) words)))
entry_at i l count k words within =
    let n = block_len i l in
    slice_get-map (entry_of i l) (blocks n count words) k
    ∙ ap (option_map (entry_of i l)) (block_at n count k words within)

pub no_entry_at : (i l : Bool) (count k : ℕ) (words : List ℕ) → count ≤ k →
    slice_get (entries_of i l count words) k ≡ None
no_entry_at i l count k words past =
    let all : length (entries_of i l count words) ≡ count = length-entries_of i l count words in
    slice_get_past (entries_of i l count words) k (omega (arith, all, past))

-- no entry has the id if the entries have no ids
pub none_with_id : (l : Bool) (id count : ℕ) (words : List ℕ) →
    entry_with_id id (entries_of false l count words) ≡ None
none_with_id l id zero words = refl
none_with_id l id (suc count) words = none_with_id l id count (drop (block_len false l) words)

-- ---- the last one

blocks-back : {T : Type 0} (n count : ℕ) (front back : List T) →
    length front ≡ count * n → length back ≡ n →
    blocks n (suc count) (front ++ back) ≡ blocks n count front ++ back ∷ []
blocks-back n zero [] back before last = ap (λ b. b ∷ []) (take_all n back (omega (arith, last)))
blocks-back n zero (x ∷ xs) back before last = absurd (omega (arith, before))
blocks-back n (suc count) front back before last =
    let whole : length front ≡ n + count * n = grind (arith, before) in
    let within : n ≤ length front = omega (arith, whole) in
    let first : take n (front ++ back) ≡ take n front = take-append-le n front back within in
    let others : drop n (front ++ back) ≡ drop n front ++ back =
    drop-append-le n front back within in
    let rest : length (drop n front) ≡ count * n = omega (arith, length-drop n front, whole) in
    rw (first, others, blocks-back n count (drop n front) back rest last) refl

pub entries-back : (i l : Bool) (count left : ℕ) (words front back : List ℕ) →
    left ≡ suc count → words ≡ front ++ back →
    length front ≡ count * block_len i l → length back ≡ block_len i l →
    entries_of i l left words ≡ entries_of i l count front ++ entry_of i l back ∷ []
entries-back i l count left words front back is parts before last =
    let n = block_len i l in
    rw (is, parts) (ap (map (entry_of i l)) (blocks-back n count front back before last)
    ∙ map-append (entry_of i l) (blocks n count front) (back ∷ []))

-- ---- a product that fits into a word, and one that does not
pub product_counted : (r : Option ℕ) (n len : ℕ) → SomeIff r (n < 18446744073709551616) n → r ≡ Some len → (n ≡ len) × (nat_lt n (2 ^ 64) ≡ true)
product_counted r n len s is = (search rules, search rules)
