-- The frames of entries.
use Rattle.std.proofs.Common.{◌≡◌, ℕ, zero, suc, ◌+◌, ◌-◌, ◌≤◌, List, [], ◌∷◌, length, map, drop, set, get_or, Some, refl, sym, ◌∙◌, ap, subst, true, false, nat_lt, nat_le, inl, inr, arith}
use Rattle.std.specs.Prelude.{Option}
use Rattle.std.specs.List.{All, swap, cons_option}
use Rattle.std.specs.Ordering.{is_lt}
use Rattle.std.specs.List.Sorted.{IsPermutation, IsSortedByKey}
use Rattle.std.specs.declared.cmp.Ordering.{Ordering}
use Rattle.std.proofs.lemmas.Bool.{lt-ltb, le-ltb, le-leb, cases_lt}
use Rattle.std.proofs.lemmas.List.{map-set, length-map, length-drop, drop-drop, drop_all}
use Rattle.std.proofs.Math.ListN.{get_or-map}
use Rattle.std.proofs.lemmas.List.Elements.{All-nil, All-cons, All-head, All-tail}
use Rattle.std.proofs.lemmas.List.Sorted.{IsPermutation-refl, IsPermutation-trans, IsPermutation-swap, IsPermutation-keeps, All-permutation}
use Rattle.perf_base.specs.Dynamic.{order_of}
use Rattle.perf_file.specs.Entries.{entry_of, entries_of, time_and_place, by_time_then_place, IsInOrder}
use Rattle.perf_sections.specs.Opened.{File}
use Rattle.perf_file.specs.Pieces.{Piece, pieces_of, first_pieces, piece_in, piece_at, place_in, after_piece, drop_most}
use Rattle.perf_file.specs.declared.entries.Entry.{Entry}
use Rattle.perf_data_text.specs.DumpText.{AreByTime, pieces_at}

-- ---- the frame at the offset of a frame

-- these bytes are the last ones of the frames of a file
record IsLast (f : File) (bytes : List ℕ) : Type 0 where
  long : length bytes ≤ length f.frames
  are : bytes ≡ drop (length f.frames - length bytes) f.frames

all_last : (f : File) → IsLast f f.frames
all_last f = record {
  long = omega arith;
  are = let none : length f.frames - length f.frames ≡ 0 = omega arith in ap (λ n. drop n f.frames) (sym none);
}

-- and so are those after some of them
last_after : (f : File) (n : ℕ) (bytes : List ℕ) → IsLast f bytes → IsLast f (drop_most n bytes)
last_after f n bytes h = elim (cases_lt n (length bytes)) [
  | inl lt ↦
      let a : nat_lt n (length bytes) ≡ true = lt-ltb n (length bytes) lt in
      let cut = length-drop n bytes in
      rw a (record {
        long = omega (arith, h.long, cut);
        are =
            let sum : length f.frames - length bytes + n ≡ length f.frames - length (drop n bytes) = omega (arith, h.long, cut, lt) in
            ap (drop n) h.are ∙ drop-drop n (length f.frames - length bytes) f.frames ∙ ap (λ k. drop k f.frames) sum;
      })
  | inr le ↦
      let a : nat_lt n (length bytes) ≡ false = le-ltb n (length bytes) le in
      rw a (record { long = omega arith; are = sym (drop_all (length f.frames - 0) f.frames (omega arith)) })
]

-- what is left of the frames where a frame begins
at_place : (f : File) (bytes : List ℕ) → IsLast f bytes → 8 ≤ length bytes → piece_at f (place_in f bytes) ≡ Some (piece_in f bytes)
at_place f bytes h fits =
    let here : ℕ = place_in f bytes in
    let at : here - f.start ≡ length f.frames - length bytes = omega arith in
    let a : nat_le f.start here ≡ true = le-leb f.start here (omega arith) in
    let b : nat_le (here - f.start + 8) (length f.frames) ≡ true = le-leb (here - f.start + 8) (length f.frames) (omega (arith, h.long, fits)) in
    rw (a, b) (ap (λ rest. Some (piece_in f rest)) (ap (λ n. drop n f.frames) at ∙ sym h.are))

all_there : (f : File) (n : ℕ) (bytes : List ℕ) → IsLast f bytes → All (λ p. piece_at f p.at ≡ Some p) (first_pieces f n bytes)
all_there f zero bytes h = All-nil (λ (p : Piece). piece_at f p.at ≡ Some p)
all_there f (suc n) bytes h = elim (cases_lt (length bytes) 8) [
  | inl lt ↦ let a : nat_lt (length bytes) 8 ≡ true = lt-ltb (length bytes) 8 lt in rw a (All-nil (λ (p : Piece). piece_at f p.at ≡ Some p))
  | inr fits ↦
      let a : nat_lt (length bytes) 8 ≡ false = le-ltb (length bytes) 8 fits in
      let o = order_of f.order in
      rw a (All-cons (λ (p : Piece). piece_at f p.at ≡ Some p) (piece_in f bytes) (first_pieces f n (after_piece o bytes)) (at_place f bytes h fits)
      (all_there f n (after_piece o bytes) (last_after f _ _ (last_after f _ bytes h))))
]

-- ---- entries in order

map_swap : {A B : Type 0} (h : A → B) (xs : List A) (i j : ℕ) → map h (swap xs i j) ≡ swap (map h xs) i j
map_swap h [] i j = refl
map_swap h (d ∷ ys) i j =
    map-set h (set (d ∷ ys) i (get_or (d ∷ ys) j d)) j (get_or (d ∷ ys) i d)
    ∙ (λ t. set ((map-set h (d ∷ ys) i (get_or (d ∷ ys) j d) ∙ ap (set (map h (d ∷ ys)) i) (sym (get_or-map h (d ∷ ys) j d))) t) j (sym (get_or-map h (d ∷ ys) i d) t))

-- a list in another order than that of what is made of others, is made of these in that order
reordered : {A B : Type 0} (h : A → B) (xs : List A) (ys : List B) → IsPermutation (map h xs) ys → (zs : List A) × IsPermutation xs zs × (ys ≡ map h zs)
reordered {A} {B} h xs ys same =
    IsPermutation-keeps (map h xs) (λ (l : List B). (zs : List A) × IsPermutation xs zs × (l ≡ map h zs)) (xs, IsPermutation-refl xs, refl)
    (λ l i j below_i below_j made.
    let n : length l ≡ length made.0 = ap length made.2 ∙ length-map made.0 h in (
      swap made.0 i j,
      IsPermutation-trans xs made.0 (swap made.0 i j) made.1 (IsPermutation-swap made.0 (swap made.0 i j) i j (omega (arith, n, below_i)) (omega (arith, n, below_j)) refl),
      ap (λ m. swap m i j) made.2 ∙ sym (map_swap h made.0 i j),
    )) ys same

sorted_before : {A B K : Type 0} (h : A → B) (key : B → K) (cmp : K → K → Ordering) (zs : List A) → IsSortedByKey key cmp (map h zs) → IsSortedByKey (λ z. key (h z)) cmp zs
sorted_before h key cmp zs up = λ k d low high.
    (λ t. is_lt (cmp (key (sym (get_or-map h zs (k + 1) d) t)) (key (sym (get_or-map h zs k d) t))))
    ∙ up k (h d) low (omega (arith, high, length-map zs h))

-- what is found for entries made of frames that are there
found_again : (f : File) (zs : List Piece) → All (λ p. piece_at f p.at ≡ Some p) zs → pieces_at f (map (entry_of f) zs) ≡ zs
found_again f [] h = refl
found_again f (z ∷ zs) h =
    ap (λ (o : Option Piece). cons_option o (pieces_at f (map (entry_of f) zs))) (All-head (λ p. piece_at f p.at ≡ Some p) z zs h)
    ∙ ap (λ (rest : List Piece). z ∷ rest) (found_again f zs (All-tail (λ p. piece_at f p.at ≡ Some p) z zs h))

pub by_time : (f : File) (entries : List Entry) → IsInOrder (entries_of f) entries → AreByTime f (pieces_at f entries)
by_time f entries order =
    let made = reordered (entry_of f) (pieces_of f) entries order.same in
    let there = All-permutation (λ p. piece_at f p.at ≡ Some p) (pieces_of f) made.0 made.1 (all_there f (length f.frames) f.frames (all_last f)) in
    let back : pieces_at f entries ≡ made.0 = ap (pieces_at f) made.2 ∙ found_again f made.0 there in
    let up : IsSortedByKey time_and_place by_time_then_place (map (entry_of f) made.0) = subst (IsSortedByKey time_and_place by_time_then_place) made.2 order.sorted in
    subst (AreByTime f) (sym back) (record {
      same = made.1;
      sorted = sorted_before (entry_of f) time_and_place by_time_then_place made.0 up;
    })
