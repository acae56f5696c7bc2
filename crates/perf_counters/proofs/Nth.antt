-- What `nth` and `nth_back` return and leave, if each call gives an end of what is left.
use Rattle.std.proofs.Common.{◌≡◌, ◌≤◌, ℕ, ◌+◌, List, [], ◌∷◌, ◌++◌, length, drop, reverse}
use Rattle.std.proofs.Common.{Option, Some, None, slice_get, refl, sym, ◌∙◌, ap, arith}
use Rattle.std.proofs.lemmas.Option.{slice_get_past}
use Rattle.std.proofs.lemmas.List.{length-append, reverse-append}
use Rattle.std.proofs.Math.ListN.{drop_of_length-le}
use Rattle.std.proofs.Math.Seq.{drop-append-add}
use Rattle.std.specs.Iterator.{YieldsFirst, YieldsLast, SkipsThenYields, Yields}

-- the n-th of what was left is returned, and what follows it is left
pub record IsNth {A : Type 0} (n : ℕ) (all : List A) (answer : Option A) (rest : List A) : Type 0
  where
    pub answered : answer ≡ slice_get all n
    pub left : rest ≡ drop (n + 1) all

item_at : {A : Type 0} (xs : List A) (x : A) (ys : List A) →
    slice_get (xs ++ x ∷ ys) (length xs) ≡ Some x
item_at [] x ys = refl
item_at (y ∷ xs) x ys = item_at xs x ys

module _ {S A : Type 0} (rest : S → List A) where
  -- calls that gave xs had xs before what is left
  in_front : (s : S) (xs : List A) (t : S) →
      Yields (YieldsFirst rest) s xs t → rest s ≡ xs ++ rest t
  in_front s [] t gave = ap rest gave
  in_front s (x ∷ xs) t gave = gave.1 ∙ ap (λ l. x ∷ l) (in_front gave.0 xs t gave.2)

  pub nth-first : (s : S) (n : ℕ) (r : Option A) (u : S) →
      SkipsThenYields (YieldsFirst rest) s n r u → IsNth n (rest s) r (rest u)
  nth-first s n None u (xs, (t, gave, end), few) =
      let e : rest s ≡ xs ++ [] = in_front s xs t gave ∙ ap (λ l. xs ++ l) end.0 in
      let short : length (rest s) ≤ n = omega (arith, ap length e, length-append xs [], few) in
      let beyond : length (rest s) ≤ n + 1 = omega (arith, short) in
      record {
        answered = sym (slice_get_past (rest s) n short);
        left = end.1 ∙ sym (drop_of_length-le (rest s) beyond);
      }
  nth-first s n (Some x) u (xs, (t, gave, end), few) =
      let e : rest s ≡ xs ++ x ∷ rest u = in_front s xs t gave ∙ ap (λ l. xs ++ l) end in
      rw (e, ← few) (record {
        answered = sym (item_at xs x (rest u));
        left = sym (drop-append-add xs (x ∷ rest u) 1);
      })

-- from the back it is the same, with what is left in reverse
module _ {S A : Type 0} (rest : S → List A) where
  abbrev turned : S → List A
  turned s = reverse (rest s)

  first_of_turned : (s : S) (r : Option A) (t : S) →
      YieldsLast rest s r t → YieldsFirst turned s r t
  first_of_turned s None t gave = (ap reverse gave.0, ap reverse gave.1)
  first_of_turned s (Some x) t gave = ap reverse gave ∙ reverse-append (rest t) (x ∷ [])

  all_of_turned : (s : S) (xs : List A) (t : S) →
      Yields (YieldsLast rest) s xs t → Yields (YieldsFirst turned) s xs t
  all_of_turned s [] t gave = gave
  all_of_turned s (x ∷ xs) t (u, one, others) =
      (u, first_of_turned s (Some x) u one, all_of_turned u xs t others)

  pub nth-last : (s : S) (n : ℕ) (r : Option A) (u : S) →
      SkipsThenYields (YieldsLast rest) s n r u → IsNth n (turned s) r (turned u)
  nth-last s n r u (xs, (t, gave, end), few) =
      let end' = first_of_turned t r u end in
      nth-first turned s n r u (xs, (t, all_of_turned s xs t gave, end'), few)
