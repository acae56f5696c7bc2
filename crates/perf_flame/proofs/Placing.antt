-- The places of a key, one after another.
use Rattle.std.proofs.Common.{◌≡◌, ◌≢◌, ℕ, ◌+◌, ◌-◌, ◌<◌, ◌≤◌, cond, true, false, eqb, List, [], ◌∷◌, ◌++◌, take, drop, get_or, length, sym, ap, ◌∙◌, add-one, append-nil, append_assoc, arith}
use Rattle.std.specs.Prelude.{count_by}
use Rattle.std.proofs.lemmas.Bool.Decides.{nat_tests}
use Rattle.std.proofs.lemmas.List.{take_more, get_or-drop, length-drop}
use Rattle.std.proofs.lemmas.List.Sums.{fold_push, sum_by_push}
use Rattle.perf_flame.specs.Boxes.{Box, last_name, joined_below, flame_box}
use Rattle.perf_flame.specs.Lines.{Line}
use Rattle.perf_flame.specs.Scans.{if_new, scanned_box}

name_push : (xs : List ℕ) (b : ℕ) → last_name (xs ++ b ∷ []) ≡ cond (eqb b 0) [] (last_name xs ++ b ∷ [])
name_push xs b = fold_push (λ name b. cond (eqb b 0) [] (name ++ b ∷ [])) [] xs b

is_zero : (b : ℕ) → b ≡ 0 → eqb b 0 ≡ true
is_zero b h = grind (arith, nat_tests)

is_not_zero : (b : ℕ) → b ≢ 0 → eqb b 0 ≡ false
is_not_zero b h = grind (arith, nat_tests)

-- the first bytes of a key, and one more
module _ (key : List ℕ) (place : ℕ) (inside : place < length key) where
  grown : take (place + 1) key ≡ take place key ++ get_or key place 0 ∷ []
  grown = take_more key place 0 inside

  count_push : count_by (λ b. eqb b 0) (take (place + 1) key) ≡ count_by (λ b. eqb b 0) (take place key) + (cond (eqb (get_or key place 0) 0) 1 0)
  count_push = ap (count_by (λ b. eqb b 0)) grown ∙ sum_by_push (λ b. cond (eqb b 0) 1 0) (take place key) (get_or key place 0)

  pub name_of_end : get_or key place 0 ≡ 0 → take (place + 1 - (place + 1)) (drop (place + 1) key) ≡ last_name (take (place + 1) key)
  name_of_end end =
      let none : place + 1 - (place + 1) ≡ 0 = omega arith in
      ap (λ n. take n (drop (place + 1) key)) none
      ∙ sym (ap last_name grown ∙ name_push (take place key) (get_or key place 0)
      ∙ ap (λ b. cond b [] (last_name (take place key) ++ get_or key place 0 ∷ [])) (is_zero (get_or key place 0) end))

  pub name_goes_on : (start : ℕ) → get_or key place 0 ≢ 0 → start ≤ place → take (place - start) (drop start key) ≡ last_name (take place key)
      → take (place + 1 - start) (drop start key) ≡ last_name (take (place + 1) key)
  name_goes_on start on begun name =
      let n : place + 1 - start ≡ place - start + 1 = omega arith in
      let here : get_or (drop start key) (place - start) 0 ≡ get_or key place 0 = get_or-drop start key (place - start) 0 ∙ ap (λ n. get_or key n 0) (omega arith) in
      ap (λ n. take n (drop start key)) n
      ∙ take_more (drop start key) (place - start) 0 (omega (arith, length-drop start key))
      ∙ ap (λ b. take (place - start) (drop start key) ++ b ∷ []) here
      ∙ ap (λ bytes. bytes ++ get_or key place 0 ∷ []) name
      ∙ sym (ap last_name grown ∙ name_push (take place key) (get_or key place 0)
      ∙ ap (λ b. cond b [] (last_name (take place key) ++ get_or key place 0 ∷ [])) (is_not_zero (get_or key place 0) on))

  pub depth_of_end : (depth : ℕ) → get_or key place 0 ≡ 0 → depth ≡ count_by (λ b. eqb b 0) (take place key) + 1 → depth + 1 ≡ count_by (λ b. eqb b 0) (take (place + 1) key) + 1
  depth_of_end depth end is =
      let one = count_push ∙ ap (λ b. count_by (λ b. eqb b 0) (take place key) + (cond b 1 0)) (is_zero (get_or key place 0) end) in
      omega (arith, one, is)

  pub depth_goes_on : (depth : ℕ) → get_or key place 0 ≢ 0 → depth ≡ count_by (λ b. eqb b 0) (take place key) + 1 → depth ≡ count_by (λ b. eqb b 0) (take (place + 1) key) + 1
  depth_goes_on depth on is =
      let same = count_push ∙ ap (λ b. count_by (λ b. eqb b 0) (take place key) + (cond b 1 0)) (is_not_zero (get_or key place 0) on) in
      omega (arith, same, is)

-- the boxes below a place, and those at it
joined_more : (place : ℕ) (f : ℕ → List Box) → joined_below (place + 1) f ≡ joined_below place f ++ f place
joined_more place f = ap (λ n. joined_below n f) (add-one place)

module _ (total before share place : ℕ) (l : Line) (ns : List ℕ) (ls : List Line) (old now : List Box) where
  pub boxes_go_on : get_or l.stack place 0 ≢ 0 → now ≡ old ++ joined_below place (scanned_box total before l share ns ls) → now ≡ old ++ joined_below (place + 1) (scanned_box total before l share ns ls)
  boxes_go_on on is =
      let f = scanned_box total before l share ns ls in
      let none : f place ≡ [] = ap (λ b. cond b (if_new total (flame_box (last_name (take place l.stack)) (count_by (λ b. eqb b 0) (take place l.stack) + 1) before l.count) share place ns ls) []) (is_not_zero (get_or l.stack place 0) on) in
      is ∙ ap (λ bs. old ++ bs) (sym (joined_more place f ∙ ap (λ bs. joined_below place f ++ bs) none ∙ append-nil (joined_below place f)))

  pub boxes_of_end : (name : List ℕ) (depth : ℕ) (new : List Box) → get_or l.stack place 0 ≡ 0 → name ≡ last_name (take place l.stack) → depth ≡ count_by (λ b. eqb b 0) (take place l.stack) + 1
      → now ≡ old ++ joined_below place (scanned_box total before l share ns ls) → new ≡ now ++ if_new total (flame_box name depth before l.count) share place ns ls
      → new ≡ old ++ joined_below (place + 1) (scanned_box total before l share ns ls)
  boxes_of_end name depth new end named deep is more =
      let f = scanned_box total before l share ns ls in
      let here : f place ≡ if_new total (flame_box name depth before l.count) share place ns ls =
      ap (λ b. cond b (if_new total (flame_box (last_name (take place l.stack)) (count_by (λ b. eqb b 0) (take place l.stack) + 1) before l.count) share place ns ls) []) (is_zero (get_or l.stack place 0) end)
      ∙ (λ i. if_new total (flame_box (sym named i) (sym deep i) before l.count) share place ns ls) in
      more ∙ ap (λ bs. bs ++ if_new total (flame_box name depth before l.count) share place ns ls) is
      ∙ append_assoc old (joined_below place f) (if_new total (flame_box name depth before l.count) share place ns ls)
      ∙ ap (λ bs. old ++ bs) (sym (joined_more place f ∙ ap (λ bs. joined_below place f ++ bs) here))
