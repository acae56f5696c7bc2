-- One pass over stacks in order finds the boxes of their beginnings.
use Rattle.std.proofs.Common.{◌≡◌, ℕ, zero, suc, ◌+◌, ◌<◌, Bool, true, false, cond, not, eqb, ltb, leb, ◌&&◌, ◌||◌, List, [], ◌∷◌, ◌++◌, take, length, refl, sym, ap, subst, ◌∙◌, inl, inr, append_assoc, add-zero, zero-add, arith}
use Rattle.std.specs.Prelude.{count_by, ◌⊎◌, slice_index}
use Rattle.std.specs.List.{common_prefix_len, list_any}
use Rattle.std.proofs.lemmas.Bool.Decides.{nat_tests}
use Rattle.std.proofs.lemmas.List.{length-take-le}
use Rattle.std.proofs.lemmas.List.Folds.{list_any-append}
use Rattle.std.proofs.lemmas.List.Sums.{sum_by-append, sum_by-cons, sum_by_push}
use Rattle.perf_flame.specs.Lines.{Line, total_of}
use Rattle.perf_flame.specs.Boxes.{Box, begins, is_before, worth_of, left_of, flame_box, if_wide, joined_below, new_box_at, boxes_after, last_name}
use Rattle.perf_flame.specs.Scans.{shares, run, scanned_box, scan}
use Rattle.perf_flame.proofs.Begins.{before_trans, not_before_itself, between, before_longer, before_or_begins, not_before, begins_alike, common_flip, begins_take}

-- ---- a sum over one more line

worth_cons : (q : List ℕ) (l : Line) (ls : List Line) → worth_of (l ∷ ls) q ≡ (cond (begins q l.stack) l.count 0) + worth_of ls q
worth_cons q l ls = sum_by-cons (λ (l : Line). cond (begins q l.stack) l.count 0) l ls

left_cons : (q : List ℕ) (l : Line) (ls : List Line) → left_of (l ∷ ls) q ≡ (cond (is_before l.stack q) l.count 0) + left_of ls q
left_cons q l ls = sum_by-cons (λ (l : Line). cond (is_before l.stack q) l.count 0) l ls

total_cons : (l : Line) (ls : List Line) → total_of (l ∷ ls) ≡ l.count + total_of ls
total_cons l ls = sum_by-cons (λ (l : Line). l.count) l ls

term_no : (b : Bool) (n m : ℕ) → b ≡ false → m ≡ 0 → (cond b n 0) + m ≡ 0
term_no b n m unless rest = grind (arith, nat_tests)

term_yes : (b : Bool) (n m k : ℕ) → b ≡ true → m ≡ k → (cond b n 0) + m ≡ n + k
term_yes b n m k so rest = grind (arith, nat_tests)

false_unless : (b : Bool) → (b ≡ true → false ≡ true) → b ≡ false
false_unless true unless = sym (unless refl)
false_unless false unless = refl

-- ---- the stacks after one

-- the first of these is after a key, and each is after the one before it
abbrev pub Ascends : (last : List ℕ) → List Line → Type 0
Ascends last [] = Unit {0}
Ascends last (l ∷ ls) = (is_before last l.stack ≡ true) × Ascends l.stack ls

further : (s t : List ℕ) (ls : List Line) → is_before s t ≡ true → Ascends t ls → Ascends s ls
further s t [] h up = tt
further s t (l ∷ ls) h up = (before_trans s t l.stack h up.0, up.1)

-- none begins so after one that does not, which is after one that does
none_after : (q s t : List ℕ) (us : List Line) → begins q s ≡ true → begins q t ≡ false → is_before s t ≡ true → Ascends t us → worth_of us q ≡ 0
none_after q s t [] h unless st up = refl
none_after q s t (u ∷ us) h unless st up =
    let not_u : begins q u.stack ≡ false = false_unless (begins q u.stack) (λ so. sym unless ∙ between q s t u.stack h so st up.0) in
    worth_cons q u us ∙ term_no (begins q u.stack) u.count (worth_of us q) not_u (none_after q s t us h unless st (further t u.stack us up.0 up.1))

run_step : (place share count m k : ℕ) (b : Bool) (n : ℕ) → n ≡ place + 1 → b ≡ leb n share → (b ≡ true → m ≡ k) → (b ≡ false → m ≡ 0)
    → (cond b count 0) + m ≡ cond (ltb place share) (count + k) 0
run_step place share count m k b n is test so unless = grind (arith, nat_tests)

-- what those that begin so are worth
run_is : (place : ℕ) (q s : List ℕ) (ls : List Line) → length q ≡ place + 1 → begins q s ≡ true → Ascends s ls → worth_of ls q ≡ run place (shares s ls) ls
run_is place q s [] n h up = refl
run_is place q s (l ∷ ls) n h up =
    worth_cons q l ls
    ∙ run_step place (common_prefix_len eqb s l.stack) l.count (worth_of ls q) (run place (shares l.stack ls) ls) (begins q l.stack) (length q) n (begins_alike q s l.stack h)
    (λ so. run_is place q l.stack ls n so up.1)
    (λ unless. none_after q s l.stack ls h unless up.0 up.1)

none_left : (q s : List ℕ) (ls : List Line) → begins q s ≡ true → Ascends s ls → left_of ls q ≡ 0
none_left q s [] h up = refl
none_left q s (l ∷ ls) h up =
    left_cons q l ls ∙ term_no (is_before l.stack q) l.count (left_of ls q) (not_before l.stack q s h up.0) (none_left q s ls h (further s l.stack ls up.0 up.1))

-- ---- the stacks before one

-- each of these is before a key or is it, and that key is before another
abbrev pub EachBefore : List Line → (last s : List ℕ) → Type 0
EachBefore [] last s = Unit {0}
EachBefore (d ∷ ds) last s = ((is_before d.stack last ≡ true) ⊎ (d.stack ≡ last)) × (is_before last s ≡ true) × EachBefore ds last s

not_begun : (q d last s : List ℕ) → ((is_before d last ≡ true) ⊎ (d ≡ last)) → is_before last s ≡ true → begins q s ≡ true → begins q last ≡ false → begins q d ≡ false
not_begun q d last s (inl less) ls h unless = false_unless (begins q d) (λ so. sym unless ∙ between q d last s so h less ls)
not_begun q d last s (inr same) ls h unless = ap (begins q) same ∙ unless

before_s : (d last s : List ℕ) → ((is_before d last ≡ true) ⊎ (d ≡ last)) → is_before last s ≡ true → is_before d s ≡ true
before_s d last s (inl less) ls = before_trans d last s less ls
before_s d last s (inr same) ls = ap (λ k. is_before k s) same ∙ ls

or_false_step : (a b : Bool) → a ≡ false → b ≡ false → (a || b) ≡ false
or_false_step a b h g = grind (arith, nat_tests)

or_left_step : (a b : Bool) → (a || b) ≡ true → b ≡ false → a ≡ true
or_left_step true b h unless = refl
or_left_step false b h unless = sym unless ∙ h

none_begun : (q last s : List ℕ) (ds : List Line) → EachBefore ds last s → begins q s ≡ true → begins q last ≡ false → list_any (λ (l : Line). begins q l.stack) ds ≡ false
none_begun q last s [] each h unless = refl
none_begun q last s (d ∷ ds) each h unless = or_false_step (begins q d.stack) _ (not_begun q d.stack last s each.0 each.1 h unless) (none_begun q last s ds each.2 h unless)

none_worth : (q last s : List ℕ) (ds : List Line) → EachBefore ds last s → begins q s ≡ true → begins q last ≡ false → worth_of ds q ≡ 0
none_worth q last s [] each h unless = refl
none_worth q last s (d ∷ ds) each h unless =
    worth_cons q d ds ∙ term_no (begins q d.stack) d.count (worth_of ds q) (not_begun q d.stack last s each.0 each.1 h unless) (none_worth q last s ds each.2 h unless)

all_left : (q last s : List ℕ) (ds : List Line) → EachBefore ds last s → begins q s ≡ true → begins q last ≡ false → left_of ds q ≡ total_of ds
all_left q last s [] each h unless = refl
all_left q last s (d ∷ ds) each h unless =
    let less : is_before d.stack q ≡ true =
    or_left_step (is_before d.stack q) (begins q d.stack) (before_or_begins d.stack q s (before_s d.stack last s each.0 each.1) h) (not_begun q d.stack last s each.0 each.1 h unless) in
    left_cons q d ds ∙ term_yes (is_before d.stack q) d.count (left_of ds q) (total_of ds) less (all_left q last s ds each.2 h unless) ∙ sym (total_cons d ds)

each_more : (last s t : List ℕ) (ds : List Line) (l : Line) → EachBefore ds last s → l.stack ≡ s → is_before s t ≡ true → EachBefore (ds ++ l ∷ []) s t
each_more last s t [] l each same less = (inr same, less, tt)
each_more last s t (d ∷ ds) l each same less = (inl (before_s d.stack last s each.0 each.1), less, each_more last s t ds l each.2 same less)

-- ---- one stack among others

-- these stacks come before one, the last of them with this key
pub record Context (done : List Line) (last s : List ℕ) : Type 0 where
  pub each : EachBefore done last s
  pub there : (q : List ℕ) → 0 < length q → begins q last ≡ true → list_any (λ (l : Line). begins q l.stack) done ≡ true

pub context_start : (s : List ℕ) → Context [] [] s
context_start s = record {
  each = tt;
  there = not_of_none;
}
  where
    not_of_none : (q : List ℕ) → 0 < length q → begins q [] ≡ true → list_any (λ (l : Line). begins q l.stack) [] ≡ true
    not_of_none [] some h = absurd (omega arith)
    not_of_none (b ∷ bs) some h = h

any_step : (a b : Bool) → a ≡ true → (b || (a || false)) ≡ true
any_step a b h = grind (arith, nat_tests)

context_more : (done : List Line) (last t : List ℕ) (l : Line) → Context done last l.stack → is_before l.stack t ≡ true → Context (done ++ l ∷ []) l.stack t
context_more done last t l before less = record {
  each = each_more last l.stack t done l before.each refl less;
  there = λ q some h. list_any-append (λ (l : Line). begins q l.stack) done (l ∷ []) ∙ any_step (begins q l.stack) (list_any (λ (l : Line). begins q l.stack) done) h;
}

new_step : (place share n : ℕ) (b any : Bool) → n ≡ place + 1 → b ≡ leb n share → (b ≡ true → any ≡ true) → (b ≡ false → any ≡ false) → leb share place ≡ not any
new_step place share n b any is test so unless = grind (arith, nat_tests)

old_step : (place share n : ℕ) (b : Bool) → n ≡ place + 1 → b ≡ leb n share → leb share place ≡ true → b ≡ false
old_step place share n b is test new = grind (arith, nat_tests)

chosen : {X : Type 0} (a b c : Bool) (x y z : X) → b ≡ c → (b ≡ true → x ≡ y) → cond a (cond b x z) z ≡ cond (a && c) y z
chosen true true c x y z same are = are refl ∙ ap (λ t. cond t y z) same
chosen true false c x y z same are = ap (λ t. cond t y z) same
chosen false b c x y z same are = refl

-- the place of a stack among all
module _ (lines done ls : List Line) (l : Line) (last : List ℕ) (all : done ++ l ∷ ls ≡ lines) (before : Context done last l.stack) (up : Ascends l.stack ls) (place : ℕ) (inside : place < length l.stack) where
  abbrev q : List ℕ
  q = take (place + 1) l.stack

  q_long : length q ≡ place + 1
  q_long = length-take-le (place + 1) l.stack (omega arith)

  q_begins : begins q l.stack ≡ true
  q_begins = begins_take (place + 1) l.stack

  test : begins q last ≡ leb (length q) (common_prefix_len eqb last l.stack)
  test = begins_alike q l.stack last q_begins ∙ ap (leb (length q)) (common_flip l.stack last)

  is_new : leb (common_prefix_len eqb last l.stack) place ≡ not (list_any (λ (d : Line). begins q d.stack) done)
  is_new =
      new_step place (common_prefix_len eqb last l.stack) (length q) (begins q last) (list_any (λ (d : Line). begins q d.stack) done) q_long test
      (before.there q (omega (arith, q_long)))
      (none_begun q last l.stack done before.each q_begins)

  module _ (new : leb (common_prefix_len eqb last l.stack) place ≡ true) where
    not_last : begins q last ≡ false
    not_last = old_step place (common_prefix_len eqb last l.stack) (length q) (begins q last) q_long test new

    left_is : total_of done ≡ left_of lines q
    left_is =
        sym (ap (λ (xs : List Line). left_of xs q) (sym all)
        ∙ sum_by-append (λ (d : Line). cond (is_before d.stack q) d.count 0) done (l ∷ ls)
        ∙ ap (λ n. n + left_of (l ∷ ls) q) (all_left q last l.stack done before.each q_begins not_last)
        ∙ ap (λ n. total_of done + n)
        (left_cons q l ls ∙ term_no (is_before l.stack q) l.count (left_of ls q) (itself q_begins) (none_left q l.stack ls q_begins up))
        ∙ add-zero (total_of done))
      where
        itself : begins q l.stack ≡ true → is_before l.stack q ≡ false
        itself h = false_unless (is_before l.stack q) (λ less. sym (not_before_itself l.stack) ∙ before_longer l.stack q l.stack less h)

    worth_is : l.count + run place (shares l.stack ls) ls ≡ worth_of lines q
    worth_is =
        sym (ap (λ (xs : List Line). worth_of xs q) (sym all)
        ∙ sum_by-append (λ (d : Line). cond (begins q d.stack) d.count 0) done (l ∷ ls)
        ∙ ap (λ n. n + worth_of (l ∷ ls) q) (none_worth q last l.stack done before.each q_begins not_last)
        ∙ zero-add (worth_of (l ∷ ls) q)
        ∙ worth_cons q l ls ∙ term_yes (begins q l.stack) l.count (worth_of ls q) (run place (shares l.stack ls) ls) q_begins (run_is place q l.stack ls q_long q_begins up))

  pub box_is : scanned_box (total_of lines) (total_of done) l (common_prefix_len eqb last l.stack) (shares l.stack ls) ls place ≡ new_box_at lines done l.stack place
  box_is =
      chosen (eqb (slice_index l.stack place) 0) _ _ _ _ [] is_new
      (λ new. ap (if_wide (total_of lines)) (λ i. flame_box (last_name (take place l.stack)) (count_by (λ b. eqb b 0) (take place l.stack) + 1) (left_is new i) (worth_is new i)))

joined_alike : (n : ℕ) (f g : ℕ → List Box) → ((k : ℕ) → k < n → f k ≡ g k) → joined_below n f ≡ joined_below n g
joined_alike zero f g same = refl
joined_alike (suc n) f g same = λ i. joined_alike n f g (λ k less. same k (omega arith)) i ++ same n (omega arith) i

-- ---- all stacks

pub scan_after : (lines done left : List Line) (last : List ℕ) → done ++ left ≡ lines → ((l : Line) (ls : List Line) → left ≡ l ∷ ls → Context done last l.stack × Ascends l.stack ls)
    → scan (total_of lines) (total_of done) (shares last left) left ≡ boxes_after lines done left
scan_after lines done [] last all context = refl
scan_after lines done (l ∷ ls) last all context =
    let here = context l ls refl in
    let rest : (done ++ l ∷ []) ++ ls ≡ lines = append_assoc done (l ∷ []) ls ∙ all in
    let more : total_of done + l.count ≡ total_of (done ++ l ∷ []) = sym (sum_by_push (λ (d : Line). d.count) done l) in
    λ i.
    joined_alike (length l.stack) _ (new_box_at lines done l.stack) (λ place inside. box_is lines done ls l last all here.0 here.1 place inside) i
    ++ (ap (λ n. scan (total_of lines) n (shares l.stack ls) ls) more
    ∙ scan_after lines (done ++ l ∷ []) ls l.stack rest (next done last l ls here.0 here.1)) i
  where
    next : (done : List Line) (last : List ℕ) (l : Line) (ls : List Line) → Context done last l.stack → Ascends l.stack ls
        → (t : Line) (ts : List Line) → ls ≡ t ∷ ts → Context (done ++ l ∷ []) l.stack t.stack × Ascends t.stack ts
    next done last l ls before up t ts is =
        let up' : Ascends l.stack (t ∷ ts) = subst (Ascends l.stack) is up in
        (context_more done last t.stack l before up'.0, up'.1)
