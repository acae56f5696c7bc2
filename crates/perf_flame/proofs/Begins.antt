-- Keys in order, and what they begin with.
use Rattle.std.proofs.Common.{◌≡◌, ℕ, zero, suc, ◌+◌, Bool, true, false, cond, eqb, ltb, leb, List, [], ◌∷◌, ◌||◌, take, length, refl, arith}
use Rattle.std.specs.Cmp.Lexicographic.{slice_cmp}
use Rattle.std.specs.List.{common_prefix_len}
use Rattle.std.specs.Ordering.{nat_cmp, is_lt}
use Rattle.std.proofs.Common.{Ordering}
use Rattle.std.proofs.lemmas.Bool.Decides.{nat_tests}
use Rattle.std.proofs.lemmas.Cmp.{same_from_slice_cmp}
use Rattle.perf_flame.specs.Boxes.{begins, is_before}

-- the order of keys is that of their bytes
pub before_is_less : (xs ys : List ℕ) (o : Ordering) → o ≡ slice_cmp nat_cmp xs ys → is_lt o ≡ is_before xs ys
before_is_less = same_from_slice_cmp nat_cmp is_lt is_before refl (λ _ _. refl) (λ _ _. refl) (λ x y xs ys o h. grind (arith, nat_tests))

trans_step : (x y z : ℕ) (a b c : Bool) → (a ≡ true → b ≡ true → c ≡ true) → cond (eqb x y) a (ltb x y) ≡ true → cond (eqb y z) b (ltb y z) ≡ true → cond (eqb x z) c (ltb x z) ≡ true
trans_step x y z a b c rest h g = grind (arith, nat_tests)

pub before_trans : (xs ys zs : List ℕ) → is_before xs ys ≡ true → is_before ys zs ≡ true → is_before xs zs ≡ true
before_trans [] [] zs h g = g
before_trans [] (y ∷ ys) [] h g = g
before_trans [] (y ∷ ys) (z ∷ zs) h g = refl
before_trans (x ∷ xs) [] zs h g = cc
before_trans (x ∷ xs) (y ∷ ys) [] h g = g
before_trans (x ∷ xs) (y ∷ ys) (z ∷ zs) h g = trans_step x y z _ _ _ (before_trans xs ys zs) h g

self_step : (x : ℕ) (a : Bool) → a ≡ false → cond (eqb x x) a (ltb x x) ≡ false
self_step x a rest = grind (arith, nat_tests)

pub not_before_itself : (xs : List ℕ) → is_before xs xs ≡ false
not_before_itself [] = refl
not_before_itself (x ∷ xs) = self_step x _ (not_before_itself xs)

convex_step : (q s t u : ℕ) (a b c d e : Bool) → (a ≡ true → b ≡ true → c ≡ true → d ≡ true → e ≡ true)
    → cond (eqb s q) a false ≡ true → cond (eqb u q) b false ≡ true → cond (eqb s t) c (ltb s t) ≡ true → cond (eqb t u) d (ltb t u) ≡ true → cond (eqb t q) e false ≡ true
convex_step q s t u a b c d e rest h g st tu = grind (arith, nat_tests)

-- what is between two keys that begin so does too
pub between : (q s t u : List ℕ) → begins q s ≡ true → begins q u ≡ true → is_before s t ≡ true → is_before t u ≡ true → begins q t ≡ true
between [] s t u h g st tu = refl
between (b ∷ bs) [] t u h g st tu = cc
between (b ∷ bs) (s ∷ ss) [] u h g st tu = cc
between (b ∷ bs) (s ∷ ss) (t ∷ ts) [] h g st tu = cc
between (b ∷ bs) (s ∷ ss) (t ∷ ts) (u ∷ us) h g st tu = convex_step b s t u _ _ _ _ _ (between bs ss ts us) h g st tu

prefix_step : (x q r : ℕ) (a b c : Bool) → (a ≡ true → b ≡ true → c ≡ true) → cond (eqb x q) a (ltb x q) ≡ true → cond (eqb r q) b false ≡ true → cond (eqb x r) c (ltb x r) ≡ true
prefix_step x q r a b c rest h g = grind (arith, nat_tests)

-- what is before a beginning is before what begins so
pub before_longer : (xs q r : List ℕ) → is_before xs q ≡ true → begins q r ≡ true → is_before xs r ≡ true
before_longer [] [] r h g = cc
before_longer (x ∷ xs) [] r h g = cc
before_longer xs (b ∷ bs) [] h g = cc
before_longer [] (b ∷ bs) (r ∷ rs) h g = refl
before_longer (x ∷ xs) (b ∷ bs) (r ∷ rs) h g = prefix_step x b r _ _ _ (before_longer xs bs rs) h g

either_step : (x q r : ℕ) (a b c d : Bool) → (a ≡ true → b ≡ true → (c || d) ≡ true) → cond (eqb x r) a (ltb x r) ≡ true → cond (eqb r q) b false ≡ true
    → (cond (eqb x q) c (ltb x q) || cond (eqb x q) d false) ≡ true
either_step x q r a b c d rest h g = grind (arith, nat_tests)

-- what is before a key that begins so is before the beginning, or begins so
pub before_or_begins : (xs q r : List ℕ) → is_before xs r ≡ true → begins q r ≡ true → (is_before xs q || begins q xs) ≡ true
before_or_begins [] [] r h g = refl
before_or_begins (x ∷ xs) [] r h g = refl
before_or_begins xs (b ∷ bs) [] h g = cc
before_or_begins [] (b ∷ bs) (r ∷ rs) h g = refl
before_or_begins (x ∷ xs) (b ∷ bs) (r ∷ rs) h g = either_step x b r _ _ _ _ (before_or_begins xs bs rs) h g

after_step : (x q r : ℕ) (a b c : Bool) → (a ≡ true → b ≡ true → c ≡ false) → cond (eqb r q) a false ≡ true → cond (eqb r x) b (ltb r x) ≡ true → cond (eqb x q) c (ltb x q) ≡ false
after_step x q r a b c rest h g = grind (arith, nat_tests)

-- what is after a key that begins so is not before the beginning
pub not_before : (xs q r : List ℕ) → begins q r ≡ true → is_before r xs ≡ true → is_before xs q ≡ false
not_before [] [] r h g = refl
not_before (x ∷ xs) [] r h g = refl
not_before xs (b ∷ bs) [] h g = cc
not_before [] (b ∷ bs) (r ∷ rs) h g = cc
not_before (x ∷ xs) (b ∷ bs) (r ∷ rs) h g = after_step x b r _ _ _ (not_before xs bs rs) h g

common_step : (q a b n : ℕ) (x y : Bool) (m : ℕ) → (x ≡ true → y ≡ leb n m) → cond (eqb a q) x false ≡ true → cond (eqb b q) y false ≡ leb (suc n) (cond (eqb a b) (1 + m) 0)
common_step q a b n x y m rest h = grind (arith, nat_tests)

-- a key begins so if it shares as many bytes with one that does
pub begins_alike : (q a b : List ℕ) → begins q a ≡ true → begins q b ≡ leb (length q) (common_prefix_len eqb a b)
begins_alike [] a b h = grind (arith, nat_tests)
begins_alike (q ∷ qs) [] b h = cc
begins_alike (q ∷ qs) (a ∷ ts) [] h = grind (arith, nat_tests)
begins_alike (q ∷ qs) (a ∷ ts) (b ∷ bs) h = common_step q a b (length qs) _ _ _ (begins_alike qs ts bs) h

flip_step : (a b m n : ℕ) → m ≡ n → cond (eqb a b) (1 + m) 0 ≡ cond (eqb b a) (1 + n) 0
flip_step a b m n rest = grind (arith, nat_tests)

pub common_flip : (a b : List ℕ) → common_prefix_len eqb a b ≡ common_prefix_len eqb b a
common_flip [] [] = refl
common_flip [] (b ∷ bs) = refl
common_flip (a ∷ ts) [] = refl
common_flip (a ∷ ts) (b ∷ bs) = flip_step a b _ _ (common_flip ts bs)

take_step : (a : ℕ) (x : Bool) → x ≡ true → cond (eqb a a) x false ≡ true
take_step a x rest = grind (arith, nat_tests)

pub begins_take : (n : ℕ) (key : List ℕ) → begins (take n key) key ≡ true
begins_take zero key = refl
begins_take (suc n) [] = refl
begins_take (suc n) (a ∷ ts) = take_step a _ (begins_take n ts)
