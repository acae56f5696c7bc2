-- Numbers by their digits, one text after another.
use Rattle.std.proofs.Common.{◌≡◌, ℕ, ◌+◌, ◌-◌, ◌*◌, ◌^◌, ◌≤◌, ◌<◌, ◌==◌, ◌&&◌, Bool, true, false, List, [], ◌∷◌, ◌++◌, length, take, drop, get_or, replicate, refl, sym, ◌∙◌, ap, arith, if◌then◌else◌}
use Rattle.std.specs.Prelude.{nat_le, nat_lt, Option, Some, None, option_and_then}
use Rattle.std.specs.Char.{is_ascii_digit}
use Rattle.std.specs.List.{before_first, list_all}
use Rattle.std.proofs.lemmas.Bool.{le-leb, le-ltb, lt-leb, ltb-false}
use Rattle.std.proofs.lemmas.List.{take-append-drop, take_more}
use Rattle.perf_walk.specs.Times.{number_after, with_digits, fraction, digits_of, nanoseconds}

number_append : (n : ℕ) (a b : List ℕ) → number_after n (a ++ b) ≡ number_after (number_after n a) b
number_append n [] b = refl
number_append n (d ∷ a) b = number_append (n * 10 + (d - 48)) a b

and_assoc : (c a b : Bool) → (c && (a && b)) ≡ ((c && a) && b)
and_assoc true a b = refl
and_assoc false a b = refl

all_append : (a b : List ℕ) → list_all is_ascii_digit (a ++ b) ≡ (list_all is_ascii_digit a && list_all is_ascii_digit b)
all_append [] b = refl
all_append (d ∷ a) b =
    ap (λ rest. is_ascii_digit d && rest) (all_append a b) ∙ and_assoc (is_ascii_digit d) (list_all is_ascii_digit a) (list_all is_ascii_digit b)

-- digits make no number less
grows : (n : ℕ) (a : List ℕ) → n ≤ number_after n a
grows n [] = omega arith
grows n (d ∷ a) = omega (arith, grows (n * 10 + (d - 48)) a)

-- a number if it is below a bound
abbrev below : (k : ℕ) → (there : Bool) → ℕ → Option ℕ
below k there n = if there && nat_lt n k then Some n else None

joined : (k : ℕ) (f : ℕ → Option ℕ) (a b : Bool) (x y : ℕ) → x ≤ y → f x ≡ below k b y → below k (a && b) y ≡ option_and_then f (below k a x)
joined k f false b x y le e = refl
joined k f true b x y le e = go (nat_lt x k) refl where
  over : (c : Bool) → nat_lt y k ≡ false → below k c y ≡ None
  over true out = rw out refl
  over false out = refl

  go : (c : Bool) → nat_lt x k ≡ c → below k b y ≡ option_and_then f (below k true x)
  go true holds = rw holds (sym e)
  go false fails = let out : nat_lt y k ≡ false = (let over : k ≤ x = ltb-false x k fails in le-ltb y k (omega (arith, over, le))) in rw fails (over b out)

pub digits_append : (n : ℕ) (a b : List ℕ) → with_digits n (a ++ b) ≡ option_and_then (λ m. with_digits m b) (with_digits n a)
digits_append n a b =
    ap (λ there. below (2 ^ 64) there (number_after n (a ++ b))) (all_append a b)
    ∙ ap (λ m. below (2 ^ 64) (list_all is_ascii_digit a && list_all is_ascii_digit b) m) (number_append n a b)
    ∙ joined (2 ^ 64) (λ m. with_digits m b) (list_all is_ascii_digit a) (list_all is_ascii_digit b) (number_after n a) (number_after (number_after n a) b) (grows (number_after n a) b) refl

-- the digits so far, and one that is none
pub stops : (n : ℕ) (text : List ℕ) (i d number : ℕ) → i < length text → Some number ≡ with_digits n (take i text) → None ≡ with_digits number (get_or text i d ∷ []) → None ≡ with_digits n text
stops n text i d number lt sofar none =
    let rest : List ℕ = drop (i + 1) text in
    let split : text ≡ take (i + 1) text ++ rest = sym (take-append-drop (i + 1) text) in
    let grown : take (i + 1) text ≡ take i text ++ (get_or text i d ∷ []) = take_more text i d lt in
    let more : with_digits n (take (i + 1) text) ≡ None =
    ap (with_digits n) grown ∙ digits_append n (take i text) (get_or text i d ∷ []) ∙ ap (option_and_then (λ m. with_digits m (get_or text i d ∷ []))) (sym sofar) ∙ sym none in
    sym (ap (with_digits n) split ∙ digits_append n (take (i + 1) text) rest ∙ ap (option_and_then (λ m. with_digits m rest)) more)

-- ---- a time

-- by what its digits make
time_if : (b : Bool) (r : Option ℕ) → r ≡ None → None ≡ (if b then r else None)
time_if true r e = sym e
time_if false r e = refl

pub no_seconds : (text : List ℕ) → None ≡ with_digits 0 (before_first (λ b. b == 46) text) → None ≡ nanoseconds text
no_seconds text none =
    let front : List ℕ = before_first (λ b. b == 46) text in
    let back : List ℕ = fraction text in
    let zeros : List ℕ = replicate (9 - length back) 48 in
    time_if (nat_le (length back) 9) (with_digits 0 (digits_of text))
    (digits_append 0 (front ++ back) zeros ∙ ap (option_and_then (λ m. with_digits m zeros)) (digits_append 0 front back ∙ ap (option_and_then (λ m. with_digits m back)) (sym none)))

pub no_fraction : (text : List ℕ) (whole : ℕ) → Some whole ≡ with_digits 0 (before_first (λ b. b == 46) text) → None ≡ with_digits whole (fraction text) → None ≡ nanoseconds text
no_fraction text whole some none =
    let front : List ℕ = before_first (λ b. b == 46) text in
    let back : List ℕ = fraction text in
    let zeros : List ℕ = replicate (9 - length back) 48 in
    time_if (nat_le (length back) 9) (with_digits 0 (digits_of text))
    (digits_append 0 (front ++ back) zeros ∙ ap (option_and_then (λ m. with_digits m zeros)) (digits_append 0 front back ∙ ap (option_and_then (λ m. with_digits m back)) (sym some) ∙ sym none))

pub too_long : (text : List ℕ) → 9 < length (fraction text) → None ≡ nanoseconds text
too_long text long = sym (ap (λ b. if b then with_digits 0 (digits_of text) else None) (lt-leb (length (fraction text)) 9 long))

pub all_digits : (text : List ℕ) (whole time : ℕ) → length (fraction text) ≤ 9 → Some whole ≡ with_digits 0 (before_first (λ b. b == 46) text)
    → Some time ≡ with_digits whole (fraction text) → with_digits time (replicate (9 - length (fraction text)) 48) ≡ nanoseconds text
all_digits text whole time fits some more =
    let front : List ℕ = before_first (λ b. b == 46) text in
    let back : List ℕ = fraction text in
    let nought : List ℕ = replicate (9 - length back) 48 in
    let short : nat_le (length back) 9 ≡ true = le-leb (length back) 9 fits in
    sym (
    ap (λ b. if b then with_digits 0 (digits_of text) else None) short
    ∙ digits_append 0 (front ++ back) nought
    ∙ ap (option_and_then (λ m. with_digits m nought)) (digits_append 0 front back ∙ ap (option_and_then (λ m. with_digits m back)) (sym some) ∙ sym more)
    )
