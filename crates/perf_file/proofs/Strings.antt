-- Strings one after another, as a loop reads them.
use Rattle.std.proofs.Common.{◌≡◌, ℕ, zero, suc, ◌-◌, ◌+◌, ◌<◌, true, false, List, [], ◌∷◌, drop, refl, sym, ap, arith}
use Rattle.perf_base.specs.Order.{Order}
use Rattle.perf_file.specs.FeatureTexts.{is_whole, text_in, string_size, words, are_whole}

pub more_whole : (o : Order) (count i : ℕ) (left : List ℕ) → i < count → is_whole o left ≡ true → are_whole o (count - i) left ≡ are_whole o (count - (i + 1)) (drop (string_size o left) left)
unfolding are_whole
more_whole o count i left lt whole = let k : count - i ≡ suc (count - (i + 1)) = omega arith in rw (k, whole) refl

pub not_whole : (o : Order) (count i : ℕ) (left : List ℕ) → i < count → is_whole o left ≡ false → are_whole o (count - i) left ≡ false
unfolding are_whole
not_whole o count i left lt cut = let k : count - i ≡ suc (count - (i + 1)) = omega arith in rw (k, cut) refl

pub all_whole : (o : Order) (n : ℕ) (left : List ℕ) → n ≡ 0 → are_whole o n left ≡ true
unfolding are_whole
all_whole o n left none = rw none refl

pub no_word : (o : Order) (n : ℕ) (left : List ℕ) → n ≡ 0 → words o n left ≡ []
unfolding words
no_word o n left none = rw none refl

pub cut_word : (o : Order) (n : ℕ) (left : List ℕ) → is_whole o left ≡ false → words o n left ≡ []
unfolding words
cut_word o zero left cut = refl
cut_word o (suc n) left cut = rw cut refl

pub next_word : (o : Order) (n : ℕ) (left : List ℕ) → 0 < n → is_whole o left ≡ true → words o n left ≡ text_in o left ∷ words o (n - 1) (drop (string_size o left) left)
unfolding words
next_word o zero left some whole = absurd (omega arith)
next_word o (suc n) left some whole =
    let k : suc n - 1 ≡ n = omega arith in
    rw whole (ap (λ m. text_in o left ∷ words o m (drop (string_size o left) left)) (sym k))
