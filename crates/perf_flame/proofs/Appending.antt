-- Words that are appended to a text.
use Rattle.std.proofs.Common.{◌≡◌, ℕ, List, ◌++◌, cond, Result, Ok, Err, ap, ◌∙◌, append_assoc}
use Rattle.std.specs.Prelude.{OnOk, is_ok}

-- one word, if there was memory for it
pub appended : {T E : Type 0} (r : Result T E) (old new other word : List ℕ) → new ≡ cond (is_ok r) (old ++ other) old → other ≡ word → OnOk r (new ≡ old ++ word)
appended (Ok u) old new other word made is = made ∙ ap (λ w. old ++ w) is
appended (Err e) old new other word made is = tt

-- a third one, after two
pub appended_third : {T E : Type 0} (r : Result T E) (old first second new a b other c : List ℕ) → first ≡ old ++ a → second ≡ first ++ b → new ≡ cond (is_ok r) (second ++ other) second → other ≡ c
    → OnOk r (new ≡ old ++ (a ++ (b ++ c)))
appended_third (Ok u) old first second new a b other c one two made is =
    made ∙ (λ i. (two ∙ ap (λ t. t ++ b) one ∙ append_assoc old a b) i ++ is i) ∙ append_assoc old (a ++ b) c ∙ ap (λ t. old ++ t) (append_assoc a b c)
appended_third (Err e) old first second new a b other c one two made is = tt
