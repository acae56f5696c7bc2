-- Texts that are appended one after another.
use Rattle.std.proofs.Common.{◌≡◌, ℕ, List, ◌++◌, cond, Result, Ok, Err, ◌∙◌, ap, append_assoc}
use Rattle.std.specs.Prelude.{OnOk, is_ok}

-- what a call has appended if there was memory for it
pub appended : {A E : Type 0} (r : Result A E) (old new found made : List ℕ) → new ≡ cond (is_ok r) (old ++ found) old → found ≡ made → OnOk r (new ≡ old ++ made)
appended (Ok v) old new found made e is = e ∙ ap (λ t. old ++ t) is
appended (Err v) old new found made e is = tt

pub three : (old a b c first second third : List ℕ) → first ≡ old ++ a → second ≡ first ++ b → third ≡ second ++ c → third ≡ old ++ (a ++ (b ++ c))
three old a b c first second third x y z =
    z ∙ ap (λ t. t ++ c) (y ∙ ap (λ t. t ++ b) x) ∙ append_assoc (old ++ a) b c ∙ append_assoc old a (b ++ c)
