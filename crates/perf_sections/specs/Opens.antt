-- What opening a file returns.
use Rattle.std.specs.Prelude.{◌≡◌, ℕ, zero, suc, ◌+◌, List, [], ◌∷◌, Result, Ok, Err}
use Rattle.perf_sections.specs.declared.error.OpenError.{OpenError}
use Rattle.perf_sections.specs.declared.error.OpenError.TheVariants as errors

infixl 10 ◌>>=◌
-- a result, and what is made of its value
abbrev pub ◌>>=◌ : {A B : Type 0} → Result A OpenError → (A → Result B OpenError) → Result B OpenError
(Ok x) >>= f = f x
(Err e) >>= f = Err e

-- the items of n indices from one on, or the first refusal
unfoldable pub each_from : {A : Type 0} → (ℕ → Result A OpenError) → ℕ → ℕ → Result (List A) OpenError
each_from item index zero = Ok []
each_from item index (suc n) = do
  x ← item index
  others ← each_from item (index + 1) n
  Ok (x ∷ others)

-- a refusal is that of the definition, unless memory ran out
abbrev pub Fails : {Y : Type 0} → OpenError → Result Y OpenError → Type 0
Fails errors.OutOfMemory expected = Unit {0}
Fails e expected = expected ≡ Err e

-- what a call returned, seen by view, is what the definition states, unless memory ran out
abbrev pub Gives : {X Y : Type 0} → (X → Y) → Result X OpenError → Result Y OpenError → Type 0
Gives view (Ok x) expected = expected ≡ Ok (view x)
Gives view (Err e) expected = Fails e expected
