-- What calls promise that cut n bytes off a buffer and keep them, whatever they make of the bytes.
use Rattle.std.specs.Prelude.{◌≡◌, ℕ, Bool, true, IsTrue, List, Option, Result, IfOk, IfErr, take}
use Rattle.perf_base.specs.Refusals.{NeedsNoMemory}
use Rattle.perf_base.specs.declared.error.ErrorKind.{ErrorKind}
use Rattle.perf_base.specs.declared.error.ErrorKind.TheVariants.{OutOfMemory}
use Rattle.perf_buffers.specs.Buffer.{Source}
use Rattle.perf_buffers.specs.Room.{falls_short}
use Rattle.perf_buffers.specs.Taking.{Takes, FailsToKeep}

-- the bytes of a whole buffer are borrowed
abbrev pub BorrowsWhole : {A : Type 0} → (A → Bool) → Source → Result A ErrorKind → Type 0
BorrowsWhole borrowed old r = IsTrue old.whole → IfOk r (λ x. IsTrue (borrowed x))

-- a whole buffer needs no memory
abbrev pub WholeNeedsNoMemory : {A : Type 0} → Source → Result A ErrorKind → Type 0
WholeNeedsNoMemory old r = IsTrue old.whole → NeedsNoMemory r

-- A buffer that reports fewer than n bytes is refused, and not for lack of memory.
abbrev pub RefusesShort : {A : Type 0} → Option ℕ → ℕ → Result A ErrorKind → Type 0
RefusesShort hint n r = falls_short hint n ≡ true → NeedsNoMemory r × IfOk r (λ _. ⊥)

-- If all capacity is allocated first, nothing is taken when that fails.
abbrev pub AllocatesFirst : {A : Type 0} → Bool → Source → Result A ErrorKind → Source → Type 0
AllocatesFirst first old r new =
    IsTrue old.told → first ≡ true → IfErr r (λ e. e ≡ OutOfMemory → new.left ≡ old.left)

-- the next n bytes were taken, and are in the result
abbrev pub KeepsNext : {A : Type 0} → (A → List ℕ) → Source → ℕ → Result A ErrorKind → Source →
    Type 0
KeepsNext bytes old n r new =
    IsTrue old.told → IfOk r (λ x. Takes old n new × (bytes x ≡ take n old.left))

-- what is taken if that is refused
abbrev pub RefusesNext : {A : Type 0} → Source → ℕ → Result A ErrorKind → Source → Type 0
RefusesNext old n r new = IsTrue old.told → IfErr r (λ e. FailsToKeep old n e new)
