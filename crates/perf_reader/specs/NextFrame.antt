-- What a reader makes of the next frame.
use Rattle.std.specs.Prelude.{◌≡◌, ℕ, ◌+◌, Bool, IsTrue, List}
use Rattle.perf_base.specs.declared.error.ErrorKind.{ErrorKind}
use Rattle.perf_buffers.specs.Buffer.{Source}
use Rattle.perf_buffers.specs.FrameBytes.{GivesNextBytes}
use Rattle.perf_buffers.specs.Taking.{FailsToKeep}

-- The output and the new state belong to the next n bytes, which were taken, and the reads of them
-- were counted.
abbrev pub GivesNextFrame : {S O : Type 0} → (List ℕ → Bool → ℕ → S → O → S → Type 0) → Source →
    (reads : ℕ) → (n : ℕ) → S → O → Source → (reads : ℕ) → S → Type 0
GivesNextFrame gives old reads n was output new counted now =
    (made : ℕ) × (counted ≡ reads + made)
    × GivesNextBytes (λ bytes borrowed s x t. gives bytes borrowed made s x t) old n was output new now

-- The bytes, or the memory for them, are missing: nothing was read.
abbrev pub FailsToReadFrame : Source → (reads : ℕ) → (n : ℕ) → ErrorKind → Source → (reads : ℕ) →
    Type 0
FailsToReadFrame old was n e new now = (now ≡ was) × (IsTrue old.told → FailsToKeep old n e new)
