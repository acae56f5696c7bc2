-- What is made of the next bytes of a buffer, and what inspecting them leaves.
use Rattle.std.specs.Prelude.{◌≡◌, ◌<◌, ℕ, Bool, IsTrue, List, Option, MatchOption, length, take}
use Rattle.perf_buffers.specs.Buffer.{Source}
use Rattle.perf_buffers.specs.Taking.{Takes}
use Rattle.perf_buffers.specs.declared.frame_reader.Found.{Found}
use Rattle.perf_buffers.specs.declared.frame_reader.Found.TheVariants as found

-- The output and the new state belong to the next n bytes, which were taken. Those of a whole
-- buffer live as long as the input.
abbrev pub GivesNextBytes : {S O : Type 0} → (List ℕ → Bool → S → O → S → Type 0) → Source → ℕ →
    S → O → Source → S → Type 0
GivesNextBytes gives old n was output new now =
    (bytes : List ℕ) × (borrowed : Bool) × gives bytes borrowed was output now × (length bytes ≡ n)
    × (IsTrue old.told → Takes old n new × (bytes ≡ take n old.left))
    × (IsTrue old.whole → IsTrue borrowed)

-- the next n bytes were taken, or nothing was
abbrev pub TakesOrLeaves : Source → ℕ → Option (List ℕ) → Source → Type 0
TakesOrLeaves old n taken new =
    MatchOption taken (new.left ≡ old.left) (λ bytes. Takes old n new × (bytes ≡ take n old.left))

-- What the next chunk contains of a frame of n bytes: all of it, or less. In the latter case
-- nothing was taken, and a whole buffer has fewer bytes left.
abbrev pub FindsFrame : {S O F : Type 0} → (List ℕ → Bool → S → O → S → Type 0) → F → Source → ℕ →
    S → Found O F → Source → S → Type 0
FindsFrame gives reader old n was (found.Whole output) new now =
    GivesNextBytes gives old n was output new now
FindsFrame gives reader old n was (found.Cut same) new now =
    (same ≡ reader) × (now ≡ was) × (IsTrue old.told → new.left ≡ old.left)
    × (IsTrue old.whole → IsTrue old.told × (length old.left < n))
