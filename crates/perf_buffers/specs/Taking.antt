-- What a read takes from a buffer whose bytes are known.
use Rattle.std.specs.Prelude.{Option, ◌≡◌, ℕ, ◌+◌, ◌-◌, ◌<◌, ◌≤◌, Bool, true, false, IsTrue, List}
use Rattle.std.specs.Prelude.{[], length, take, drop, Some, None}
use Rattle.perf_buffers.specs.Buffer.{Source}
use Rattle.perf_base.specs.declared.error.ErrorKind.{ErrorKind}
use Rattle.perf_base.specs.declared.error.ErrorKind.TheVariants.{Eof, InvalidRecord}
use Rattle.perf_base.specs.declared.error.ErrorKind.TheVariants.{UnsupportedConfig, UnsupportedData}
use Rattle.perf_base.specs.declared.error.ErrorKind.TheVariants.{External, OutOfMemory}

-- the number of bytes between the two states
abbrev pub bytes_between : Source → Source → ℕ
bytes_between old new = length old.left - length new.left

-- some bytes were taken from the front
abbrev pub Moves : Source → Source → Type 0
Moves old new = (length new.left ≤ length old.left) × (new.left ≡ drop (bytes_between old new) old.left)

-- a prefix of the next n bytes was taken
abbrev pub MovesWithin : Source → ℕ → Source → Type 0
MovesWithin old n new = (length old.left ≤ length new.left + n) × Moves old new

-- exactly n bytes were taken
abbrev pub Takes : Source → ℕ → Source → Type 0
Takes old n new = (n ≤ length old.left) × (new.left ≡ drop n old.left)

-- What a refused read of n bytes took: all that was left, if that is too little; after a fault a
-- prefix.
abbrev pub FailsToTake : Source → ℕ → ErrorKind → Source → Type 0
FailsToTake old n Eof new = (length old.left < n) × (new.left ≡ [])
FailsToTake old n External new = MovesWithin old n new
FailsToTake old n InvalidRecord new = ⊥
FailsToTake old n UnsupportedConfig new = ⊥
FailsToTake old n UnsupportedData new = ⊥
FailsToTake old n OutOfMemory new = ⊥

-- The same for a read that keeps the bytes, which may also be out of memory.
abbrev pub FailsToKeep : Source → ℕ → ErrorKind → Source → Type 0
FailsToKeep old n Eof new = (length old.left < n) × (new.left ≡ [])
FailsToKeep old n External new = MovesWithin old n new
FailsToKeep old n InvalidRecord new = ⊥
FailsToKeep old n UnsupportedConfig new = ⊥
FailsToKeep old n UnsupportedData new = ⊥
FailsToKeep old n OutOfMemory new = MovesWithin old n new

-- what a refused read of all that is left took
abbrev pub FailsInRest : Source → ErrorKind → Source → Type 0
FailsInRest old Eof new = ⊥
FailsInRest old External new = Moves old new
FailsInRest old InvalidRecord new = ⊥
FailsInRest old UnsupportedConfig new = ⊥
FailsInRest old UnsupportedData new = ⊥
FailsInRest old OutOfMemory new = Moves old new

-- a fault comes only from a buffer that can fault
abbrev pub CanFail : Source → Option ErrorKind → Type 0
CanFail old None = Unit {0}
CanFail old (Some Eof) = Unit {0}
CanFail old (Some InvalidRecord) = Unit {0}
CanFail old (Some UnsupportedConfig) = Unit {0}
CanFail old (Some UnsupportedData) = Unit {0}
CanFail old (Some External) = IsTrue old.can_fault
CanFail old (Some OutOfMemory) = Unit {0}

-- n bytes were taken at once, and are in out; or nothing was taken
abbrev pub TakesAtOnce : Source → ℕ → Bool → List ℕ → Source → Type 0
TakesAtOnce old n true out new = Takes old n new × (out ≡ take n old.left)
TakesAtOnce old n false out new = new.left ≡ old.left
