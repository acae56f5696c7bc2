-- A buffer: the bytes that are left in it, and what its calls show, refuse and take.
use Rattle.std.specs.Prelude.{Option, Result, ◌≡◌, ℕ, ◌+◌, ◌<◌, Bool, true, false, IsTrue, List, []}
use Rattle.std.specs.Prelude.{length, drop, Ok, Err, Some, None, IfOk, IfErr, IsOkAnd, ◌≢◌}
use Rattle.std.specs.Io.{StartsWith}
use Rattle.perf_base.specs.Errors.{kind_of}
use Rattle.perf_base.specs.declared.error.ErrorKind.{ErrorKind}
use Rattle.perf_base.specs.declared.error.ErrorKind.TheVariants.{Eof, InvalidRecord}
use Rattle.perf_base.specs.declared.error.ErrorKind.TheVariants.{UnsupportedConfig, UnsupportedData}
use Rattle.perf_base.specs.declared.error.ErrorKind.TheVariants.{External, OutOfMemory}
use Rattle.perf_base.specs.declared.error.ParseError.{ParseError}
use Rattle.perf_buffers.specs.declared.parsebuf.ParseBufChunk.{ParseBufChunk}
use Rattle.perf_buffers.specs.declared.parsebuf.ParseBufChunk.TheVariants as chunk

-- The state of a buffer.
pub record Source : Type 0 where
  -- the bytes that are left
  pub left : List ℕ
  -- its bytes are known; otherwise `left` has no meaning
  pub told : Bool
  -- contiguous: each chunk lives as long as the input, and is all that is left
  pub whole : Bool
  -- it may refuse a chunk with a fault
  pub can_fault : Bool
  -- the number of faults it has returned, if it counts them
  pub faults : Option ℕ

-- ---- what `chunk` shows

-- the bytes of a chunk
abbrev pub chunk_bytes : ParseBufChunk → List ℕ
chunk_bytes (chunk.Temporary bytes) = bytes.now
chunk_bytes (chunk.External bytes) = bytes.now

-- it lives as long as the input
abbrev pub chunk_is_borrowed : ParseBufChunk → Bool
chunk_is_borrowed (chunk.Temporary bytes) = false
chunk_is_borrowed (chunk.External bytes) = true

-- A chunk is a non-empty prefix of what is left; of a whole buffer it is borrowed, and all of it.
abbrev pub Shows : Source → ParseBufChunk → Type 0
Shows old c =
    (0 < length (chunk_bytes c)) × (IsTrue old.told → StartsWith old.left (chunk_bytes c))
    × (IsTrue old.whole → (chunk_bytes c ≡ old.left) × IsTrue (chunk_is_borrowed c) × IsTrue old.told)

-- Bytes that are ready are shown again, until `advance` takes them.
abbrev pub ShowsReady : List ℕ → Result ParseBufChunk ParseError → Type 0
ShowsReady ready r = 0 < length ready → IsOkAnd r (λ c. chunk_bytes c ≡ ready)

-- ---- why it refuses

-- the end only if nothing is left, a fault only if there can be one, and nothing else
abbrev pub Refuses : Source → ErrorKind → Type 0
Refuses old Eof = IsTrue old.told → old.left ≡ []
Refuses old External = IsTrue old.can_fault
Refuses old InvalidRecord = ⊥
Refuses old UnsupportedConfig = ⊥
Refuses old UnsupportedData = ⊥
Refuses old OutOfMemory = ⊥

-- the kind with which a call was refused, if it was
abbrev pub kind_if_failed : {A : Type 0} → Result A ParseError → Option ErrorKind
kind_if_failed (Ok x) = None
kind_if_failed (Err e) = Some (kind_of e)

-- the call needs no memory, so it is never out of memory
abbrev pub CallNeedsNoMemory : {A : Type 0} → Result A ParseError → Type 0
CallNeedsNoMemory r = IfErr r (λ e. kind_of e ≢ OutOfMemory)

-- ---- what it leaves

-- one more fault, if they are counted
abbrev pub one_more : Option ℕ → Option ℕ
one_more None = None
one_more (Some n) = Some (n + 1)

-- the count of faults after a call, which only a fault increases
abbrev pub faults_after : Option ℕ → Option ErrorKind → Option ℕ
faults_after n None = n
faults_after n (Some Eof) = n
faults_after n (Some InvalidRecord) = n
faults_after n (Some UnsupportedConfig) = n
faults_after n (Some UnsupportedData) = n
faults_after n (Some External) = one_more n
faults_after n (Some OutOfMemory) = n

-- What every call preserves: a whole buffer stays whole, known bytes stay known, a buffer that
-- cannot fault never can, and faults are counted.
abbrev pub BufferInvariant : Source → Option ErrorKind → Source → Type 0
BufferInvariant old e new =
    (new.whole ≡ old.whole) × (IsTrue new.can_fault → IsTrue old.can_fault)
    × (new.faults ≡ faults_after old.faults e) × (IsTrue old.told → IsTrue new.told)

-- `chunk` takes nothing, and the bytes that it showed are ready.
abbrev pub KeepsChunk : Source → Result ParseBufChunk ParseError → Source → List ℕ → Type 0
KeepsChunk old r new ready =
    BufferInvariant old (kind_if_failed r) new × (IsTrue old.told → new.left ≡ old.left)
    × IfOk r (λ c. ready ≡ chunk_bytes c)

-- `advance` takes n bytes.
abbrev pub Advances : Source → ℕ → Source → Type 0
Advances old n new = BufferInvariant old None new × (IsTrue old.told → new.left ≡ drop n old.left)

-- ---- the bytes of a reader, if they are known

-- the bytes of a reader if known, otherwise none
abbrev pub known_bytes : Option (List ℕ) → List ℕ
known_bytes None = []
known_bytes (Some xs) = xs

-- whether they are known
abbrev pub has_known_bytes : Option (List ℕ) → Bool
has_known_bytes None = false
has_known_bytes (Some xs) = true

-- why a reader with these bytes refuses: the end only if nothing is left
abbrev pub RefusesReader : Option (List ℕ) → ErrorKind → Type 0
RefusesReader old Eof = IsTrue (has_known_bytes old) → known_bytes old ≡ []
RefusesReader old External = Unit {0}
RefusesReader old InvalidRecord = ⊥
RefusesReader old UnsupportedConfig = ⊥
RefusesReader old UnsupportedData = ⊥
RefusesReader old OutOfMemory = ⊥
