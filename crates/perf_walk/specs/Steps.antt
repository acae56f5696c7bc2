-- What a step of a walk gives.
use Rattle.std.specs.Prelude.{◌≡◌, ℕ, List, Option, Some, None, Result, Ok, Err}
use Rattle.std.specs.declared.alloc.AllocError.{AllocError}
use Rattle.std.specs.Borrow.{Bor}
use Rattle.perf_base.specs.Configuration.{Configuration}
use Rattle.perf_base.specs.Dynamic.{order_of}
use Rattle.perf_flat.specs.Flat.{IsFlat}
use Rattle.perf_flat.specs.declared.frame.FlatFrame.{FlatFrame}
use Rattle.perf_sections.specs.Opened.{File}
use Rattle.perf_file.specs.declared.entries.Entry.{Entry}
use Rattle.perf_history.specs.declared.changes.Change.{Change}
use Rattle.perf_walk.specs.Moments.{Moment, frame_at, moment_at, known_after}
use Rattle.perf_walk.specs.Plain.{IsPast}
use Rattle.perf_walk.specs.declared.walk.Found.{Found}
use Rattle.perf_walk.specs.declared.walk.Walk.{Walk}

-- the frame of an entry was read: its bytes, and the flat frame states what they contain; or there is
-- none
abbrev pub Reads : File → Entry → Option (Bor (List ℕ)) → FlatFrame → Type 0
Reads f e (Some bytes) flat = (c : Configuration) × (frame_at f e ≡ Some (c, bytes.now)) × IsFlat c (order_of f.order) bytes.now flat
Reads f e None flat = frame_at f e ≡ None

-- a frame was found: its bytes and its event, and the flat frame states what the bytes contain
pub record IsFrameOf (f : File) (m : Moment) (found : Found) (flat : FlatFrame) : Type 0 where
  pub bytes : found.bytes.now ≡ m.frame
  pub event : found.event ≡ m.event
  pub states : IsFlat m.config (order_of f.order) m.frame flat

-- the frame of a moment was found, or there is none
abbrev pub Finds : File → Option Moment → Option Found → FlatFrame → Type 0
Finds f (Some m) (Some found) flat = IsFrameOf f m found flat
Finds f (Some m) None flat = ⊥
Finds f None (Some found) flat = ⊥
Finds f None None flat = Unit {0}

-- The frame of an entry was found, and after it is known what it states; or memory ran out, and what
-- is known is as before.
abbrev pub Steps : File → Entry → (older : List Change) → Result (Option Found) AllocError → Walk → Type 0
Steps f e older (Ok found) new = Finds f (moment_at f e older) found new.frame × IsPast new.history (known_after f e older)
Steps f e older (Err error) new = IsPast new.history older
