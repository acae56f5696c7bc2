-- The frames of entries in turn, each with what is known by then.
use Rattle.std.specs.Prelude.{ℕ, List, [], ◌∷◌, Option, Some, None, option_map, option_and_then}
use Rattle.std.specs.List.{cons_option}
use Rattle.perf_base.specs.Configuration.{Configuration}
use Rattle.perf_base.specs.Dynamic.{order_of}
use Rattle.perf_flat.specs.Flat.{first_frame}
use Rattle.perf_file.specs.Entries.{config_of}
use Rattle.perf_sections.specs.Opened.{File}
use Rattle.perf_file.specs.Pieces.{left_at}
use Rattle.perf_file.specs.declared.entries.Entry.{Entry}
use Rattle.perf_file.specs.declared.owning.Owner.{Owner}
use Rattle.perf_file.specs.declared.owning.Owner.TheVariants as owner
use Rattle.perf_history.specs.declared.changes.Change.{Change}
use Rattle.perf_walk.specs.Changes.{change_of}

-- a frame: the number of its event, how that is read, its bytes, and what is known by then, also by
-- the frame itself: the changes so far, the newest first
pub record Moment : Type 0 where
  pub event : ℕ
  pub config : Configuration
  pub frame : List ℕ
  pub known : List Change

-- the number of an owner's event
abbrev pub event_of : Owner → ℕ
event_of (owner.Event n) = n
event_of owner.Perf = 0
event_of (owner.Unknown id) = 0
event_of owner.Short = 0

-- the moment of a frame, before which these changes are known
abbrev pub moment : File → Owner → Configuration → (frame : List ℕ) → (older : List Change) → Moment
moment f who c frame older = record {
  event = event_of who;
  config = c;
  frame = frame;
  known = cons_option (change_of c (order_of f.order) frame) older;
}

-- how the frame of an entry is read, and its bytes, if it is of an event of the file, and a frame is
-- there
abbrev pub frame_at : File → Entry → Option (Configuration × List ℕ)
frame_at f e =
    option_and_then (λ c. option_map (λ left. (c, first_frame (order_of f.order) left)) (left_at f e.at)) (config_of f e.owner)

-- the moment of an entry, if it has a frame
abbrev pub moment_at : File → Entry → (older : List Change) → Option Moment
moment_at f e older = option_map (λ (found : Configuration × List ℕ). moment f e.owner found.0 found.1 older) (frame_at f e)

-- what is known after an entry
abbrev pub known_after : File → Entry → (older : List Change) → List Change
known_after f e older = elim (moment_at f e older) [ Some m ↦ m.known | None ↦ older ]

-- the moments of entries, before which these changes are known
abbrev pub moments : File → List Entry → (older : List Change) → List Moment
moments f [] older = []
moments f (e ∷ es) older = cons_option (moment_at f e older) (moments f es (known_after f e older))
