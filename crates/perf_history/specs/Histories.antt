-- The history of a recording: the changes so far, of which the newest is the first. What it states about
-- a thread and an address is found by going back in time.
use Rattle.std.specs.Prelude.{ℕ, ◌==◌, ◌&&◌, List, [], ◌∷◌, Option, Some, None, option_map, option_and_then, if◌then◌else◌}
use Rattle.std.specs.Borrow.{Bor}
use Rattle.perf_history.specs.Forks.{origin}
use Rattle.perf_history.specs.Modes.{kernel, space_of, space_at}
use Rattle.perf_history.specs.Names.{name_or_number}
use Rattle.perf_history.specs.Places.{mapping_of, mapping_of_symbol, place_in}
use Rattle.perf_history.specs.Ranges.{is_within}
use Rattle.perf_history.specs.declared.changes.Change.{Change}
use Rattle.perf_history.specs.declared.changes.Change.TheVariants.{Comm, Fork, Map, Symbol}
use Rattle.perf_history.specs.declared.changes.Mode.{Mode}
use Rattle.perf_history.specs.declared.changes.Symbol as symbols
use Rattle.perf_history.specs.declared.names.Name.{Name}
use Rattle.perf_history.specs.declared.places.Mapping.{Mapping}
use Rattle.perf_history.specs.declared.places.Place.{Place}

-- the name that a thread was given: its last one, or that of its parent when it was made
abbrev pub name_after : List Change → (tid : ℕ) → Option (Bor (List ℕ))
name_after [] tid = None
name_after (Comm c ∷ older) tid = if c.tid == tid then Some c.name else name_after older tid
name_after (Fork f ∷ older) tid = if f.tid == tid then name_after older f.ptid else name_after older tid
name_after (Map m ∷ older) tid = name_after older tid
name_after (Symbol s ∷ older) tid = name_after older tid

-- what a symbol leaves at its addresses
abbrev pub symbol_or_none : symbols.Symbol → Option Mapping
symbol_or_none s = if s.removed then None else Some (mapping_of_symbol s)

-- what is mapped at an address of an address space: the last thing that was mapped there
abbrev pub mapping_after : List Change → (space address : ℕ) → Option Mapping
mapping_after [] space address = None
mapping_after (Comm c ∷ older) space address = mapping_after older space address
mapping_after (Fork f ∷ older) space address = mapping_after older (origin f space) address
mapping_after (Map m ∷ older) space address =
    if space_of m.mode m.pid == space && is_within m.start m.len address then Some (mapping_of m) else mapping_after older space address
mapping_after (Symbol s ∷ older) space address =
    if kernel == space && is_within s.start s.len address then symbol_or_none s else mapping_after older space address

-- the name of a thread
abbrev pub name_of : List Change → (tid : ℕ) → Name
name_of changes tid = name_or_number (name_after changes tid) tid

-- what is at an address where a process runs
abbrev pub place_of : List Change → (pid : ℕ) → Mode → (address : ℕ) → Option Place
place_of changes pid mode address =
    option_and_then (λ space. option_map (λ m. place_in m address) (mapping_after changes space address)) (space_at mode pid)
