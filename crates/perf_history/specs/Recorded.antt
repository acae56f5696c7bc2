-- What a history has recorded.
use Rattle.std.specs.Prelude.{◌≡◌, ℕ, ◌<◌, ◌^◌, ◌==◌, ◌&&◌, List, Option, slice_get, option_and_then, if◌then◌else◌}
use Rattle.std.specs.Borrow.{Bor}
use Rattle.std.specs.BTreeMap.{get}
use Rattle.std.specs.Ordering.{nat_cmp}
use Rattle.perf_history.specs.Forks.{origin}
use Rattle.perf_history.specs.Histories.{name_after, mapping_after}
use Rattle.perf_history.specs.Ranges.{is_within}
use Rattle.perf_history.specs.Spaces.{number_at}
use Rattle.perf_history.specs.declared.changes.Change.{Change}
use Rattle.perf_history.specs.declared.changes.Fork.{Fork}
use Rattle.perf_history.specs.declared.histories.History.{History}
use Rattle.perf_history.specs.declared.places.Mapping.{Mapping}

-- the name that it has of a thread
abbrev pub name_in : History → (tid : ℕ) → Option (Bor (List ℕ))
name_in history tid = option_and_then (λ name. name) (get nat_cmp history.names tid)

-- the mapping that it has at an address
abbrev pub mapping_in : History → (space address : ℕ) → Option Mapping
mapping_in history space address = option_and_then (slice_get history.mappings.items) (number_at history.spaces space address)

-- it has names of these, and has at each address what they left there
pub record IsHistory (history : History) (changes : List Change) : Type 0 where
  pub names : (tid : ℕ) → name_in history tid ≡ name_after changes tid
  pub places : (space address : ℕ) → address < 2 ^ 64 → mapping_in history space address ≡ mapping_after changes space address

-- nothing has changed
pub record IsSame (old new : History) : Type 0 where
  pub names : (tid : ℕ) → name_in new tid ≡ name_in old tid
  pub places : (space address : ℕ) → address < 2 ^ 64 → mapping_in new space address ≡ mapping_in old space address

-- a thread has a name, or none, and nothing else has changed
pub record Names (tid : ℕ) (name : Option (Bor (List ℕ))) (old new : History) : Type 0 where
  pub names : (other : ℕ) → name_in new other ≡ (if tid == other then name else name_in old other)
  pub places : (space address : ℕ) → address < 2 ^ 64 → mapping_in new space address ≡ mapping_in old space address

-- there is a mapping, or none, in a range, and nothing else has changed
pub record Sets (space start len : ℕ) (mapping : Option Mapping) (old new : History) : Type 0 where
  pub names : (tid : ℕ) → name_in new tid ≡ name_in old tid
  pub places : (other address : ℕ) → address < 2 ^ 64 → mapping_in new other address ≡ (if space == other && is_within start len address then mapping else mapping_in old other address)

-- an address space is as another one was, and nothing else has changed
pub record Copies (from to : ℕ) (old new : History) : Type 0 where
  pub names : (tid : ℕ) → name_in new tid ≡ name_in old tid
  pub places : (other address : ℕ) → address < 2 ^ 64 → mapping_in new other address ≡ (if to == other then mapping_in old from address else mapping_in old other address)

-- a new process has the memory of its parent, if it is one that has, and nothing else has changed
pub record Inherits (fork : Fork) (old new : History) : Type 0 where
  pub names : (tid : ℕ) → name_in new tid ≡ name_in old tid
  pub places : (space address : ℕ) → address < 2 ^ 64 → mapping_in new space address ≡ mapping_in old (origin fork space) address

-- a thread was made, perhaps with a process, and nothing else has changed
pub record Forks (fork : Fork) (old new : History) : Type 0 where
  pub names : (tid : ℕ) → name_in new tid ≡ (if fork.tid == tid then name_in old fork.ptid else name_in old tid)
  pub places : (space address : ℕ) → address < 2 ^ 64 → mapping_in new space address ≡ mapping_in old (origin fork space) address
