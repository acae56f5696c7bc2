-- Changes whose byte strings are known by their bytes alone, wherever these are.
use Rattle.std.specs.Prelude.{◌≡◌, ℕ, List, map}
use Rattle.std.specs.Borrow.{Bor}
use Rattle.perf_history.specs.Recorded.{IsHistory}
use Rattle.perf_history.specs.declared.changes.Change.{Change}
use Rattle.perf_history.specs.declared.changes.Change.TheVariants.{Comm, Fork, Map, Symbol}
use Rattle.perf_history.specs.declared.changes.Identity.{Identity}
use Rattle.perf_history.specs.declared.changes.Identity.TheVariants.{Unknown, BuildId, Inode}
use Rattle.perf_history.specs.declared.histories.History.{History}
use Rattle.perf_history.specs.declared.names.Name.{Name}
use Rattle.perf_history.specs.declared.names.Name.TheVariants.{Given, Number, Swapper}
use Rattle.perf_history.specs.declared.places.File.{File}
use Rattle.perf_history.specs.declared.places.File.TheVariants as files
use Rattle.perf_history.specs.declared.places.Place.{Place}

-- a byte string by its bytes alone
abbrev pub lent : List ℕ → Bor (List ℕ)
lent bytes = record { ref_ptr = (0, 0); now = bytes }

-- what identifies a file
abbrev pub plain_identity : Identity → Identity
plain_identity Unknown = Unknown
plain_identity (BuildId id) = BuildId (lent id.now)
plain_identity (Inode inode) = Inode inode

-- a change
abbrev pub plain : Change → Change
plain (Comm c) = Comm (record c { name = lent c.name.now })
plain (Fork f) = Fork f
plain (Map m) = Map (record m { file = lent m.file.now; identity = plain_identity m.identity })
plain (Symbol s) = Symbol (record s { name = lent s.name.now })

-- the name of a thread
abbrev pub plain_name : Name → Name
plain_name (Given name) = Given (lent name.now)
plain_name (Number tid) = Number tid
plain_name Swapper = Swapper

-- a file
abbrev pub plain_file : File → File
plain_file (files.Named path) = files.Named (lent path.now)
plain_file (files.PerfMap pid) = files.PerfMap pid
plain_file (files.Symbol name) = files.Symbol (lent name.now)

-- what is at an address
abbrev pub plain_place : Place → Place
plain_place p = record p { file = plain_file p.file; identity = plain_identity p.identity }

-- these changes, the newest first, are what a history has
abbrev pub IsPast : History → List Change → Type 0
IsPast history known = (changes : List Change) × IsHistory history changes × (map plain changes ≡ known)
