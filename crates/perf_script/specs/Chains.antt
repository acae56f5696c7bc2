-- The lines of a call chain.
use Rattle.std.specs.Prelude.{ℕ, Bool, List, ◌++◌, codes}
use Rattle.std.specs.List.{flat_map}
use Rattle.perf_history.specs.Histories.{place_of}
use Rattle.perf_history.specs.declared.changes.Change.{Change}
use Rattle.perf_history.specs.declared.changes.Mode.{Mode}
use Rattle.perf_history.specs.declared.places.Place.{Place}
use Rattle.perf_walk.specs.declared.calls.Call.{Call}
use Rattle.perf_columns.specs.Columns.{address_column}
use Rattle.perf_columns.specs.Files.{place_column_if, shown_address}
use Rattle.std.specs.Prelude.{Option}

-- the line of an address, by what is there, which is named or not
abbrev pub placed_line : (with_place : Bool) → Mode → (address : ℕ) → Option Place → List ℕ
placed_line with_place mode address place =
    codes "\t" ++ (address_column (shown_address mode address place) ++ (place_column_if with_place mode place ++ codes "\n"))

-- the line of a call of a process
abbrev pub call_line : (with_place : Bool) → List Change → (pid : ℕ) → Call → List ℕ
call_line with_place known pid call = placed_line with_place call.mode call.address (place_of known pid call.mode call.address)

-- those of a chain
abbrev pub call_lines : (with_place : Bool) → List Change → (pid : ℕ) → List Call → List ℕ
call_lines with_place known pid calls = flat_map (call_line with_place known pid) calls
