-- The names of threads.
use Rattle.std.specs.Prelude.{ℕ, Bool, List, ◌++◌, codes, if◌then◌else◌}
use Rattle.perf_history.specs.declared.names.Name.{Name}
use Rattle.perf_history.specs.declared.names.Name.TheVariants.{Given, Number, Swapper}
use Rattle.perf_columns.specs.Columns.{right, signed}

-- the name of a thread that was given none: a colon and its number
abbrev pub number_name : (tid : ℕ) → List ℕ
number_name tid = codes ":" ++ signed tid

-- the name of a thread: the one that it was given, or that of its number
abbrev pub thread_name : Name → List ℕ
thread_name (Given name) = name.now
thread_name (Number tid) = number_name tid
thread_name Swapper = codes "swapper"

-- how wide the column of names is: 16, but as wide as the name before the lines of a chain
abbrev pub name_width : (chained : Bool) → ℕ
name_width chained = if chained then 0 else 16

-- the column of the name
abbrev pub name_column : (chained : Bool) → Name → List ℕ
name_column chained name = right (name_width chained) (thread_name name) ++ codes " "
