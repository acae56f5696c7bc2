-- What is mapped at an address, as it is named.
use Rattle.std.specs.Prelude.{ℕ, Bool, List, [], ◌++◌, codes, decimal, nat_eq, Option, Some, None, if◌then◌else◌}
use Rattle.std.specs.List.{starts_with}
use Rattle.perf_history.specs.declared.changes.Mode.{Mode}
use Rattle.perf_history.specs.declared.changes.Mode.TheVariants.{Kernel, User, Other}
use Rattle.perf_history.specs.declared.places.File.{File}
use Rattle.perf_history.specs.declared.places.File.TheVariants.{Named, PerfMap, Symbol}
use Rattle.perf_history.specs.declared.places.Place.{Place}

-- the file that lists the code which a process made
abbrev pub perf_map_path : (pid : ℕ) → List ℕ
perf_map_path pid = codes "/tmp/perf-" ++ (decimal pid ++ codes ".map")

-- the name of the kernel's own code, which is mapped under this name and a symbol after it
abbrev pub kernel_path : List ℕ → List ℕ
kernel_path path = if starts_with nat_eq path (codes "[kernel.kallsyms") then codes "[kernel.kallsyms]" else path

-- the name of what is mapped under a path
abbrev pub path_name : Mode → List ℕ → List ℕ
path_name Kernel path = kernel_path path
path_name User path = path
path_name Other path = path

-- the name of a file
abbrev pub file_name : Mode → File → List ℕ
file_name mode (Named path) = path_name mode path.now
file_name mode (PerfMap pid) = perf_map_path pid
file_name mode (Symbol name) = name.now

-- of what is at an address
abbrev pub place_name : Mode → Option Place → List ℕ
place_name mode (Some p) = file_name mode p.file
place_name mode None = codes "[unknown]"

-- the same in brackets, after a space
abbrev pub place_column : Mode → Option Place → List ℕ
place_column mode place = codes " (" ++ (place_name mode place ++ codes ")")

-- the same, if it is chosen
abbrev pub place_column_if : (chosen : Bool) → Mode → Option Place → List ℕ
place_column_if chosen mode place = if chosen then place_column mode place else []

-- the address that a chain shows: the kernel's as it is, another one as the offset in its file
abbrev pub shown_address : Mode → (address : ℕ) → Option Place → ℕ
shown_address Kernel address place = address
shown_address User address (Some p) = p.offset
shown_address User address None = address
shown_address Other address (Some p) = p.offset
shown_address Other address None = address
