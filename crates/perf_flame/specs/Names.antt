-- The names of threads and of frames.
use Rattle.std.specs.Prelude.{ℕ, ◌-◌, ◌==◌, not, List, ◌++◌, length, drop, codes, decimal, Option, Some, None}
use Rattle.std.specs.List.{suffix_len}
use Rattle.perf_text.specs.Numbers.{hex}
use Rattle.perf_history.specs.declared.changes.Mode.{Mode}
use Rattle.perf_history.specs.declared.changes.Mode.TheVariants.{Kernel, User, Other}
use Rattle.perf_history.specs.declared.names.Name.{Name}
use Rattle.perf_history.specs.declared.names.Name.TheVariants.{Given, Number, Swapper}
use Rattle.perf_history.specs.declared.places.File.{File}
use Rattle.perf_history.specs.declared.places.File.TheVariants.{Named, PerfMap, Symbol}
use Rattle.perf_history.specs.declared.places.Place.{Place}
use Rattle.perf_flame.specs.declared.names.Frames.{Frames}
use Rattle.perf_flame.specs.declared.names.Frames.TheVariants.{Offsets, Files}

-- a thread without a name: a colon and its number
abbrev pub number_name : ℕ → List ℕ
number_name tid = codes ":" ++ decimal tid

-- the name of a thread
abbrev pub thread_name : Name → List ℕ
thread_name (Given name) = name.now
thread_name (Number tid) = number_name tid
thread_name Swapper = codes "swapper"

-- where the last part of a path begins: after its last slash, or at 0 if it has none
abbrev pub last_at : List ℕ → ℕ
last_at path = length path - suffix_len (λ b. not (b == 47)) path

-- the last part of a path
abbrev pub last_part : List ℕ → List ℕ
last_part path = drop (last_at path) path

-- the file that lists the code which a process made
abbrev pub perf_map_name : ℕ → List ℕ
perf_map_name pid = codes "perf-" ++ (decimal pid ++ codes ".map")

-- the name of a file
abbrev pub file_name : File → List ℕ
file_name (Named path) = last_part path.now
file_name (PerfMap pid) = perf_map_name pid
file_name (Symbol name) = name.now

-- an offset
abbrev pub offset_text : ℕ → List ℕ
offset_text offset = codes "+" ++ hex offset

-- a place: its file, and the offset there
abbrev pub place_name : Frames → Place → List ℕ
place_name Offsets p = file_name p.file ++ offset_text p.offset
place_name Files p = file_name p.file

-- an address of the kernel
abbrev pub kernel_name : ℕ → List ℕ
kernel_name address = hex address ++ codes "_[k]"

-- an address outside the kernel, by what is mapped there
abbrev pub mapped_name : Frames → Option Place → List ℕ
mapped_name frames (Some p) = place_name frames p
mapped_name frames None = codes "[unknown]"

-- an address, by what is mapped there
abbrev pub frame_name : Frames → Mode → (address : ℕ) → Option Place → List ℕ
frame_name frames Kernel address place = kernel_name address
frame_name frames User address place = mapped_name frames place
frame_name frames Other address place = mapped_name frames place
