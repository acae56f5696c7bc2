-- What is kept of a mapping, and what is at an address of it.
use Rattle.std.specs.Prelude.{ℕ, ◌+◌, ◌-◌, ◌%◌, ◌^◌, ◌&&◌, false, true, if◌then◌else◌}
use Rattle.perf_history.specs.FileNames.{keeps_address}
use Rattle.perf_history.specs.declared.changes.Identity.TheVariants.{Unknown}
use Rattle.perf_history.specs.declared.changes.Map.{Map}
use Rattle.perf_history.specs.declared.changes.Symbol.{Symbol}
use Rattle.perf_history.specs.declared.places.File.{File}
use Rattle.perf_history.specs.declared.places.File.TheVariants as files
use Rattle.perf_history.specs.declared.places.Mapping.{Mapping}
use Rattle.perf_history.specs.declared.places.Place.{Place}

-- in which file a mapping is: code that is in no file is in the process's list of such code
abbrev pub file_of : Map → File
file_of m = if keeps_address m.file.now && m.executable then files.PerfMap m.pid else files.Named m.file

-- a mapping
abbrev pub mapping_of : Map → Mapping
mapping_of m = record {
  start = m.start;
  offset = m.offset;
  by_address = keeps_address m.file.now;
  file = file_of m;
  identity = m.identity;
  executable = m.executable;
}

-- a symbol of the kernel, in which offsets are from its start
abbrev pub mapping_of_symbol : Symbol → Mapping
mapping_of_symbol s = record {
  start = s.start;
  offset = 0;
  by_address = false;
  file = files.Symbol s.name;
  identity = Unknown;
  executable = true;
}

-- what is at an address of a mapping
abbrev pub place_in : Mapping → (address : ℕ) → Place
place_in m address = record {
  file = m.file;
  offset = if m.by_address then address else (address - m.start + m.offset) % 2 ^ 64;
  identity = m.identity;
  executable = m.executable;
}
