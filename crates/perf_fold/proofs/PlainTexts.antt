-- The names of threads and frames depend on the bytes of byte strings alone.
use Rattle.std.proofs.Common.{◌≡◌, ℕ, ◌++◌, refl, ap}
use Rattle.std.specs.Prelude.{Option, Some, None, option_map}
use Rattle.perf_flame.specs.Names.{thread_name, file_name, offset_text, place_name, mapped_name, frame_name}
use Rattle.perf_flame.specs.declared.names.Frames.{Frames}
use Rattle.perf_flame.specs.declared.names.Frames.TheVariants.{Offsets, Files}
use Rattle.perf_history.specs.declared.changes.Mode.{Mode}
use Rattle.perf_history.specs.declared.changes.Mode.TheVariants.{Kernel, User, Other}
use Rattle.perf_history.specs.declared.names.Name.{Name}
use Rattle.perf_history.specs.declared.names.Name.TheVariants.{Given, Number, Swapper}
use Rattle.perf_history.specs.declared.places.File.{File}
use Rattle.perf_history.specs.declared.places.File.TheVariants.{Named, PerfMap, Symbol}
use Rattle.perf_history.specs.declared.places.Place.{Place}
use Rattle.perf_walk.specs.Plain.{plain_name, plain_file, plain_place}

pub thread_same : (n : Name) → thread_name n ≡ thread_name (plain_name n)
thread_same (Given name) = refl
thread_same (Number tid) = refl
thread_same Swapper = refl

file_same : (f : File) → file_name f ≡ file_name (plain_file f)
file_same (Named path) = refl
file_same (PerfMap pid) = refl
file_same (Symbol name) = refl

place_same : (frames : Frames) (p : Place) → place_name frames p ≡ place_name frames (plain_place p)
place_same Offsets p = ap (λ text. text ++ offset_text p.offset) (file_same p.file)
place_same Files p = file_same p.file

mapped_same : (frames : Frames) (p : Option Place) → mapped_name frames p ≡ mapped_name frames (option_map plain_place p)
mapped_same frames (Some p) = place_same frames p
mapped_same frames None = refl

pub frame_same : (frames : Frames) (mode : Mode) (address : ℕ) (p : Option Place) → frame_name frames mode address p ≡ frame_name frames mode address (option_map plain_place p)
frame_same frames Kernel address p = refl
frame_same frames User address p = mapped_same frames p
frame_same frames Other address p = mapped_same frames p
