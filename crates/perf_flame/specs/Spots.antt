-- What the names of frames are made of.
use Rattle.std.specs.Prelude.{ℕ, List, ◌++◌, codes}
use Rattle.perf_flame.specs.Names.{file_name, kernel_name, offset_text}
use Rattle.perf_flame.specs.declared.kept.Spot.{Spot}
use Rattle.perf_flame.specs.declared.kept.Spot.TheVariants.{Kernel, Placed, Whole, Unknown}

-- the name of a frame: an address of the kernel, a file and an offset there, a file alone, or nothing
abbrev pub spot_name : Spot → List ℕ
spot_name (Kernel address) = kernel_name address
spot_name (Placed file offset) = file_name file ++ offset_text offset
spot_name (Whole file) = file_name file
spot_name Unknown = codes "[unknown]"
