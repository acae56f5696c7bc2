-- The flame graph of lines.
use Rattle.std.specs.Prelude.{◌≡◌, ℕ, ◌^◌, ◌<◌, ◌≤◌, Bool, List, Result, Ok, Err}
use Rattle.std.specs.Global.{Vec}
use Rattle.perf_flame.specs.Keys.{by_frames}
use Rattle.perf_flame.specs.Lines.{Line, total_of}
use Rattle.perf_flame.specs.Svg.{flame_text}
use Rattle.perf_flame.specs.declared.error.FlameError.{FlameError}
use Rattle.perf_flame.specs.declared.error.FlameError.TheVariants as errors

-- the text of a flame graph, unless the sum of all counts does not fit 64 bits
abbrev pub IsFlame : (inverted : Bool) → List Line → Result (Vec ℕ) FlameError → Type 0
IsFlame inverted lines (Ok text) = (total_of (by_frames inverted lines) < 2 ^ 64) × (text.items ≡ flame_text (by_frames inverted lines))
IsFlame inverted lines (Err errors.TooMany) = 2 ^ 64 ≤ total_of (by_frames inverted lines)
IsFlame inverted lines (Err errors.OutOfMemory) = Unit {0}
