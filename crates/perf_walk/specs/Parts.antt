-- The parts of a frame.
use Rattle.std.specs.Prelude.{ℕ, ◌+◌, List, [], length, nat_le, if◌then◌else◌}
use Rattle.perf_base.specs.Layout.{slice}
use Rattle.perf_flat.specs.declared.frame.Span.{Span}

-- the bytes at a span that is inside the frame, or none
abbrev pub bytes_at : List ℕ → Span → List ℕ
bytes_at frame s = if nat_le (s.at + s.len) (length frame) then slice frame s.at s.len else []
