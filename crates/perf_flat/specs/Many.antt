-- Several frames at once: what flat frames state of the first frames of bytes, and how that ends.
use Rattle.std.specs.Prelude.{ℕ, List, [], ◌∷◌, length, sum_by, nat_lt, if◌then◌else◌}
use Rattle.perf_base.specs.Configuration.{Configuration}
use Rattle.perf_base.specs.Order.{Order}
use Rattle.perf_records.specs.Frames.{first_frames, frames, StreamEnd, done, cut_header, stream_end}
use Rattle.perf_flat.specs.Flat.{IsFlat}
use Rattle.perf_flat.specs.declared.frame.FlatFrame.{FlatFrame}

-- these flat frames state what these frames contain, each that of the frame at its place
abbrev pub AreFlat : Configuration → Order → List (List ℕ) → List FlatFrame → Type 0
AreFlat c o [] [] = Unit {0}
AreFlat c o (frame ∷ more) (f ∷ fs) = IsFlat c o frame f × AreFlat c o more fs
AreFlat c o [] (f ∷ fs) = ⊥
AreFlat c o (frame ∷ more) [] = ⊥

-- how many bytes the first n frames have: of an unfinished one those that are left
abbrev pub first_bytes : Order → ℕ → List ℕ → ℕ
first_bytes o n bytes = sum_by length (first_frames o n bytes)

-- the end of a stream as a number
abbrev pub end_code : StreamEnd → ℕ
end_code done = 1
end_code cut_header = 2

-- How reading into room for so many frames ends, as a number: 0 if all of the room is used, or else
-- by how the stream ends.
abbrev pub many_end : Order → (room : ℕ) → List ℕ → ℕ
many_end o room bytes =
    if nat_lt (length (frames o bytes)) room then end_code (stream_end o bytes) else 0
