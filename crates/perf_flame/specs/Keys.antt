-- The stacks of a flame graph, by keys whose order is that of their frames.
use Rattle.std.specs.Prelude.{ℕ, Bool, ◌==◌, if◌then◌else◌, List, [], ◌∷◌, ◌++◌, map, reverse}
use Rattle.std.specs.List.{flat_map, slice_split}
use Rattle.perf_flame.specs.Lines.{Line, stack_line, add_lines}
use Rattle.perf_flame.specs.Stacks.{clean}

-- the key of a frame: its name, and a byte below all others of keys
abbrev pub frame_key : List ℕ → List ℕ
frame_key name = map clean name ++ 0 ∷ []

-- the frames of a stack, or the same from the innermost to the outermost
abbrev pub frames_of : (inverted : Bool) → List ℕ → List (List ℕ)
frames_of inverted stack =
    if inverted then reverse (slice_split (λ b. b == 59) stack) else slice_split (λ b. b == 59) stack

-- the key of a stack: those of its frames
abbrev pub key_of : (inverted : Bool) → List ℕ → List ℕ
key_of inverted stack = flat_map frame_key (frames_of inverted stack)

-- a line by its key
abbrev pub key_line : (inverted : Bool) → Line → Line
key_line inverted l = stack_line (key_of inverted l.stack) l.count

-- lines by their keys, in the order of these
abbrev pub by_frames : (inverted : Bool) → List Line → List Line
by_frames inverted lines = add_lines [] (map (key_line inverted) lines)
