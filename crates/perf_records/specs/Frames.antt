-- Frames: how a stream is divided, each frame by the size in its header (`struct
-- perf_event_header`). A list of bytes is cut into the bytes of its frames. Nothing here has a
-- position or a state.
use Rattle.std.specs.Prelude.{ℕ, zero, suc, List, [], ◌∷◌, length, take, drop, nat_lt}
use Rattle.std.specs.Prelude.{if◌then◌else◌}
use Rattle.perf_base.specs.Order.{Order}
pub use Rattle.perf_reader.specs.Headers.{frame_length}

-- The bytes of the first n frames. A frame begins wherever eight bytes are left, and the next one
-- begins at its end. The last one may be unfinished: its header then states a size beyond its end.
abbrev pub first_frames : Order → ℕ → List ℕ → List (List ℕ)
first_frames o zero bytes = []
first_frames o (suc n) bytes =
    if nat_lt (length bytes) 8 then []
    else take (frame_length o bytes) bytes ∷ first_frames o n (drop (frame_length o bytes) bytes)

-- All frames: there are no more of them than bytes.
abbrev pub frames : Order → List ℕ → List (List ℕ)
frames o bytes = first_frames o (length bytes) bytes

-- the bytes after the first n frames
abbrev pub drop_frames : Order → ℕ → List ℕ → List ℕ
drop_frames o zero bytes = bytes
drop_frames o (suc n) bytes = drop_frames o n (drop (frame_length o bytes) bytes)

-- how a stream ends: at the end of a frame, or inside a header
pub data StreamEnd : Type 0 where
  done cut_header : StreamEnd

-- the end, by how many bytes there are after the last frame
abbrev pub end_with : ℕ → StreamEnd
end_with zero = done
end_with (suc n) = cut_header

-- how a stream ends, by what is left after its last frame
abbrev pub stream_end : Order → List ℕ → StreamEnd
stream_end o bytes = end_with (length (drop_frames o (length (frames o bytes)) bytes))
