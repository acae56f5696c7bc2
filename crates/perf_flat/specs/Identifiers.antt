-- The number by which frames of several events are told apart, if all of these have
-- PERF_SAMPLE_IDENTIFIER: it has the same place in each frame, whatever else its event's sample type
-- contains.
use Rattle.std.specs.Prelude.{◌==◌, ◌&&◌, ◌||◌, ℕ, Bool, List, length, drop, Option, None, nat_le, if◌then◌else◌}
use Rattle.perf_base.specs.Header.{header_of}
use Rattle.perf_base.specs.Order.{Order}
use Rattle.perf_records.specs.FrameNumbers.{identifier_in}
use Rattle.perf_flat.specs.Flat.{first_frame}

-- A whole frame is at the front of bytes: its size counts the header, and so many bytes are there.
abbrev pub has_whole : Order → List ℕ → Bool
has_whole o bytes =
    nat_le 8 (length bytes) && nat_le 8 (header_of o bytes).size
    && nat_le (header_of o bytes).size (length bytes)

-- A frame of that type has the number: a SAMPLE, and another one if all have a sample id.
abbrev pub carries_identifier : (sample_id_all : Bool) → (type : ℕ) → Bool
carries_identifier sample_id_all type = (type == 9) || sample_id_all

-- the bytes after the header of the frame at the front
abbrev pub first_rest : Order → List ℕ → List ℕ
first_rest o bytes = drop 8 (first_frame o bytes)

-- the number of the frame at the front: that of its header and of the bytes after that
abbrev pub first_identifier : Order → (sample_id_all : Bool) → List ℕ → Option ℕ
first_identifier o sample_id_all bytes =
    if has_whole o bytes && carries_identifier sample_id_all (header_of o bytes).type_
    then identifier_in o (header_of o bytes) (first_rest o bytes) else None
