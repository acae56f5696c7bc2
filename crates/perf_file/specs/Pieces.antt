-- The frames of a file, each with its payload and its owner.
use Rattle.std.specs.Prelude.{ℕ, zero, suc, ◌≡◌, ◌<◌, ◌+◌, ◌-◌, ◌*◌, ◌/◌, ◌==◌, ◌&&◌, List, [], ◌∷◌, ◌++◌, flat_map, length, take, drop, nat_lt, nat_le, Option, Some, None, option_map, if◌then◌else◌, true}
use Rattle.perf_base.specs.Dynamic.{order_of}
use Rattle.perf_base.specs.Order.{Order}
use Rattle.perf_base.specs.declared.sys.perf_event_header.{perf_event_header}
use Rattle.perf_reader.specs.Headers.{frame_length}
use Rattle.perf_records.specs.Sights.{Sight, whole, bad, sight_of, sight_in}
use Rattle.perf_sections.specs.Opened.{File}
use Rattle.perf_file.specs.Owners.{owner_of_sight}
use Rattle.perf_file.specs.declared.listing.FileFrame.{FileFrame}
use Rattle.perf_file.specs.declared.owning.Owner.{Owner}

-- the number of the first eight bytes, 0 if there are fewer
abbrev pub first_u64 : Order → List ℕ → ℕ
first_u64 o bytes = if nat_le 8 (length bytes) then o.eight (take 8 bytes) else 0

-- the number of the first four bytes, 0 if there are fewer
abbrev pub first_u32 : Order → List ℕ → ℕ
first_u32 o bytes = if nat_le 4 (length bytes) then o.four (take 4 bytes) else 0

-- How many bytes after a frame are no frames: AUXTRACE states it in its first number, TRACING_DATA
-- in its first, rounded up to a multiple of eight.
abbrev pub payload_length : Order → Sight → ℕ
payload_length o (whole h bytes borrowed) =
    if h.type_ == 71 then first_u64 o bytes
    else (if h.type_ == 66 then (first_u32 o bytes + 7) / 8 * 8 else 0)
payload_length o (bad h e) = 0

-- the header of what is found
abbrev pub header_seen : Sight → perf_event_header
header_seen (whole h bytes borrowed) = h
header_seen (bad h e) = h

-- how many bytes a frame with that header takes, at least its own
abbrev pub size_of : perf_event_header → ℕ
size_of h = if nat_lt h.size 8 then 8 else h.size

-- the first bytes, at most so many
abbrev pub take_most : ℕ → List ℕ → List ℕ
take_most n bytes = if nat_lt n (length bytes) then take n bytes else bytes

-- the bytes after these
abbrev pub drop_most : ℕ → List ℕ → List ℕ
drop_most n bytes = if nat_lt n (length bytes) then drop n bytes else []

-- a frame: its offset in the file, what is found there, its payload, and its owner
pub record Piece : Type 0 where
  pub at : ℕ
  pub frame : Sight
  pub payload : List ℕ
  pub owner : Owner

-- a frame of the code
abbrev pub piece_of : FileFrame → Piece
piece_of f = record { at = f.at; frame = sight_of f.frame; payload = f.payload.now; owner = f.owner }

-- the offset in the file at which so many bytes of its frames are left
abbrev pub place_in : File → List ℕ → ℕ
place_in f bytes = f.start + (length f.frames - length bytes)

-- the bytes after the first frame, of which its payload is the beginning
abbrev pub after_frame : Order → List ℕ → List ℕ
after_frame o bytes = drop_most (frame_length o bytes) bytes

-- the first frame of these bytes, which are left of the frames of a file
abbrev pub piece_in : File → List ℕ → Piece
piece_in f bytes = let found = sight_in (order_of f.order) bytes true in record {
  at = place_in f bytes;
  frame = found;
  payload = take_most (payload_length (order_of f.order) found) (after_frame (order_of f.order) bytes);
  owner = owner_of_sight f found;
}

-- the bytes after it and its payload
abbrev pub after_piece : Order → List ℕ → List ℕ
after_piece o bytes = drop_most (payload_length o (sight_in o bytes true)) (after_frame o bytes)

-- the first n frames of these bytes
abbrev pub first_pieces : File → ℕ → List ℕ → List Piece
first_pieces f zero bytes = []
first_pieces f (suc n) bytes =
    if nat_lt (length bytes) 8 then []
    else piece_in f bytes ∷ first_pieces f n (after_piece (order_of f.order) bytes)

-- all of them: there are no more than bytes
abbrev pub pieces : File → List ℕ → List Piece
pieces f bytes = first_pieces f (length bytes) bytes

-- the frames of a file
abbrev pub pieces_of : File → List Piece
pieces_of f = pieces f f.frames

-- The bytes of a frame and its payload: from its offset on as many as its header states, or all that
-- are left.
abbrev pub piece_bytes : File → Piece → List ℕ
piece_bytes f p = take_most (size_of (header_seen p.frame)) (drop (p.at - f.start) f.frames) ++ p.payload

-- joined, and with fewer bytes at the end than a header has, the frames are the data
abbrev pub AreTheData : File → List Piece → Type 0
AreTheData f found =
    (rest : List ℕ) × (length rest < 8) × (flat_map (piece_bytes f) found ++ rest ≡ f.frames)

-- what is left of the frames of a file at an offset of the file, if that is at least a header
abbrev pub left_at : File → ℕ → Option (List ℕ)
left_at f at =
    if nat_le f.start at && nat_le (at - f.start + 8) (length f.frames)
    then Some (drop (at - f.start) f.frames)
    else None

-- the frame at an offset of the file
abbrev pub piece_at : File → ℕ → Option Piece
piece_at f at = option_map (piece_in f) (left_at f at)
