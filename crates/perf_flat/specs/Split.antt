-- A frame in two pieces, as in a ring buffer that wraps: whether it is read, and where its spans are.
use Rattle.std.specs.Prelude.{◌++◌, ◌==◌, ◌&&◌, ℕ, Bool, List, length, drop, nat_lt, if◌then◌else◌}
use Rattle.perf_base.specs.Order.{Order}
use Rattle.perf_flat.specs.Flat.{first_frame}

-- the bytes of the frame at the front of both pieces
abbrev pub split_frame : Order → (first second : List ℕ) → List ℕ
split_frame o first second = first_frame o (first ++ second)

-- it has bytes of both pieces
abbrev pub is_in_both : Order → (first second : List ℕ) → Bool
is_in_both o first second =
    nat_lt 0 (length first) && nat_lt (length first) (length (split_frame o first second))

-- Whether it is read, as a number: 0 if it is; 1 if there are no bytes; 2 if there are fewer than a
-- header has; 3 if it is in both pieces, and longer than the room to copy it.
abbrev pub split_how : Order → (first second : List ℕ) → (room : ℕ) → ℕ
split_how o first second room =
    if nat_lt (length (first ++ second)) 8
    then (if length (first ++ second) == 0 then 1 else 2)
    else (if is_in_both o first second && nat_lt room (length (split_frame o first second)) then 3 else 0)

-- where its spans count from, as a number: 1 if it is read and copied, 0 if not
abbrev pub split_at : Order → (first second : List ℕ) → (how : ℕ) → ℕ
split_at o first second how = if how == 0 && is_in_both o first second then 1 else 0

-- the bytes that its spans count in: those of the copy, or of the first piece that is not empty
abbrev pub span_bytes : (place : ℕ) → (first second scratch : List ℕ) → List ℕ
span_bytes place first second scratch =
    if place == 1 then scratch else (if length first == 0 then second else first)

-- what the room for a copy has afterwards: the frame at its front, if that is copied
abbrev pub copied_to : (place : ℕ) → (frame scratch : List ℕ) → List ℕ
copied_to place frame scratch =
    if place == 1 then frame ++ drop (length frame) scratch else scratch
