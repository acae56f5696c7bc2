-- The counters in the numbers of a read.
use Rattle.std.specs.Prelude.{ℕ, zero, suc, ◌*◌, ◌/◌, ◌==◌, Bool, List, [], ◌∷◌, drop, length, get_or, take, if◌then◌else◌}
use Rattle.perf_base.specs.Order.{Order}
use Rattle.perf_flat.specs.declared.frame.Span.{Span}
use Rattle.perf_walk.specs.Parts.{bytes_at}
use Rattle.perf_counters.specs.GroupEntry.{block_len}
use Rattle.perf_script.specs.declared.readings.Reading.{Reading}

-- the counter at the front of bytes: its value, and its id if there is one
abbrev pub first_reading : Order → (with_id : Bool) → List ℕ → Reading
first_reading o with_id bytes = record { id = if with_id then o.eight (take 8 (drop 8 bytes)) else 0; value = o.eight (take 8 bytes) }

-- the counters at the front of bytes, so many
abbrev pub readings_in : Order → (with_id with_lost : Bool) → (count : ℕ) → List ℕ → List Reading
readings_in o with_id with_lost zero bytes = []
readings_in o with_id with_lost (suc count) bytes =
    first_reading o with_id bytes ∷ readings_in o with_id with_lost count (drop (8 * block_len with_id with_lost) bytes)

-- those of a group at a span of a frame
abbrev pub group_at : Order → (with_id with_lost : Bool) → (frame : List ℕ) → Span → List Reading
group_at o with_id with_lost frame s =
    readings_in o with_id with_lost (length (bytes_at frame s) / (8 * block_len with_id with_lost)) (bytes_at frame s)

-- the counter that was read by itself, by the numbers of a flat frame
abbrev pub single_in : List ℕ → List Reading
single_in numbers = if get_or numbers 15 0 == 1 then record { id = get_or numbers 17 0; value = get_or numbers 16 0 } ∷ [] else []
