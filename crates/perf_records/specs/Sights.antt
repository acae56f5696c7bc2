-- What a run hands out at the beginning of a frame.
use Rattle.std.specs.Prelude.{◌≡◌, ℕ, IsTrue, List, Bool, Result, Ok, Err, length, take, drop, nat_lt, if◌then◌else◌}
use Rattle.perf_base.specs.Header.{header_of}
use Rattle.perf_base.specs.Order.{Order}
use Rattle.perf_base.specs.declared.refusal.Refusal.{Refusal}
use Rattle.perf_base.specs.declared.refusal.Refusal.TheVariants.{Eof, SmallHeader}
use Rattle.perf_base.specs.declared.sys.perf_event_header.{perf_event_header}
use Rattle.perf_buffers.specs.Buffer.{Source, chunk_bytes, chunk_is_borrowed}
use Rattle.perf_records.specs.Answers.{length_after}
use Rattle.perf_records.specs.declared.frame.Frame.{Frame}
use Rattle.perf_records.specs.declared.frame_handler.BadFrame.{BadFrame}

-- What is found at the beginning of a frame: a whole frame, as its header, the bytes after it and
-- whether they live as long as the input; or a header without a whole frame after it, and why.
pub data Sight : Type 0 where
  whole : perf_event_header → List ℕ → Bool → Sight
  bad : perf_event_header → Refusal → Sight

-- what a handler gets
abbrev pub sight_of : Result Frame BadFrame → Sight
sight_of (Ok f) = whole f.header (chunk_bytes f.rest) (chunk_is_borrowed f.rest)
sight_of (Err b) = bad b.header b.refusal

-- What is found there, by the header and all bytes after it, which live as long as the input or
-- not: a size below the header's own is refused, and so is a frame that is unfinished.
abbrev pub sight_after : perf_event_header → List ℕ → Bool → Sight
sight_after h bytes borrowed =
    if nat_lt h.size 8 then bad h SmallHeader
    else (if nat_lt (length bytes) (length_after h) then bad h Eof
    else whole h (take (length_after h) bytes) borrowed)

-- the same by the bytes of a frame
abbrev pub sight_in : Order → List ℕ → Bool → Sight
sight_in o frame borrowed = sight_after (header_of o frame) (drop 8 frame) borrowed

-- The handler got what comes after a header, and exactly that was taken, or all that was left if
-- there is less. If the buffer's bytes are not known, it got some bytes. From a whole buffer they
-- live as long as the input.
abbrev pub HandsAfter : {S : Type 0} → (S → Sight → Bool → S → Type 0) → perf_event_header → Source → S →
    Bool → Source → S → Type 0
HandsAfter gets h old was go new now =
    (bytes : List ℕ) × (borrowed : Bool) × gets was (sight_after h bytes borrowed) go now
    × (IsTrue old.told → (bytes ≡ take (length_after h) old.left)
    × (new.left ≡ drop (length_after h) old.left))
    × (IsTrue old.whole → IsTrue borrowed)
