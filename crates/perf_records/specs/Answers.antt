-- How a frame is split, the record in it, and how many elementary reads that takes: by its own
-- bytes alone.
use Rattle.std.specs.Prelude.{◌⊎◌, Result, Ok, Err, ◌≡◌, ℕ, ◌+◌, ◌-◌, ◌<◌, ◌≤◌, List, map}
use Rattle.std.specs.Prelude.{length}
use Rattle.std.specs.Prelude.{take, drop, IsTrue, IfOk, false, nat_lt, if◌then◌else◌}
use Rattle.perf_base.specs.Configuration.{Configuration, under_misc}
use Rattle.perf_base.specs.Header.{header, header_of}
use Rattle.perf_base.specs.Layout.{layout, value}
use Rattle.perf_base.specs.Order.{Order}
use Rattle.perf_base.specs.LayoutReads.{layout_reads}
use Rattle.perf_base.specs.Refusals.{kind_if_refused, NeedsNoMemory}
use Rattle.perf_base.specs.declared.sys.perf_event_header.{perf_event_header}
use Rattle.perf_base.specs.declared.error.ErrorKind.{ErrorKind}
use Rattle.perf_base.specs.declared.error.ErrorKind.TheVariants.{Eof, InvalidRecord}
use Rattle.perf_buffers.specs.Buffer.{Source}
use Rattle.perf_buffers.specs.Cursor.{cursor_left}
use Rattle.perf_buffers.specs.Taking.{MovesWithin}
use Rattle.perf_buffers.specs.declared.cursor.ParseBufCursor.{ParseBufCursor}
use Rattle.perf_reader.specs.Reading.{Transition, of_layout, is_external}
use Rattle.perf_records.specs.Bodies.{body, needs_memory}
use Rattle.perf_records.specs.Frames.{frame_length, frames}
use Rattle.perf_records.specs.Metadata.{MetadataValue, id_of_type, id_length}
use Rattle.perf_records.specs.Records.{RecordValue, record_value, IsBorrowed}
use Rattle.perf_records.specs.declared.record.Record.{Record}

-- how many bytes of a frame come after its header
abbrev pub length_after : perf_event_header → ℕ
length_after h = h.size - 8

-- ---- how a frame is split

-- The metadata of a frame, and the bytes of its body: those between its header and its sample id.
pub record FrameParts : Type 0 where
  pub metadata : MetadataValue
  pub body : List ℕ

-- the parts of a frame with this metadata and body
abbrev pub frame_parts : MetadataValue → List ℕ → FrameParts
frame_parts m bytes = record { metadata = m; body = bytes }

-- the bytes of the sample id, of a frame with exactly these bytes after its header
abbrev pub id_bytes : Configuration → perf_event_header → List ℕ → List ℕ
id_bytes c h bytes = drop (length bytes - id_length c h.type_) bytes

-- the parts of such a frame
abbrev pub parts_of : Configuration → Order → perf_event_header → List ℕ → FrameParts
parts_of c o h bytes = record {
  metadata = record {
    ty = h.type_;
    misc = h.misc;
    sample_id = value o (id_bytes c h bytes) 0 (id_of_type c h.type_);
  };
  body = take (length bytes - id_length c h.type_) bytes;
}

-- the number of reads of its sample id
abbrev pub id_reads : Configuration → Order → perf_event_header → List ℕ → ℕ
id_reads c o h bytes = layout_reads o (id_of_type c h.type_) (id_bytes c h bytes)

-- How a frame is split, by its header and the bytes after it: a size below the header's own is
-- refused, and so is a frame that is unfinished, or one that is too short for its sample id.
abbrev pub split_after : Configuration → Order → perf_event_header → List ℕ →
    Result FrameParts ErrorKind
split_after c o h bytes =
    if nat_lt h.size 8 then Err InvalidRecord
    else (if nat_lt (length bytes) (length_after h) then Err Eof
    else (if nat_lt (length_after h) (id_length c h.type_) then Err InvalidRecord
    else Ok (parts_of c o h (take (length_after h) bytes))))

-- the number of reads for that: those of the sample id, if there is a whole frame
abbrev pub split_reads : Configuration → Order → perf_event_header → List ℕ → ℕ
split_reads c o h bytes = elim (split_after c o h bytes) [
  | Ok parts ↦ id_reads c o h (take (length_after h) bytes)
  | Err e ↦ 0
]

-- ---- the record in a frame

-- The record in a frame's body: the layout of its bytes by the table of the frame's type, under the
-- frame's own misc.
abbrev pub record_in : Configuration → Order → perf_event_header → Result FrameParts ErrorKind →
    Result RecordValue ErrorKind
record_in c o h (Ok parts) = layout o (body (under_misc h.misc c) h.type_) parts.body
record_in c o h (Err e) = Err e

-- the number of reads for it
abbrev pub record_reads : Configuration → Order → perf_event_header →
    Result FrameParts ErrorKind → ℕ
record_reads c o h (Ok parts) = layout_reads o (body (under_misc h.misc c) h.type_) parts.body
record_reads c o h (Err e) = 0

-- the record in a frame, by its header and the bytes after it
abbrev pub answer_after : Configuration → Order → perf_event_header → List ℕ →
    Result RecordValue ErrorKind
answer_after c o h bytes = record_in c o h (split_after c o h bytes)

-- the number of reads after its header: those of the sample id and of the record
abbrev pub reads_after : Configuration → Order → perf_event_header → List ℕ → ℕ
reads_after c o h bytes = split_reads c o h bytes + record_reads c o h (split_after c o h bytes)

-- the same of a frame's own bytes, beginning with the header
abbrev pub of_frame : {V : Type 0} → (perf_event_header → List ℕ → Result V ErrorKind) →
    Order → List ℕ → Result V ErrorKind
of_frame result_after o frame =
    if nat_lt (length frame) 8 then Err Eof else result_after (header_of o frame) (drop 8 frame)

-- how a frame is split, by its bytes
abbrev pub split_of_frame : Configuration → Order → List ℕ → Result FrameParts ErrorKind
split_of_frame c o frame = of_frame (split_after c o) o frame

-- the record in a frame, by its bytes
abbrev pub answer_of_frame : Configuration → Order → List ℕ → Result RecordValue ErrorKind
answer_of_frame c o frame = of_frame (answer_after c o) o frame

-- the number of reads of a frame, of which the header is three, and those after it
abbrev pub frame_reads : (perf_event_header → List ℕ → ℕ) → Order → List ℕ → ℕ
frame_reads after o frame =
    layout_reads o header frame
    + (if nat_lt (length frame) 8 then 0 else after (header_of o frame) (drop 8 frame))

-- The answers of a stream: the header and the answer of each of its frames.
abbrev pub answers : Configuration → Order → List ℕ →
    List (perf_event_header × Result RecordValue ErrorKind)
answers c o bytes = map (λ frame. (header_of o frame, answer_of_frame c o frame)) (frames o bytes)

-- ---- what a call returns, in the same terms

-- A call returns what a definition gives, seen through `view`, takes n bytes, or all that are left
-- if there are fewer, and makes k reads. This does not cover a fault or out of memory.
abbrev pub AnswersExactly : {X V : Type 0} → (X → V) → Result V ErrorKind → (n k : ℕ) → Transition X
AnswersExactly view expected n k old (Ok x) new =
    (expected ≡ Ok (view x)) × (new.source.left ≡ drop n old.source.left) × (new.reads ≡ old.reads + k)
AnswersExactly view expected n k old (Err e) new = IsTrue (of_layout e) →
    (expected ≡ Err e) × (new.source.left ≡ drop n old.source.left) × (new.reads ≡ old.reads + k)

-- the parts of a frame that a call returns: the bytes of the body, and the metadata
abbrev pub answered_parts : ParseBufCursor × MetadataValue → FrameParts
answered_parts pair = record { metadata = pair.1; body = cursor_left pair.0 }

-- how a frame is split after its header; exactly its body and its sample id are taken
abbrev pub SplitsAfter : perf_event_header → Transition (ParseBufCursor × MetadataValue)
SplitsAfter h old outcome new =
    let c = old.settings in let o = old.order in let bytes = old.source.left in
    AnswersExactly answered_parts (split_after c o h bytes) (length_after h) (split_reads c o h bytes)
    old outcome new

-- the record in a frame after its header; exactly its body and its sample id are taken
abbrev pub ReadsFrameAfter : perf_event_header → Transition Record
ReadsFrameAfter h old outcome new =
    let c = old.settings in let o = old.order in let bytes = old.source.left in
    AnswersExactly record_value (answer_after c o h bytes) (length_after h) (reads_after c o h bytes)
    old outcome new

-- What reading a frame with its header does: it returns what the frame's bytes contain, and takes
-- exactly them. If it is refused in another way, except by a fault, a prefix of them is taken. No
-- byte of a whole buffer is copied, and memory is needed only for a list or a box.
abbrev pub ReadsFrame : Transition Record
ReadsFrame old outcome new =
    let c = old.settings in let o = old.order in let bytes = old.source.left in
    AnswersExactly record_value (answer_of_frame c o bytes) (frame_length o bytes)
    (frame_reads (reads_after c o) o bytes) old outcome new
    × (is_external (kind_if_refused outcome) ≡ false →
    MovesWithin old.source (frame_length o bytes) new.source)
    × (IsTrue old.source.whole →
    IfOk outcome IsBorrowed
    × (needs_memory (header_of o bytes).type_ ≡ false → NeedsNoMemory outcome))

-- What the header of a frame refuses, before memory is needed: fewer than 8 bytes are `Eof`, and a
-- size that does not count the header is `InvalidRecord`. Only a fault comes before that.
abbrev pub RefusesHeader : {X : Type 0} → Order → List ℕ → Result X ErrorKind → Type 0
RefusesHeader o bytes outcome = is_external (kind_if_refused outcome) ≡ false →
    (length bytes < 8 → outcome ≡ Err Eof)
    × (8 ≤ length bytes → (header_of o bytes).size < 8 → outcome ≡ Err InvalidRecord)

-- what reading a record does: it returns what its frame contains, or what the header refuses
abbrev pub ReadsRecord : Transition Record
ReadsRecord old outcome new = ReadsFrame old outcome new × RefusesHeader old.order old.source.left outcome

-- nothing was taken, or exactly n bytes were
abbrev pub LeavesAllOrRest : Source → ℕ → Source → Type 0
LeavesAllOrRest old n new = (new.left ≡ old.left) ⊎ (new.left ≡ drop n old.left)
