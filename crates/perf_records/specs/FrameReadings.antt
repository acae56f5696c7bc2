-- What the methods that read one whole frame return: by its header, the bytes after it, and whether
-- they live as long as the input.
use Rattle.std.specs.Prelude.{Result, Ok, Err, ◌≡◌, ◌≢◌, ◌<◌, List, ℕ, Bool, true, false, IsTrue}
use Rattle.perf_base.specs.Configuration.{Configuration}
use Rattle.perf_base.specs.Errors.{kind_of}
use Rattle.perf_base.specs.Order.{Order}
use Rattle.perf_base.specs.Refusals.{IsErrorOf, refusal_kind}
use Rattle.perf_base.specs.declared.error.ErrorKind.{ErrorKind}
use Rattle.perf_base.specs.declared.error.ErrorKind.TheVariants.{External, OutOfMemory}
use Rattle.perf_base.specs.declared.error.ParseError.{ParseError}
use Rattle.perf_base.specs.declared.refusal.Refusal.TheVariants.{NoRoomForId}
use Rattle.perf_base.specs.declared.sys.perf_event_header.{perf_event_header}
use Rattle.perf_reader.specs.Reading.{of_layout}
use Rattle.perf_records.specs.Answers.{FrameParts, length_after, split_after, answer_after}
use Rattle.perf_records.specs.Bodies.{needs_memory}
use Rattle.perf_records.specs.Metadata.{MetadataValue, id_length}
use Rattle.perf_records.specs.Records.{RecordValue}
use Rattle.perf_records.specs.Gives.{Event, event, IsSampleIn}
use Rattle.perf_records.specs.declared.frame_handler.BadFrame.{BadFrame}
use Rattle.perf_sample_types.specs.declared.sample.Sample.{Sample}

-- the metadata of a frame, if it can be split
abbrev pub metadata_in : Result FrameParts ErrorKind → Result MetadataValue ErrorKind
metadata_in (Ok parts) = Ok parts.metadata
metadata_in (Err e) = Err e

-- a frame is too short for its sample id
abbrev pub HasNoRoom : perf_event_header → Configuration → Type 0
HasNoRoom h c = length_after h < id_length c h.type_

-- What reading a whole frame returns. A value belongs to the event of the frame, which is its
-- record and its metadata, with nothing copied if the bytes live as long as the input. An error is
-- of the kind that the frame is refused with, or out of memory. A frame too short for its sample id
-- has the error for that. No error is a buffer's fault, and if the bytes live as long as the input,
-- memory is needed only for a type that takes it.
abbrev pub FrameGives : {O : Type 0} → (Event → O → Type 0) → perf_event_header → Configuration →
    Order → List ℕ → Bool → Result O ParseError → Type 0
FrameGives gives h c o bytes borrowed (Ok output) =
    (value : RecordValue) × (b : Bool) × (parts : FrameParts)
    × gives (event value b parts.metadata) output
    × (split_after c o h bytes ≡ Ok parts) × (answer_after c o h bytes ≡ Ok value)
    × (IsTrue borrowed → IsTrue b)
FrameGives gives h c o bytes borrowed (Err e) =
    (IsTrue (of_layout (kind_of e)) → answer_after c o h bytes ≡ Err (kind_of e))
    × (HasNoRoom h c → IsErrorOf e NoRoomForId)
    × (kind_of e ≢ External)
    × (IsTrue borrowed → needs_memory h.type_ ≡ false → kind_of e ≢ OutOfMemory)

-- The same, where a refusal is told as a bad frame: with the frame's header, and with the reason
-- whose kind is that of the error.
abbrev pub FrameGivesOrBad : {O : Type 0} → (Event → O → Type 0) → perf_event_header → Configuration →
    Order → List ℕ → Bool → Result O BadFrame → Type 0
FrameGivesOrBad gives h c o bytes borrowed (Ok output) =
    (value : RecordValue) × (b : Bool) × (parts : FrameParts)
    × gives (event value b parts.metadata) output
    × (split_after c o h bytes ≡ Ok parts) × (answer_after c o h bytes ≡ Ok value)
    × (IsTrue borrowed → IsTrue b)
FrameGivesOrBad gives h c o bytes borrowed (Err bad) =
    (bad.header ≡ h)
    × (IsTrue (of_layout (refusal_kind bad.refusal)) → answer_after c o h bytes ≡ Err (refusal_kind bad.refusal))
    × (HasNoRoom h c → bad.refusal ≡ NoRoomForId)
    × (refusal_kind bad.refusal ≢ External)
    × (IsTrue borrowed → needs_memory h.type_ ≡ false → refusal_kind bad.refusal ≢ OutOfMemory)

-- there is no refusal for lack of memory
abbrev pub TakesNoMemory : {O : Type 0} → Result O BadFrame → Type 0
TakesNoMemory (Ok output) = Unit {0}
TakesNoMemory (Err bad) = refusal_kind bad.refusal ≢ OutOfMemory

-- true was returned, and the place contains the event's sample
abbrev pub PutsSample : Event → Bool → Sample → Type 0
PutsSample e put sample = (put ≡ true) × IsSampleIn e sample
