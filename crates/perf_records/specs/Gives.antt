-- Which outputs of a visitor belong to a record.
use Rattle.std.specs.Prelude.{ℕ, List, Bool, true, false, Option, Some, None, Result}
use Rattle.std.specs.Prelude.{Ok, Err, ◌≡◌, ◌≢◌, ◌&&◌, ◌⊎◌, IsTrue, Box}
use Rattle.perf_base.specs.Configuration.{Configuration}
use Rattle.perf_base.specs.Cow.{is_borrowed}
use Rattle.perf_base.specs.Header.{header_of}
use Rattle.perf_base.specs.Layout.{Parts, layout}
use Rattle.perf_base.specs.LayoutReads.{layout_reads}
use Rattle.perf_base.specs.Order.{Order}
use Rattle.perf_base.specs.Took.{took, quit, took_by_places}
use Rattle.perf_base.specs.declared.error.ErrorKind.{ErrorKind}
use Rattle.perf_base.specs.declared.error.ErrorKind.TheVariants.{OutOfMemory}
use Rattle.perf_base.specs.declared.sys.perf_event_header.{perf_event_header}
use Rattle.perf_base.specs.Refusals.{kind_if_refused, NeedsNoMemory}
use Rattle.perf_buffers.specs.Taking.{MovesWithin}
use Rattle.perf_reader.specs.Reading.{Transition, of_layout, is_external}
use Rattle.perf_records.specs.Answers.{FrameParts, AnswersExactly, split_after, answer_after}
use Rattle.perf_records.specs.Answers.{reads_after, length_after, split_of_frame, answer_of_frame}
use Rattle.perf_records.specs.Answers.{frame_reads}
use Rattle.perf_records.specs.Bodies.{body_of_type, needs_memory_of_type, needs_memory}
use Rattle.perf_records.specs.Frames.{frame_length}
use Rattle.perf_records.specs.Metadata.{MetadataValue}
use Rattle.perf_records.specs.Records.{type_of}
use Rattle.perf_records.specs.Records.{RecordValue, record_value, IsBorrowed, sample_is, mmap_is}
use Rattle.perf_records.specs.Records.{mmap2_is, sample_value}
use Rattle.perf_sample_types.specs.SampleGroups.{IsBorrowedSample}
use Rattle.std.specs.declared.alloc.Global.{Global}
use Rattle.perf_records.specs.declared.record.Record.{Record}
use Rattle.perf_records.specs.declared.record_type.RecordType.{RecordType}
use Rattle.perf_types.specs.Mmap2.{mapping_of}
use Rattle.perf_sample_types.specs.declared.sample.Sample.{Sample}
use Rattle.perf_types.specs.declared.text_poke.TextPoke.{TextPoke}

-- ---- what is visited

-- What a visitor sees of a record: its value, whether none of its byte strings was copied, and its
-- metadata.
pub record Event : Type 0 where
  pub value : RecordValue
  pub borrowed : Bool
  pub metadata : MetadataValue

-- the event of these
abbrev pub event : RecordValue → Bool → MetadataValue → Event
event v b m = record { value = v; borrowed = b; metadata = m }

-- no byte of it was copied
abbrev pub is_borrowed_text_poke : TextPoke → Bool
is_borrowed_text_poke r = is_borrowed r.old_bytes && is_borrowed r.new_bytes

-- no byte of it was copied
abbrev pub is_borrowed_sample : Sample → Bool
is_borrowed_sample s =
    elim s.state.raw [ Some raw ↦ is_borrowed raw.0 | None ↦ true ]
    && (elim s.state.stack_user [ Some stack ↦ is_borrowed stack.0 | None ↦ true ]
    && elim s.memory.aux [ Some aux ↦ is_borrowed aux.0 | None ↦ true ])

-- it is a sample, which a record stores in a box
abbrev pub IsSample : RecordValue → Type 0
IsSample (sample_is s) = Unit {0}
IsSample _ = ⊥

-- ---- what a visitor of records gives

-- the record of that value, of which nothing was copied if the event's was not
abbrev pub IsRecordOf : Event → Record → Type 0
IsRecordOf e r = (record_value r ≡ e.value) × (IsTrue e.borrowed → IsBorrowed r)

-- The record of the event, or there was no memory for the box of a sample. It is opened only when a
-- proof asks for it.
unfoldable pub GivesRecord : Event → Result Record ErrorKind → Type 0
GivesRecord e (Ok r) = IsRecordOf e r
GivesRecord e (Err kind) = (kind ≡ OutOfMemory) × IsSample e.value

-- the sample of that value, of which nothing was copied if the event's was not
abbrev pub IsSampleIn : Event → Sample → Type 0
IsSampleIn e s = (sample_is (sample_value s) ≡ e.value) × (IsTrue e.borrowed → IsBorrowedSample s)

-- the sample of that value in a box, of which nothing was copied if the event's was not
abbrev pub IsSampleOf : Event → Box Sample Global → Type 0
IsSampleOf e content = IsSampleIn e content.value

-- what is returned for a record belongs to each event that it is the record of
abbrev pub MakesRecord : {O : Type 0} → (Event → O → Type 0) → Record → O → Type 0
MakesRecord gives r output =
    (e : Event) → record_value r ≡ e.value → (IsTrue e.borrowed → IsBorrowed r) →
    gives e output

-- what is returned for a sample without a box belongs to its event, whichever that is
abbrev pub MakesNoSample : {O : Type 0} → (Event → O → Type 0) → O → Type 0
MakesNoSample gives output = (e : Event) → IsSample e.value → gives e output

-- ---- outputs of a visitor that leaves records out

-- for MMAP2 the same mapping without the file's identity, and otherwise the record itself
abbrev pub mapping_in : RecordValue → RecordValue
mapping_in (mmap2_is m) = mmap_is (mapping_of m)
mapping_in v = v

-- the output belongs to the event, to that of its mapping, or to a record that is left out
abbrev pub GivesOrLeavesOut : {O : Type 0} → (Event → O → Type 0) → (MetadataValue → O → Type 0) →
    Event → O → Type 0
GivesOrLeavesOut gives left_out e output =
    gives e output
    ⊎ (gives (event (mapping_in e.value) e.borrowed e.metadata) output
    ⊎ left_out e.metadata output)

-- ---- what a visit of a body does

-- The output belongs to the record that the parts give, with that metadata. Nothing of a whole
-- buffer is copied, and memory is needed only if the type takes it.
abbrev pub Gives : {O : Type 0} → (Event → O → Type 0) → MetadataValue →
    (Configuration → Parts RecordValue) → Bool → Transition O
Gives gives m parts needs old (Ok output) new =
    (value : RecordValue) × (b : Bool) × gives (event value b m) output
    × (took_by_places old.order (parts old.settings) old.source.left old.reads
    ≡ took value new.source.left new.reads)
    × (IsTrue old.source.whole → IsTrue b) × (IsSample value → needs ≡ true)
Gives gives m parts needs old (Err e) new =
    (IsTrue (of_layout e) →
    took_by_places old.order (parts old.settings) old.source.left old.reads
    ≡ quit e new.source.left new.reads)
    × (IsTrue old.source.whole → needs ≡ false → e ≢ OutOfMemory)

-- the same for a known type, or for one that has no table
abbrev pub GivesOf : {O : Type 0} → (Event → O → Type 0) → MetadataValue → Option RecordType →
    Transition O
GivesOf gives m type = Gives gives m (λ c. body_of_type c m.ty type) (needs_memory_of_type type)

-- the same for a type
abbrev pub GivesType : {O : Type 0} → (Event → O → Type 0) → MetadataValue → RecordType → Transition O
GivesType gives m type = GivesOf gives m (Some type)

-- the same for all bytes
abbrev pub GivesUnknown : {O : Type 0} → (Event → O → Type 0) → MetadataValue → Transition O
GivesUnknown gives m = GivesOf gives m None

-- the same for the type given by the metadata
abbrev pub GivesBody : {O : Type 0} → (Event → O → Type 0) → MetadataValue → Transition O
GivesBody gives m = GivesOf gives m (type_of m.ty)

-- The visit of all of a body, of borrowed bytes or not: its layout, and the number of reads.
abbrev pub GivesWholeBody : {O : Type 0} → (Event → O → Type 0) → MetadataValue → Order →
    Parts RecordValue → List ℕ → Bool → Result O ErrorKind → ℕ → Type 0
GivesWholeBody gives m o p bytes from (Ok output) k =
    (value : RecordValue) × (b : Bool) × gives (event value b m) output
    × (layout o p bytes ≡ Ok value) × (k ≡ layout_reads o p bytes)
    × (IsTrue from → IsTrue b) × (IsSample value → needs_memory m.ty ≡ true)
GivesWholeBody gives m o p bytes from (Err e) k =
    (IsTrue (of_layout e) → (layout o p bytes ≡ Err e) × (k ≡ layout_reads o p bytes))
    × (IsTrue from → needs_memory m.ty ≡ false → e ≢ OutOfMemory)

-- ---- what a visit of a frame does

-- The output belongs to the record that a definition gives and to its metadata, and nothing of a
-- whole buffer was copied; or the refusal is the definition's. n bytes are taken, or all that are
-- left if there are fewer, and k reads are made.
abbrev pub GivesExactly : {O : Type 0} → (Event → O → Type 0) → Result FrameParts ErrorKind →
    Result RecordValue ErrorKind → (n k : ℕ) → Transition O
GivesExactly gives split answer n k old (Ok output) new =
    (value : RecordValue) × (b : Bool) × (parts : FrameParts)
    × gives (event value b parts.metadata) output
    × (split ≡ Ok parts) × (IsTrue old.source.whole → IsTrue b)
    × AnswersExactly (λ v. v) answer n k old (Ok value) new
GivesExactly gives split answer n k old (Err e) new =
    AnswersExactly (λ (v : RecordValue). v) answer n k old (Err e) new

-- the visit of a frame after its header; exactly its body and its sample id are taken
abbrev pub GivesFrameAfter : {O : Type 0} → (Event → O → Type 0) → perf_event_header → Transition O
GivesFrameAfter gives h old outcome new =
    let c = old.settings in let o = old.order in let bytes = old.source.left in
    GivesExactly gives (split_after c o h bytes) (answer_after c o h bytes) (length_after h)
    (reads_after c o h bytes) old outcome new

-- The same of a frame with its header. If it is refused in another way, except by a fault, a prefix
-- of the frame is taken. Memory over a whole buffer is needed only for a list or a box.
abbrev pub GivesFrame : {O : Type 0} → (Event → O → Type 0) → Transition O
GivesFrame gives old outcome new =
    let c = old.settings in let o = old.order in let bytes = old.source.left in
    GivesExactly gives (split_of_frame c o bytes) (answer_of_frame c o bytes) (frame_length o bytes)
    (frame_reads (reads_after c o) o bytes) old outcome new
    × (is_external (kind_if_refused outcome) ≡ false →
    MovesWithin old.source (frame_length o bytes) new.source)
    × (IsTrue old.source.whole → needs_memory (header_of o bytes).type_ ≡ false →
    NeedsNoMemory outcome)

-- What is known of an output even if a buffer's bytes are not known: the type and the misc of its
-- event are those of the header, and nothing of a whole buffer was copied.
abbrev pub BelongsTo : {O : Type 0} → (Event → O → Type 0) → perf_event_header → Bool → O → Type 0
BelongsTo gives h whole output =
    (e : Event) × gives e output
    × (e.metadata.ty ≡ h.type_) × (e.metadata.misc ≡ h.misc)
    × (IsTrue whole → IsTrue e.borrowed) × (IsSample e.value → needs_memory h.type_ ≡ true)
