-- The header at the front of bytes, and the contents of a frame by its own bytes alone.
use Rattle.std.proofs.Common.{◌≡◌, ℕ, ◌+◌, ◌<◌, ◌≤◌, List, [], length, take, drop, arith, refl, sym, ◌∙◌, ap, true, false, inl, inr, Ok, Err, max, nat_lt, subst}
use Rattle.std.specs.Prelude.{Result, IsTrue, Some, ◌≢◌}
use Rattle.std.proofs.lemmas.Bool.{cases_lt, lt-ltb, le-ltb}
use Rattle.std.proofs.lemmas.List.{take-take, drop-take, take_all, length-take-le, drop-drop, drop_all}
use Rattle.perf_base.specs.Order.{Order}
use Rattle.perf_base.specs.Configuration.{Configuration}
use Rattle.perf_base.specs.Layout.{Parts, done, ◌>>=◌, number, w2, w4}
use Rattle.perf_base.specs.FieldWords.{u16}
use Rattle.perf_base.specs.LayoutReads.{layout_reads}
use Rattle.perf_base.specs.Run.{Ran, ran, stopped, by_places}
use Rattle.perf_base.specs.Header.{header, header_of}
use Rattle.perf_base.proofs.Bridge.{judged_yes, judged_no}
use Rattle.perf_base.specs.declared.sys.perf_event_header.{perf_event_header}
use Rattle.perf_base.specs.declared.error.ErrorKind.{ErrorKind}
use Rattle.perf_base.specs.declared.error.ErrorKind.TheVariants.{Eof, InvalidRecord, UnsupportedConfig, UnsupportedData, External, OutOfMemory}
use Rattle.perf_buffers.specs.Buffer.{Source}
use Rattle.perf_buffers.specs.Taking.{MovesWithin}
use Rattle.perf_buffers.proofs.Takes.{moves_more}
use Rattle.perf_reader.specs.ReaderState.{ReaderState}
use Rattle.perf_reader.specs.Reading.{of_layout, is_external}
use Rattle.perf_reader.proofs.Calls.{within_taken}
use Rattle.perf_records.proofs.Preservation.{within_all}
use Rattle.perf_records.specs.Frames.{frame_length}
use Rattle.perf_records.specs.Answers.{FrameParts, length_after, split_after, split_reads, id_reads, record_in, record_reads, answer_after, reads_after, of_frame, answer_of_frame, AnswersExactly, frame_reads, RefusesHeader}

-- ---- the header by places
-- what follows the type, and what follows misc
abbrev after_type : ℕ → Parts perf_event_header
after_type ty = u16 >>= λ misc. (u16 >>= λ size. done (record { type_ = ty; misc = misc; size = size }))

abbrev after_misc : ℕ → ℕ → Parts perf_event_header
after_misc ty misc = u16 >>= λ size. done (record { type_ = ty; misc = misc; size = size })

abbrev after_size : ℕ → ℕ → ℕ → Parts perf_event_header
after_size ty misc size = done (record { type_ = ty; misc = misc; size = size })

header_there : (o : Order) (bytes : List ℕ) → 8 ≤ length bytes → by_places o header bytes ≡ ran (header_of o bytes) (drop 8 bytes)
unfolding by_places
header_there o bytes h =
    let ty : ℕ = o.four (take 4 bytes) in
    let misc : ℕ = o.two (take 2 (drop 4 bytes)) in
    judged_yes o bytes 0 (number w4) after_type (omega arith)
    ∙ judged_yes o bytes 4 (number w2) (after_misc ty) (omega arith)
    ∙ judged_yes o bytes 6 (number w2) (after_size ty misc) (omega arith)

header_lacks : (o : Order) (bytes : List ℕ) → length bytes < 8 → by_places o header bytes ≡ stopped Eof []
unfolding by_places
header_lacks o bytes h =
    let ty : ℕ = o.four (take 4 bytes) in
    let misc : ℕ = o.two (take 2 (drop 4 bytes)) in
    elim (cases_lt (length bytes) 4) [
      | inl short ↦ judged_no o bytes 0 (number w4) after_type short
      | inr four ↦
          judged_yes o bytes 0 (number w4) after_type four
          ∙ elim (cases_lt (length bytes) 6) [
            | inl short ↦ judged_no o bytes 4 (number w2) (after_misc ty) short
            | inr six ↦ judged_yes o bytes 4 (number w2) (after_misc ty) six ∙ judged_no o bytes 6 (number w2) (after_size ty misc) h
          ]
    ]

-- a header that was read
pub header_read : (o : Order) (bytes left : List ℕ) (h : perf_event_header) → by_places o header bytes ≡ ran h left → (8 ≤ length bytes) × (h ≡ header_of o bytes) × (left ≡ drop 8 bytes)
header_read o bytes left h e = elim (cases_lt (length bytes) 8) [
  | inl short ↦ absurd (cc (header_lacks o bytes short))
  | inr fits ↦
      let both : ran (header_of o bytes) (drop 8 bytes) ≡ ran h left = sym (header_there o bytes fits) ∙ e in
      let same : header_of o bytes ≡ h = cc in
      let same' : drop 8 bytes ≡ left = cc in
      (fits, sym same, sym same')
]

-- a header that was not
pub header_unread : (o : Order) (bytes left : List ℕ) (e : ErrorKind) → by_places o header bytes ≡ stopped e left → (length bytes < 8) × (e ≡ Eof) × (left ≡ [])
header_unread o bytes left e h = elim (cases_lt (length bytes) 8) [
  | inr fits ↦ absurd (cc (header_there o bytes fits))
  | inl short ↦
      let both : ◌≡◌ {A = Ran perf_event_header} (stopped Eof []) (stopped e left) = sym (header_lacks o bytes short) ∙ h in
      let same : Eof ≡ e = cc in
      let same' : [] ≡ left = cc in
      (short, sym same, sym same')
]

-- ---- a frame's own bytes
pub header_take : (o : Order) (n : ℕ) (bytes : List ℕ) → header_of o (take (8 + n) bytes) ≡ header_of o bytes
header_take o n bytes =
    let a : take 4 (take (8 + n) bytes) ≡ take 4 bytes = take-take 4 (8 + n) bytes (omega arith) in
    let b : take 2 (drop 4 (take (8 + n) bytes)) ≡ take 2 (drop 4 bytes) =
    ap (λ k. take 2 (drop 4 (take k bytes))) (omega arith) ∙ ap (take 2) (drop-take 4 (4 + n) bytes) ∙ take-take 2 (4 + n) (drop 4 bytes) (omega arith) in
    let d : take 2 (drop 6 (take (8 + n) bytes)) ≡ take 2 (drop 6 bytes) =
    ap (λ k. take 2 (drop 6 (take k bytes))) (omega arith) ∙ ap (take 2) (drop-take 6 (2 + n) bytes) ∙ take-take 2 (2 + n) (drop 6 bytes) (omega arith) in
    rw (a, b, d) refl

split_take : (c : Configuration) (o : Order) (h : perf_event_header) (bytes : List ℕ) → split_after c o h (take (length_after h) bytes) ≡ split_after c o h bytes
split_take c o h bytes = elim (cases_lt (length bytes) (length_after h)) [
  | inl short ↦ ap (split_after c o h) (take_all (length_after h) bytes (omega arith))
  | inr fits ↦
      let all : length (take (length_after h) bytes) ≡ length_after h = length-take-le (length_after h) bytes fits in
      let a : nat_lt (length (take (length_after h) bytes)) (length_after h) ≡ false = le-ltb (length (take (length_after h) bytes)) (length_after h) (omega arith) in
      let b : nat_lt (length bytes) (length_after h) ≡ false = le-ltb (length bytes) (length_after h) fits in
      let t : take (length_after h) (take (length_after h) bytes) ≡ take (length_after h) bytes = take-take (length_after h) (length_after h) bytes (omega arith) in
      rw (a, b, t) refl
]

after_take : (c : Configuration) (o : Order) (h : perf_event_header) (bytes : List ℕ) → answer_after c o h (take (length_after h) bytes) ≡ answer_after c o h bytes
after_take c o h bytes = ap (record_in c o h) (split_take c o h bytes)

-- and takes as many reads
reads_take : (c : Configuration) (o : Order) (h : perf_event_header) (bytes : List ℕ) → reads_after c o h (take (length_after h) bytes) ≡ reads_after c o h bytes
reads_take c o h bytes =
    let n : ℕ = length_after h in
    let same : split_after c o h (take n bytes) ≡ split_after c o h bytes = split_take c o h bytes in
    let once : take n (take n bytes) ≡ take n bytes = take-take n n bytes (omega arith) in
    let split : split_reads c o h (take n bytes) ≡ split_reads c o h bytes =
    ap (λ (r : Result FrameParts ErrorKind). elim r [ Ok parts ↦ id_reads c o h (take n (take n bytes)) | Err e ↦ 0 ]) same
    ∙ ap (λ (xs : List ℕ). elim (split_after c o h bytes) [ Ok parts ↦ id_reads c o h xs | Err e ↦ 0 ]) once in
    ap (λ (k : ℕ). k + record_reads c o h (split_after c o h (take n bytes))) split
    ∙ ap (λ (r : Result FrameParts ErrorKind). split_reads c o h bytes + record_reads c o h r) same

-- what comes after a header that is whole
pub frame_whole : {V : Type 0} (transition : perf_event_header → List ℕ → Result V ErrorKind) (o : Order) (bytes : List ℕ) → 8 ≤ length bytes → of_frame transition o bytes ≡ transition (header_of o bytes) (drop 8 bytes)
frame_whole transition o bytes fits = let a : nat_lt (length bytes) 8 ≡ false = le-ltb (length bytes) 8 fits in rw a refl

pub answer_whole : (c : Configuration) (o : Order) (bytes : List ℕ) → 8 ≤ length bytes → answer_of_frame c o bytes ≡ answer_after c o (header_of o bytes) (drop 8 bytes)
answer_whole c o bytes fits = frame_whole (answer_after c o) o bytes fits

-- the frame's length, in terms of its body
pub frame_body : (h : perf_event_header) → max 8 h.size ≡ 8 + length_after h
frame_body h = omega arith

-- A frame has the same contents by its own bytes as with others after them.
pub answer_alone : (c : Configuration) (o : Order) (bytes : List ℕ) → 8 ≤ length bytes → answer_of_frame c o (take (frame_length o bytes) bytes) ≡ answer_of_frame c o bytes
answer_alone c o bytes fits =
    let h : perf_event_header = header_of o bytes in
    let whole : frame_length o bytes ≡ 8 + length_after h = frame_body h in
    let same : header_of o (take (8 + length_after h) bytes) ≡ h = header_take o (length_after h) bytes in
    let enough : 8 ≤ length (take (8 + length_after h) bytes) = elim (cases_lt (length bytes) (8 + length_after h)) [
      | inl short ↦ omega (arith, ap length (take_all (8 + length_after h) bytes (omega arith)))
      | inr long ↦ omega (arith, length-take-le (8 + length_after h) bytes long)
    ] in
    ap (λ n. answer_of_frame c o (take n bytes)) whole
    ∙ answer_whole c o (take (8 + length_after h) bytes) enough
    ∙ ap (λ k. answer_after c o k (drop 8 (take (8 + length_after h) bytes))) same
    ∙ ap (answer_after c o h) (drop-take 8 (length_after h) bytes)
    ∙ after_take c o h (drop 8 bytes)
    ∙ sym (answer_whole c o bytes fits)

-- the header of a frame's own bytes
pub header_alone : (o : Order) (bytes : List ℕ) → header_of o (take (frame_length o bytes) bytes) ≡ header_of o bytes
header_alone o bytes = ap (λ n. header_of o (take n bytes)) (frame_body (header_of o bytes)) ∙ header_take o (length_after (header_of o bytes)) bytes

-- A frame takes the same reads after its header as with other bytes after it.
pub reads_alone : (c : Configuration) (o : Order) (bytes : List ℕ) →
    let frame : List ℕ = take (frame_length o bytes) bytes in
    reads_after c o (header_of o frame) (drop 8 frame) ≡ reads_after c o (header_of o bytes) (drop 8 bytes)
reads_alone c o bytes =
    let h : perf_event_header = header_of o bytes in
    let frame : List ℕ = take (frame_length o bytes) bytes in
    let after : drop 8 frame ≡ take (length_after h) (drop 8 bytes) =
    ap (λ n. drop 8 (take n bytes)) (frame_body h) ∙ drop-take 8 (length_after h) bytes in
    ap (λ k. reads_after c o k (drop 8 frame)) (header_alone o bytes)
    ∙ ap (reads_after c o h) after
    ∙ reads_take c o h (drop 8 bytes)

-- ---- a frame, from its header and what comes after it
pub after_frame : (o : Order) (bytes mid new : List ℕ) (h : perf_event_header) → h ≡ header_of o bytes → mid ≡ drop 8 bytes → new ≡ drop (length_after h) mid → new ≡ drop (frame_length o bytes) bytes
after_frame o bytes mid new h e m n =
    n ∙ ap (drop (length_after h)) m ∙ drop-drop (length_after h) 8 bytes ∙ ap (λ k. drop k bytes) (sym (ap (λ (q : perf_event_header). max 8 q.size) (sym e) ∙ frame_body h))

-- the reads of a frame whose header is whole
reads_whole : (after : perf_event_header → List ℕ → ℕ) (o : Order) (bytes : List ℕ) → 8 ≤ length bytes →
    frame_reads after o bytes ≡ layout_reads o header bytes + after (header_of o bytes) (drop 8 bytes)
reads_whole after o bytes fits = let a : nat_lt (length bytes) 8 ≡ false = le-ltb (length bytes) 8 fits in rw a refl

reads_cut : (after : perf_event_header → List ℕ → ℕ) (o : Order) (bytes : List ℕ) → length bytes < 8 → frame_reads after o bytes ≡ layout_reads o header bytes + 0
reads_cut after o bytes short = let a : nat_lt (length bytes) 8 ≡ true = lt-ltb (length bytes) 8 short in rw a refl

told_reads : (reads : perf_event_header → List ℕ → ℕ) (old mid : ReaderState) (h : perf_event_header) (made : ℕ) → 8 ≤ length old.source.left → h ≡ header_of old.order old.source.left →
    mid.source.left ≡ drop 8 old.source.left → mid.reads ≡ old.reads + layout_reads old.order header old.source.left → made ≡ mid.reads + reads h mid.source.left →
    made ≡ old.reads + frame_reads reads old.order old.source.left
told_reads reads old mid h made fits e m n p =
    let same : reads h mid.source.left ≡ reads (header_of old.order old.source.left) (drop 8 old.source.left) = ap (λ k. reads k mid.source.left) e ∙ ap (reads (header_of old.order old.source.left)) m in
    omega (arith, p, n, same, reads_whole reads old.order old.source.left fits)

-- what holds after a header holds for the frame
pub tells_frame : {X V : Type 0} (view : X → V) (transition : perf_event_header → List ℕ → Result V ErrorKind) (reads : perf_event_header → List ℕ → ℕ)
    (old mid new : ReaderState) (h : perf_event_header) (r : Result X ErrorKind) →
    8 ≤ length old.source.left → h ≡ header_of old.order old.source.left → mid.source.left ≡ drop 8 old.source.left → mid.reads ≡ old.reads + layout_reads old.order header old.source.left →
    AnswersExactly view (transition h mid.source.left) (length_after h) (reads h mid.source.left) mid r new →
    AnswersExactly view (of_frame transition old.order old.source.left) (frame_length old.order old.source.left) (frame_reads reads old.order old.source.left) old r new
tells_frame view transition reads old mid new h (Ok x) fits e m n p = (
  frame_whole transition old.order old.source.left fits ∙ ap (λ k. transition k (drop 8 old.source.left)) (sym e) ∙ ap (transition h) (sym m) ∙ p.0,
  after_frame old.order old.source.left mid.source.left new.source.left h e m p.1,
  told_reads reads old mid h new.reads fits e m n p.2,
)
tells_frame view transition reads old mid new h (Err x) fits e m n p = λ kind. let q = p kind in (
  frame_whole transition old.order old.source.left fits ∙ ap (λ k. transition k (drop 8 old.source.left)) (sym e) ∙ ap (transition h) (sym m) ∙ q.0,
  after_frame old.order old.source.left mid.source.left new.source.left h e m q.1,
  told_reads reads old mid h new.reads fits e m n q.2,
)

-- a header that is missing
pub tells_no_header : {X V : Type 0} (view : X → V) (transition : perf_event_header → List ℕ → Result V ErrorKind) (reads : perf_event_header → List ℕ → ℕ) (old new : ReaderState) (e : ErrorKind) →
    length old.source.left < 8 → e ≡ Eof → new.source.left ≡ [] → new.reads ≡ old.reads + layout_reads old.order header old.source.left →
    AnswersExactly view (of_frame transition old.order old.source.left) (frame_length old.order old.source.left) (frame_reads reads old.order old.source.left) old (Err e) new
tells_no_header view transition reads old new e short eof none n = λ kind.
    let bytes : List ℕ = old.source.left in
    let a : nat_lt (length bytes) 8 ≡ true = lt-ltb (length bytes) 8 short in
    let whole : frame_length old.order bytes ≡ 8 + length_after (header_of old.order bytes) = frame_body (header_of old.order bytes) in
    (rw a (ap Err (sym eof)), none ∙ sym (drop_all (frame_length old.order bytes) bytes (omega arith)), omega (arith, n, reads_cut reads old.order bytes short))

-- ---- how much of a frame is taken
pub no_header_within : (o : Order) (old new : Source) (e : ErrorKind) → (IsTrue (of_layout e) → (length old.left < 8) × (e ≡ Eof) × (new.left ≡ [])) → e ≢ OutOfMemory → is_external (Some e) ≡ false →
    MovesWithin old (frame_length o old.left) new
no_header_within o old new Eof lacks memory inside = let p = lacks refl in within_all old new (frame_length o old.left) (omega (arith, p.0)) p.2
no_header_within o old new InvalidRecord lacks memory inside = let p = lacks refl in within_all old new (frame_length o old.left) (omega (arith, p.0)) p.2
no_header_within o old new UnsupportedConfig lacks memory inside = let p = lacks refl in within_all old new (frame_length o old.left) (omega (arith, p.0)) p.2
no_header_within o old new UnsupportedData lacks memory inside = let p = lacks refl in within_all old new (frame_length o old.left) (omega (arith, p.0)) p.2
no_header_within o old new External lacks memory inside = absurd (cc)
no_header_within o old new OutOfMemory lacks memory inside = absurd (memory refl)

pub frame_within : (o : Order) (old mid new : Source) (h : perf_event_header) → 8 ≤ length old.left → h ≡ header_of o old.left → mid.left ≡ drop 8 old.left → MovesWithin mid (length_after h) new →
    MovesWithin old (frame_length o old.left) new
frame_within o old mid new h fits e m p =
    let whole : frame_length o old.left ≡ 8 + length_after h = ap (λ (q : perf_event_header). max 8 q.size) (sym e) ∙ frame_body h in
    let first : MovesWithin old 8 mid = within_taken old mid 8 (fits, m) in
    (omega (arith, whole, first.0, p.0), moves_more old mid new first.1 p.1)

-- ---- what its header refuses
-- a header that was read
pub refuses_read : {X : Type 0} (o : Order) (bytes : List ℕ) (h : perf_event_header) (outcome : Result X ErrorKind) → 8 ≤ length bytes → h ≡ header_of o bytes → (h.size < 8 → outcome ≡ Err InvalidRecord) →
    RefusesHeader o bytes outcome
refuses_read o bytes h outcome fits e small = λ inside. ((λ short. absurd (omega arith)), (λ long little. small (subst (λ (k : perf_event_header). k.size < 8) (sym e) little)))

-- one that is missing
lacking : {X : Type 0} (o : Order) (bytes : List ℕ) (e : ErrorKind) → (length bytes < 8) × (e ≡ Eof) → RefusesHeader {X = X} o bytes (Err e)
lacking o bytes e p = λ inside. ((λ short. ap Err p.1), (λ long little. absurd (omega (arith, p.0))))

-- one that was not read
pub refuses_unread : {X : Type 0} (o : Order) (bytes left : List ℕ) (e : ErrorKind) → (IsTrue (of_layout e) → (length bytes < 8) × (e ≡ Eof) × (left ≡ [])) → e ≢ OutOfMemory →
    RefusesHeader {X = X} o bytes (Err e)
refuses_unread o bytes left Eof lacks memory = let p = lacks refl in lacking o bytes Eof (p.0, p.1)
refuses_unread o bytes left InvalidRecord lacks memory = let p = lacks refl in lacking o bytes InvalidRecord (p.0, p.1)
refuses_unread o bytes left UnsupportedConfig lacks memory = let p = lacks refl in lacking o bytes UnsupportedConfig (p.0, p.1)
refuses_unread o bytes left UnsupportedData lacks memory = let p = lacks refl in lacking o bytes UnsupportedData (p.0, p.1)
refuses_unread o bytes left External lacks memory = λ inside. absurd (cc)
refuses_unread o bytes left OutOfMemory lacks memory = absurd (memory refl)
