-- What a counter has counted of the frames that were handed to it.
use Rattle.std.proofs.Common.{◌≡◌, ◌≢◌, ℕ, zero, suc, ◌+◌, ◌-◌, ◌*◌, ◌%◌, ◌^◌, ◌<◌, ◌≤◌, Bool, true, false, List, [], ◌∷◌, ◌++◌, length, take, drop, map, arith, refl, sym, ◌∙◌, ap, subst, nat_lt, inl, inr, Ok, Err, None, Some, length-drop}
use Rattle.std.specs.Prelude.{IsTrue, IfOk, IfErr, Option, Result, is_err, sum_by, count_by, count_ones, nat_le}
use Rattle.std.proofs.lemmas.Bool.{cases_lt, lt-ltb, le-ltb, le-leb}
use Rattle.std.proofs.lemmas.List.{take_all, length-append, length-take, length-take-le, append-nil, take-take, take-map, append_assoc}
use Rattle.std.proofs.lemmas.List.Sums.{sum_by-append}
use Rattle.perf_base.specs.Errors.{kind_of}
use Rattle.perf_base.specs.Refusals.{refusal_kind}
use Rattle.perf_base.specs.Header.{header_of}
use Rattle.perf_base.specs.Order.{Order}
use Rattle.perf_base.specs.declared.error.ErrorKind.{ErrorKind}
use Rattle.perf_base.specs.declared.error.ErrorKind.TheVariants.{Eof, InvalidRecord, External, OutOfMemory}
use Rattle.perf_base.specs.declared.error.ParseError.{ParseError}
use Rattle.perf_base.specs.declared.sys.perf_event_header.{perf_event_header}
use Rattle.perf_buffers.specs.Buffer.{Source, BufferInvariant}
use Rattle.perf_reader.specs.ReaderState.{ReaderState}
use Rattle.perf_reader.specs.Reading.{of_layout, is_external}
use Rattle.perf_reader.proofs.Calls.{last_moved}
use Rattle.perf_base.specs.Configuration.{Configuration, under_misc}
use Rattle.perf_base.specs.Attribute.{attribute}
use Rattle.perf_base.specs.Took.{took, took_by_places}
use Rattle.perf_base.specs.declared.sys.perf_event_attr.{perf_event_attr}
use Rattle.perf_records.proofs.LayoutResults.{took_result}
use Rattle.perf_base.specs.Layout.{done, map_parts, layout, value}
use Rattle.perf_base.proofs.Algebra.{then_inv}
use Rattle.perf_base.proofs.Tables.{layout_run, run_layout}
use Rattle.perf_sample_types.specs.Sample.{SampleValue, sample}
use Rattle.perf_sample_types.specs.SampleGetters.{getters_of}
use Rattle.perf_sample_types.specs.SampleGroups.{sample_value}
use Rattle.perf_sample_types.specs.declared.sample.Sample.{Sample}
use Rattle.perf_sample_types.proofs.LeastSamples.{short_sample}
use Rattle.perf_base.specs.declared.refusal.Refusal.TheVariants as why
use Rattle.perf_records.specs.Bodies.{body, body_of_type, unread}
use Rattle.perf_records.specs.FrameReadings.{FrameGivesOrBad, PutsSample, metadata_in}
use Rattle.perf_records.specs.Metadata.{MetadataValue, id_length}
use Rattle.perf_records.specs.declared.frame_handler.BadFrame.{BadFrame}
use Rattle.perf_records.specs.Records.{type_of}
use Rattle.perf_records.specs.Answers.{FrameParts, parts_of, length_after, split_after, record_in, answer_after, answer_of_frame, answers}
use Rattle.perf_records.specs.Frames.{frame_length, first_frames, frames, drop_frames}
use Rattle.perf_records.specs.Records.{RecordValue, sample_is}
use Rattle.perf_records.specs.Sights.{Sight, whole, bad, sight_after, sight_in}
use Rattle.perf_records.proofs.FrameList.{frames_first, frames_short}
use Rattle.perf_records.proofs.Handovers.{finished}
use Rattle.perf_records.proofs.Headers.{answer_whole}
use Rattle.perf_parser.specs.FrameRuns.{Handed, HandsFirst, EndsFrames, frames_refusal}
use Rattle.perf_parser.specs.Runs.{EndsWith, MovesWithinFrame, RunInvariant, end_refusal}
use Rattle.perf_parser.specs.declared.run.RunEnd.{RunEnd}
use Rattle.perf_parser.proofs.FrameHandovers.{moved_by}
use Rattle.perf_parser.proofs.Lists.{AreThere, there_fits, there_next, after_on, frames_fit}
use Rattle.perf_reports.specs.Counting.{modulo_word, frame_sum, counts_of, plus, sight_header, sight_answer, counted_sight, IsRefused, RanOut, EndsBy, CountsSight, CountsRun, RefusesSight, SumsAnswer, Adds, record_sum, sample_sum, bad_kinds, attribute_in}
use Rattle.perf_reports.specs.declared.counting.FrameCounter.{FrameCounter}
use Rattle.perf_reports.specs.declared.counts.Counts.{Counts}

-- ---- the result of a frame by what is seen of it

split_small : (c : Configuration) (o : Order) (h : perf_event_header) (bytes : List ℕ) → h.size < 8 → split_after c o h bytes ≡ Err InvalidRecord
split_small c o h bytes small = let a : nat_lt h.size 8 ≡ true = lt-ltb h.size 8 small in rw a refl

split_short : (c : Configuration) (o : Order) (h : perf_event_header) (bytes : List ℕ) → 8 ≤ h.size → length bytes < length_after h → split_after c o h bytes ≡ Err Eof
split_short c o h bytes sized short =
    let a : nat_lt h.size 8 ≡ false = le-ltb h.size 8 sized in
    let b : nat_lt (length bytes) (length_after h) ≡ true = lt-ltb (length bytes) (length_after h) short in
    rw (a, b) refl

split_take : (c : Configuration) (o : Order) (h : perf_event_header) (bytes : List ℕ) → length_after h ≤ length bytes → split_after c o h (take (length_after h) bytes) ≡ split_after c o h bytes
split_take c o h bytes fits =
    let all : length (take (length_after h) bytes) ≡ length_after h = length-take-le (length_after h) bytes fits in
    let a : nat_lt (length (take (length_after h) bytes)) (length_after h) ≡ false = le-ltb (length (take (length_after h) bytes)) (length_after h) (omega (arith, all)) in
    let b : nat_lt (length bytes) (length_after h) ≡ false = le-ltb (length bytes) (length_after h) fits in
    let t : take (length_after h) (take (length_after h) bytes) ≡ take (length_after h) bytes = take-take (length_after h) (length_after h) bytes (omega arith) in
    rw (a, b, t) refl

sight_small : (h : perf_event_header) (bytes : List ℕ) (borrowed : Bool) → h.size < 8 → sight_after h bytes borrowed ≡ bad h why.SmallHeader
sight_small h bytes borrowed small = let a : nat_lt h.size 8 ≡ true = lt-ltb h.size 8 small in rw a refl

sight_short : (h : perf_event_header) (bytes : List ℕ) (borrowed : Bool) → 8 ≤ h.size → length bytes < length_after h → sight_after h bytes borrowed ≡ bad h why.Eof
sight_short h bytes borrowed sized short =
    let a : nat_lt h.size 8 ≡ false = le-ltb h.size 8 sized in
    let b : nat_lt (length bytes) (length_after h) ≡ true = lt-ltb (length bytes) (length_after h) short in
    rw (a, b) refl

-- the header and the result that are counted for what is seen
abbrev seen_pair : Configuration → Order → Sight → perf_event_header × Result RecordValue ErrorKind
seen_pair c o seen = (sight_header seen, sight_answer c o seen)

-- the header and the result of a frame
abbrev pub pair_of : Configuration → Order → List ℕ → perf_event_header × Result RecordValue ErrorKind
pair_of c o frame = (header_of o frame, answer_of_frame c o frame)

after_pair : (c : Configuration) (o : Order) (h : perf_event_header) (bytes : List ℕ) (borrowed : Bool) → seen_pair c o (sight_after h bytes borrowed) ≡ (h, answer_after c o h bytes)
after_pair c o h bytes borrowed = elim (cases_lt h.size 8) [
  | inl small ↦ ap (seen_pair c o) (sight_small h bytes borrowed small) ∙ ap (λ s. (h, record_in c o h s)) (sym (split_small c o h bytes small))
  | inr sized ↦ elim (cases_lt (length bytes) (length_after h)) [
    | inl short ↦ ap (seen_pair c o) (sight_short h bytes borrowed sized short) ∙ ap (λ s. (h, record_in c o h s)) (sym (split_short c o h bytes sized short))
    | inr fits ↦ ap (seen_pair c o) (finished h bytes borrowed sized fits) ∙ ap (λ s. (h, record_in c o h s)) (split_take c o h bytes fits)
  ]
]

pub frame_pair : (c : Configuration) (o : Order) (frame : List ℕ) (borrowed : Bool) → 8 ≤ length frame → seen_pair c o (sight_in o frame borrowed) ≡ pair_of c o frame
frame_pair c o frame borrowed fits =
    after_pair c o (header_of o frame) (drop 8 frame) borrowed ∙ ap (λ r. (header_of o frame, r)) (sym (answer_whole c o frame fits))

-- ---- counts add up

abbrev pub Answered : Type 0
Answered = perf_event_header × Result RecordValue ErrorKind

wrapped_sum : (m n : ℕ) → modulo_word (modulo_word m + modulo_word n) ≡ modulo_word (m + n)
wrapped_sum m n = omega arith

counted_more : (xs ys : List Answered) → plus (counts_of xs) (counts_of ys) ≡ counts_of (xs ++ ys)
counted_more xs ys =
    let a : length (xs ++ ys) ≡ length xs + length ys = length-append xs ys in
    let b : count_by (λ (pair : Answered). is_err pair.1) (xs ++ ys) ≡ count_by (λ (pair : Answered). is_err pair.1) xs + count_by (λ (pair : Answered). is_err pair.1) ys = sum_by-append _ xs ys in
    let d : sum_by frame_sum (xs ++ ys) ≡ sum_by frame_sum xs + sum_by frame_sum ys = sum_by-append frame_sum xs ys in
    rw (a, b, d) (made (wrapped_sum _ _) (wrapped_sum _ _) (wrapped_sum _ _))
  where
    made : {r r' f f' k k' : ℕ} → r ≡ r' → f ≡ f' → k ≡ k' → ◌≡◌ {A = Counts} (record { records = r; refused = f; checksum = k }) (record { records = r'; refused = f'; checksum = k' })
    made p q s = cc

-- ---- samples that are too short for their fields

-- one refused frame is counted, whatever the refusal is
pub refused_counts : (h : perf_event_header) (says : Result RecordValue ErrorKind) → IsRefused says → counts_of ((h, says) ∷ []) ≡ counts_of ((h, Err Eof) ∷ [])
refused_counts h (Ok value) refused = absurd refused
refused_counts h (Err e) refused = refl

-- they contain no record
short_answer : (c : Configuration) (o : Order) (h : perf_event_header) (bytes : List ℕ) (v : RecordValue) → 8 ≤ h.size → length bytes ≡ length_after h → h.type_ ≡ 9 →
    length bytes < 8 * count_ones (c.sample_type % 2 ^ 24) → answer_after c o h bytes ≡ Ok v → ⊥
short_answer c o h bytes v sized all_there is short answer =
    let c' : Configuration = under_misc h.misc c in
    let none : id_length c h.type_ ≡ 0 = ap (id_length c) is in
    let small : nat_lt h.size 8 ≡ false = le-ltb h.size 8 sized in
    let fits : nat_lt (length bytes) (length_after h) ≡ false = le-ltb (length bytes) (length_after h) (omega (arith, all_there)) in
    let room : nat_lt (length_after h) (id_length c h.type_) ≡ false = le-ltb (length_after h) (id_length c h.type_) (omega (arith, none)) in
    let all : take (length_after h) bytes ≡ bytes = take_all (length_after h) bytes (omega (arith, all_there)) in
    let own : take (length bytes - id_length c h.type_) bytes ≡ bytes = take_all (length bytes - id_length c h.type_) bytes (omega (arith, none)) in
    let split : split_after c o h bytes ≡ Ok (parts_of c o h bytes) = rw (small, fits, room, all) refl in
    let made : layout o (body c' 9) bytes ≡ Ok v =
    sym (ap (λ b. layout o (body c' 9) b) own) ∙ sym (ap (λ ty. layout o (body c' ty) (take (length bytes - id_length c h.type_) bytes)) is) ∙ sym (ap (record_in c o h) split) ∙ answer in
    let first = then_inv o (sample c') (λ s. done (sample_is s)) bytes v _ (layout_run o (map_parts sample_is (sample c')) bytes v made) in
    subst (λ (r : Result SampleValue ErrorKind). IfOk r (λ s. ⊥)) (run_layout o (sample c') bytes first.0 first.1 first.2).0 (short_sample c' o bytes short)

pub short_refused : (c : Configuration) (o : Order) (h : perf_event_header) (bytes : List ℕ) → 8 ≤ h.size → length bytes ≡ length_after h → h.type_ ≡ 9 →
    length bytes < 8 * count_ones (c.sample_type % 2 ^ 24) → IsRefused (answer_after c o h bytes)
short_refused c o h bytes sized all_there is short = go (answer_after c o h bytes) refl
  where
    go : (says : Result RecordValue ErrorKind) → answer_after c o h bytes ≡ says → IsRefused says
    go (Ok v) answer = short_answer c o h bytes v sized all_there is short answer
    go (Err e) answer = tt

-- ---- frames that were handed out

-- each frame has at least the length of a header
abbrev pub Headed : List (List ℕ) → Type 0
Headed [] = Unit {0}
Headed (frame ∷ more) = (8 ≤ length frame) × Headed more

pub frames_headed : (o : Order) (n : ℕ) (bytes : List ℕ) → Headed (first_frames o n bytes)
frames_headed o zero bytes = tt
frames_headed o (suc n) bytes = elim (cases_lt (length bytes) 8) [
  | inl short ↦ subst Headed (sym (frames_short o (suc n) bytes short)) tt
  | inr fits ↦ subst Headed (sym (frames_first o n bytes fits)) (omega (arith, length-take (frame_length o bytes) bytes, fits), frames_headed o n (drop (frame_length o bytes) bytes))
]

module _ (c : Configuration) (o : Order) (all : Bool) where
  abbrev gets : FrameCounter → Sight → Bool → FrameCounter → Type 0
  gets was seen go now = CountsSight was c o seen go now

  -- one more frame
  one_more : (xs : List Answered) (frame : List ℕ) (borrowed : Bool) (was now : FrameCounter) → 8 ≤ length frame → was.counts ≡ counts_of xs →
      now.counts ≡ plus was.counts (counted_sight c o (sight_in o frame borrowed)) → now.counts ≡ counts_of (xs ++ pair_of c o frame ∷ [])
  one_more xs frame borrowed was now fits so_far got =
      got ∙ ap (λ k. plus k (counted_sight c o (sight_in o frame borrowed))) so_far
      ∙ ap (λ p. plus (counts_of xs) (counts_of (p ∷ []))) (frame_pair c o frame borrowed fits)
      ∙ counted_more xs (pair_of c o frame ∷ [])

  regroup : (xs : List Answered) (frame : List ℕ) (more : List (List ℕ)) → (xs ++ pair_of c o frame ∷ []) ++ map (pair_of c o) more ≡ xs ++ map (pair_of c o) (frame ∷ more)
  regroup xs frame more = append_assoc xs (pair_of c o frame ∷ []) (map (pair_of c o) more)

  -- the run went on after each of them
  all_counted : (xs : List Answered) (fs : List (List ℕ)) (was now : FrameCounter) → Headed fs → was.counts ≡ counts_of xs → Handed gets o all was fs true now →
      now.counts ≡ counts_of (xs ++ map (pair_of c o) fs)
  all_counted xs [] was now headed so_far p = ap (λ (k : FrameCounter). k.counts) p.0 ∙ so_far ∙ ap counts_of (sym (append-nil xs))
  all_counted xs (frame ∷ fs) was now headed so_far p = elim p.2 [
    | inl more ↦ all_counted (xs ++ pair_of c o frame ∷ []) fs more.0 now headed.1 (one_more xs frame p.0 was more.0 headed.0 so_far more.1) more.2 ∙ ap counts_of (regroup xs frame fs)
    | inr last ↦ let never : true ≡ false = last.2 in absurd (cc)
  ]

  -- the counter ended the run at the last of them, and did not count that one
  but_last_counted : (xs : List Answered) (fs : List (List ℕ)) (was now : FrameCounter) → Headed fs → was.counts ≡ counts_of xs → Handed gets o all was fs false now →
      (k : ℕ) × (suc k ≡ length fs) × (now.counts ≡ counts_of (xs ++ map (pair_of c o) (take k fs))) × RanOut now.error
  but_last_counted xs [] was now headed so_far p = let never : false ≡ true = p.1 in absurd (cc)
  but_last_counted xs (frame ∷ fs) was now headed so_far p = elim p.2 [
    | inl more ↦
        let r = but_last_counted (xs ++ pair_of c o frame ∷ []) fs more.0 now headed.1 (one_more xs frame p.0 was more.0 headed.0 so_far more.1) more.2 in
        (suc r.0, ap suc r.1, r.2 ∙ ap counts_of (regroup xs frame (take r.0 fs)), r.3)
    | inr last ↦ (0, ap suc (sym (ap length last.1)), last.0.0 ∙ so_far ∙ ap counts_of (sym (append-nil xs)), last.0.1)
  ]

-- ---- the answers of a stream

-- the first k of more frames
frames_take : (o : Order) (k n : ℕ) (bytes : List ℕ) → AreThere o k bytes → k ≤ n → take k (first_frames o n bytes) ≡ first_frames o k bytes
frames_take o zero n bytes h le = refl
frames_take o (suc k) zero bytes h le = absurd (omega arith)
frames_take o (suc k) (suc n) bytes h le =
    let eight : 8 ≤ length bytes = there_fits o k bytes h in
    ap (take (suc k)) (frames_first o n bytes eight)
    ∙ ap (λ fs. take (frame_length o bytes) bytes ∷ fs) (frames_take o k n (drop (frame_length o bytes) bytes) (there_next o k bytes h) (omega arith))
    ∙ sym (frames_first o k bytes eight)

pub first_answers : (c : Configuration) (o : Order) (n : ℕ) (bytes : List ℕ) → AreThere o n bytes → map (pair_of c o) (first_frames o n bytes) ≡ take n (answers c o bytes)
first_answers c o n bytes there =
    ap (map (pair_of c o)) (sym (frames_take o n (length bytes) bytes there (frames_fit o n bytes there)))
    ∙ sym (take-map (pair_of c o) n (frames o bytes))

fewer_answers : (c : Configuration) (o : Order) (k n : ℕ) (bytes : List ℕ) → k ≤ n → AreThere o n bytes → map (pair_of c o) (take k (first_frames o n bytes)) ≡ take k (answers c o bytes)
fewer_answers c o k n bytes le there =
    sym (take-map (pair_of c o) k (first_frames o n bytes)) ∙ ap (take k) (first_answers c o n bytes there) ∙ take-take k n (answers c o bytes) le

-- ---- how a run ends that its handler ended

-- the bytes after one more frame are a suffix of those after the others
taken_within : (o : Order) (bytes left : List ℕ) → left ≡ drop (frame_length o bytes) bytes → MovesWithinFrame o bytes left
taken_within o bytes left p =
    let old : Source = record { left = bytes; told = true; whole = false; can_fault = false; faults = None } in
    let new : Source = record { left = left; told = true; whole = false; can_fault = false; faults = None } in
    let moved = moved_by (frame_length o bytes) old new p in
    let n : length left ≡ length bytes - frame_length o bytes = ap length p ∙ length-drop (frame_length o bytes) bytes in
    (moved.0, omega (arith, n), last_moved old new moved)

-- being out of memory is none of the layout's refusals
no_layout : (e : ParseError) → kind_of e ≡ OutOfMemory → IsTrue (of_layout (kind_of e)) → ⊥
no_layout e out known = let never : false ≡ true = subst (λ (k : ErrorKind). IsTrue (of_layout k)) out known in absurd (cc)

ended_by : (o : Order) (limit k : ℕ) (bytes left : List ℕ) (error : Option ParseError) (e : RunEnd) → k < limit → RanOut error → EndsBy error e →
    left ≡ drop_frames o (k + 1) bytes → EndsWith o limit bytes k e left
ended_by o limit k bytes left None e below out by after = absurd out
ended_by o limit k bytes left (Some x) e below out by after =
    subst (λ (y : RunEnd). EndsWith o limit bytes k y left) (sym by)
    (below, no_layout x out.kind_is, taken_within o (drop_frames o k bytes) left (after ∙ after_on o k bytes))

-- the end of a run over frames that were handed to a counter
abbrev pub IsRunEnd : Option RunEnd → FrameCounter → RunEnd → Type 0
IsRunEnd (Some x) now e = e ≡ x
IsRunEnd None now e = EndsBy now.error e

pub run_counts : (old : ReaderState) (limit count : ℕ) (ended : Option RunEnd) (e : RunEnd) (was now : FrameCounter) (left : List ℕ) → was.counts ≡ counts_of [] →
    HandsFirst (λ s x. CountsSight s old.settings old.order x) old count ended was now → EndsFrames old.order limit old.source.left count ended left → IsRunEnd ended now e →
    CountsRun old.settings old.order limit old.source.left now.counts e left
run_counts old limit count (Some x) e was now left none handed ends is =
    let c : Configuration = old.settings in let o : Order = old.order in let bytes : List ℕ = old.source.left in
    let fs : List (List ℕ) = first_frames o count bytes in (
      count,
      all_counted c o old.source.whole [] fs was now (frames_headed o count bytes) none handed.1 ∙ ap counts_of (first_answers c o count bytes handed.0),
      subst (λ (y : RunEnd). EndsWith o limit bytes count y left) (sym is) ends,
    )
run_counts old limit count None e was now left none handed ends is =
    let c : Configuration = old.settings in let o : Order = old.order in let bytes : List ℕ = old.source.left in
    let fs : List (List ℕ) = first_frames o count bytes in
    let r = but_last_counted c o old.source.whole [] fs was now (frames_headed o count bytes) none handed.1 in
    let k : ℕ = r.0 in
    let one_more : k + 1 ≡ count = omega (arith, r.1, handed.0) in (
      k,
      r.2 ∙ ap counts_of (fewer_answers c o k count bytes (omega (arith, one_more)) handed.0),
      ended_by o limit k bytes left now.error e (omega (arith, one_more, ends.1)) r.3 is (ends.2 ∙ ap (λ n. drop_frames o n bytes) (sym one_more)),
    )

-- how a run ended in which memory ran out
ended_out : (error : Option ParseError) (e : RunEnd) → RanOut error → EndsBy error e → end_refusal e ≡ Some OutOfMemory
ended_out None e out by = absurd out
ended_out (Some x) e out by = ap end_refusal by ∙ ap Some out.kind_is

-- a fault of the buffer ends a run as such, and nothing else does
pub run_keeps : (old : ReaderState) (n count : ℕ) (ended : Option RunEnd) (e : RunEnd) (was now : FrameCounter) (new : ReaderState) → was.counts ≡ counts_of [] →
    HandsFirst (λ s x. CountsSight s old.settings old.order x) old count ended was now → IsRunEnd ended now e → RunInvariant old n (frames_refusal ended) new →
    BufferInvariant old.source (end_refusal e) new.source × (is_external (end_refusal e) ≡ true → IsTrue old.source.can_fault)
run_keeps old n count (Some x) e was now new none handed is p =
    let kind : end_refusal e ≡ end_refusal x = ap end_refusal is in
    (subst (λ (k : Option ErrorKind). BufferInvariant old.source k new.source) (sym kind) p.buffer, (λ external. p.fault (sym (ap is_external kind) ∙ external)))
run_keeps old n count None e was now new none handed is p =
    let fs : List (List ℕ) = first_frames old.order count old.source.left in
    let r = but_last_counted old.settings old.order old.source.whole [] fs was now (frames_headed old.order count old.source.left) none handed.1 in
    let kind : end_refusal e ≡ Some OutOfMemory = ended_out now.error e r.3 is in
    (subst (λ (k : Option ErrorKind). BufferInvariant old.source k new.source) (sym kind) p.buffer, (λ external. let never : false ≡ true = sym (ap is_external kind) ∙ external in absurd (cc)))

-- ---- what is summed of a frame

-- what a visit of a frame summed
pub visited_sum : (h : perf_event_header) (c : Configuration) (o : Order) (bytes : List ℕ) (borrowed : Bool) (r : Result ℕ BadFrame) →
    FrameGivesOrBad Adds h c o bytes borrowed r → SumsAnswer (answer_after c o h bytes) (bad_kinds r)
visited_sum h c o bytes borrowed (Ok sum) v = (v.0, v.5, v.3)
visited_sum h c o bytes borrowed (Err x) v = (v.1, v.3)

-- the sum of a sample that was read into a place
pub placed_sum : (h : perf_event_header) (c : Configuration) (o : Order) (bytes : List ℕ) (borrowed : Bool) (r : Result Bool BadFrame) (put : Bool) (now : Sample) (sum : ℕ) →
    FrameGivesOrBad (λ e x. PutsSample e x now) h c o bytes borrowed r → r ≡ Ok put → sum ≡ modulo_word (sample_sum (getters_of (sample_value now))) →
    SumsAnswer (answer_after c o h bytes) (Ok sum)
placed_sum h c o bytes borrowed r put now sum gives is same =
    let v = subst (λ (q : Result Bool BadFrame). FrameGivesOrBad (λ e x. PutsSample e x now) h c o bytes borrowed q) is gives in
    let value : sample_is (sample_value now) ≡ v.0 = v.3.1.0 in
    (v.0, v.5, same ∙ ap (λ r. modulo_word (record_sum r)) value)

-- a sample that is refused sums nothing
pub placed_refused : (h : perf_event_header) (c : Configuration) (o : Order) (bytes : List ℕ) (borrowed : Bool) (r : Result Bool BadFrame) (x : BadFrame) (now : Sample) →
    FrameGivesOrBad (λ e put. PutsSample e put now) h c o bytes borrowed r → r ≡ Err x → SumsAnswer (answer_after c o h bytes) (Err (refusal_kind x.refusal))
placed_refused h c o bytes borrowed r x now gives is =
    let v = subst (λ (q : Result Bool BadFrame). FrameGivesOrBad (λ e put. PutsSample e put now) h c o bytes borrowed q) is gives in
    (v.1, v.3)

-- a type that the kernel does not have: its body is all bytes, whatever they are
unread_says : (o : Order) (ty : ℕ) (bytes : List ℕ) → layout o (unread ty) bytes ≡ Ok (value o bytes 0 (unread ty))
unread_says o ty bytes =
    let fits : nat_le (0 + (length bytes - 0)) (length bytes) ≡ true = le-leb (0 + (length bytes - 0)) (length bytes) (omega arith) in
    ap (λ (b : Bool). elim (elim b as (λ b. Option ErrorKind) [ true ↦ None | false ↦ Some Eof ]) as (λ f. Result RecordValue ErrorKind) [ None ↦ Ok (value o bytes 0 (unread ty)) | Some e ↦ Err e ]) fits

unknown_says : (c : Configuration) (o : Order) (h : perf_event_header) (parts : FrameParts) → type_of h.type_ ≡ None → record_in c o h (Ok parts) ≡ Ok (value o parts.body 0 (unread h.type_))
unknown_says c o h parts none =
    ap (λ t. layout o (body_of_type (under_misc h.misc c) h.type_ t) parts.body) none ∙ unread_says o h.type_ parts.body

pub unknown_adds : (c : Configuration) (o : Order) (h : perf_event_header) (bytes : List ℕ) (m : MetadataValue) → type_of h.type_ ≡ None → Ok m ≡ metadata_in (split_after c o h bytes) →
    SumsAnswer (answer_after c o h bytes) (Ok 0)
unknown_adds c o h bytes m none is = by (split_after c o h bytes) refl
  where
    by : (s : Result FrameParts ErrorKind) → split_after c o h bytes ≡ s → SumsAnswer (answer_after c o h bytes) (Ok 0)
    by (Ok parts) e = (value o parts.body 0 (unread h.type_), ap (record_in c o h) e ∙ unknown_says c o h parts none, refl)
    by (Err k) e = let never : Ok m ≡ metadata_in (Err k) = is ∙ ap metadata_in e in absurd (cc)

pub unknown_refused : (c : Configuration) (o : Order) (h : perf_event_header) (bytes : List ℕ) (x : ParseError) → Err (kind_of x) ≡ metadata_in (split_after c o h bytes) → kind_of x ≡ InvalidRecord →
    SumsAnswer (answer_after c o h bytes) (Err (kind_of x))
unknown_refused c o h bytes x is invalid = by (split_after c o h bytes) refl
  where
    by : (s : Result FrameParts ErrorKind) → split_after c o h bytes ≡ s → SumsAnswer (answer_after c o h bytes) (Err (kind_of x))
    by (Ok parts) e = let never : Err (kind_of x) ≡ metadata_in (Ok parts) = is ∙ ap metadata_in e in absurd (cc)
    by (Err k) e =
        let same : Err (kind_of x) ≡ metadata_in (Err k) = is ∙ ap metadata_in e in
        let kind : kind_of x ≡ k = cc in
        ((λ layout. ap (record_in c o h) e ∙ ap Err (sym kind)), (λ external. let never : External ≡ InvalidRecord = sym external ∙ invalid in absurd (cc)))

-- ---- what a counter counts of one frame

pub sums_seen : (h : perf_event_header) (c : Configuration) (o : Order) (bytes : List ℕ) (borrowed : Bool) (sum : ℕ) (was now : FrameCounter) → SumsAnswer (answer_after c o h bytes) (Ok sum) →
    ((r : RecordValue) → sum ≡ modulo_word (record_sum r) → now.counts ≡ plus was.counts (counts_of ((h, Ok r) ∷ []))) → CountsSight was c o (whole h bytes borrowed) true now
sums_seen h c o bytes borrowed sum was now says added = added says.0 says.2 ∙ ap (λ a. plus was.counts (counts_of ((h, a) ∷ []))) (sym says.1)

pub refuses_seen : (h : perf_event_header) (c : Configuration) (o : Order) (bytes : List ℕ) (borrowed : Bool) (e : ErrorKind) (was now : FrameCounter) (go : Bool) → SumsAnswer (answer_after c o h bytes) (Err e) →
    RefusesSight e was go now → CountsSight was c o (whole h bytes borrowed) go now
refuses_seen h c o bytes borrowed e was now true says p = p.1 h ∙ ap (λ a. plus was.counts (counts_of ((h, a) ∷ []))) (sym (says.0 p.0))
refuses_seen h c o bytes borrowed e was now false says p = p

-- a counter that has counted as much counts the same
pub counts_alike : (c : Configuration) (o : Order) (seen : Sight) (was was' now : FrameCounter) (go : Bool) → was'.counts ≡ was.counts → CountsSight was' c o seen go now → CountsSight was c o seen go now
counts_alike c o seen was was' now true same p = p ∙ ap (λ k. plus k (counted_sight c o seen)) same
counts_alike c o seen was was' now false same p = (p.0 ∙ same, p.1)

-- no fault is the kind of a refusal
pub sums_inside : (says : Result RecordValue ErrorKind) (r : Result ℕ ErrorKind) → SumsAnswer says r → IfErr r (λ kind. kind ≢ External)
sums_inside says (Ok sum) p = tt
sums_inside says (Err kind) p = p.1

-- ---- the attribute of a stream

pub attribute_read : (o : Order) (bytes left : List ℕ) (n m : ℕ) (a : perf_event_attr) → took_by_places o attribute bytes n ≡ took a left m → attribute_in o bytes ≡ Ok a
unfolding attribute_in
attribute_read o bytes left n m a h = (took_result o attribute bytes left n m a h).0

pub attribute_refused : (o : Order) (bytes : List ℕ) (e : ErrorKind) → layout o attribute bytes ≡ Err e → attribute_in o bytes ≡ Err e
unfolding attribute_in
attribute_refused o bytes e h = h
