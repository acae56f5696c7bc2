-- What a flat frame states, by how it was made.
use Rattle.std.proofs.Common.{◌≡◌, ℕ, ◌+◌, ◌-◌, ◌≤◌, ◌<◌, ◌^◌, Bool, true, false, List, [], ◌∷◌, length, take, drop, Option, Some, None, Result, Ok, Err, refl, sym, ◌∙◌, ap, subst, inl, inr, arith}
use Rattle.std.specs.Prelude.{nat_lt}
use Rattle.std.proofs.lemmas.Bool.{cases_lt, lt-ltb, le-ltb}
use Rattle.std.proofs.lemmas.List.{length-drop, length-take, length-take-le, take-take, drop-take, take_all}
use Rattle.perf_base.specs.Configuration.{Configuration, under_misc}
use Rattle.perf_base.specs.Header.{header_of}
use Rattle.perf_base.specs.Order.{Order}
use Rattle.perf_base.specs.Refusals.{refusal_kind}
use Rattle.perf_base.specs.declared.error.ErrorKind.{ErrorKind}
use Rattle.perf_base.specs.declared.error.ErrorKind.TheVariants.{Eof, InvalidRecord}
use Rattle.perf_base.specs.declared.refusal.Refusal.{Refusal}
use Rattle.perf_base.specs.declared.refusal.Refusal.TheVariants as why
use Rattle.perf_base.specs.declared.sys.perf_event_header.{perf_event_header}
use Rattle.perf_records.specs.Answers.{FrameParts, length_after, parts_of, split_after, record_in, answer_after, split_of_frame, answer_of_frame}
use Rattle.perf_records.specs.Bodies.{body}
use Rattle.perf_records.specs.FrameReadings.{HasNoRoom}
use Rattle.perf_records.specs.Frames.{frame_length}
use Rattle.perf_records.specs.FrameList.{sights}
use Rattle.perf_records.specs.Metadata.{id_length, id_of_type}
use Rattle.perf_records.specs.Records.{RecordValue}
use Rattle.perf_sample_types.specs.SampleId.{SampleIdValue}
use Rattle.perf_records.specs.Sights.{Sight, whole, bad, sight_after, sight_in}
use Rattle.perf_records.proofs.FrameList.{next_sight, no_sight, some_sight}
use Rattle.perf_records.proofs.Handovers.{finished}
use Rattle.perf_records.proofs.Headers.{frame_whole, frame_body, header_alone}
use Rattle.perf_records.proofs.Splits.{split_small, split_short, split_no_room, split_whole}
use Rattle.perf_flat.specs.Arrays.{filled}
use Rattle.perf_flat.specs.Flat.{CarriesNumbers, StatesRecord, StatesRefusal, StatesAnswer, HasHeader, IsFlat, IsFlatAfter, IsBad, ids_of, numbers_under, refused_frame, first_frame}
use Rattle.perf_flat.specs.CursorReads.{IsBodyOf, WritesRecord}
use Rattle.perf_records.specs.FrameEnds.{TakesId}
use Rattle.perf_flat.specs.declared.frame.FlatFrame.{FlatFrame}
use Rattle.perf_records.specs.declared.frame_end.FrameEnd.{FrameEnd}
use Rattle.perf_flat.proofs.RecordWrites.{still_headed, now_carries}

-- ---- the body of a frame

ok_is : {A : Type 0} {x y : A} → ◌≡◌ {A = Result A ErrorKind} (Ok x) (Ok y) → x ≡ y
ok_is e = cc

-- it is a front of the bytes after the header
body_front : (c : Configuration) (o : Order) (h : perf_event_header) (bytes : List ℕ) (parts : FrameParts) → split_after c o h bytes ≡ Ok parts →
    (k : ℕ) × (parts.body ≡ take k bytes)
body_front c o h bytes parts e = elim (cases_lt h.size 8) [
  | inl small ↦ let no = sym (split_small c o h bytes small) ∙ e in absurd (cc)
  | inr sized ↦ elim (cases_lt (length bytes) (length_after h)) [
    | inl short ↦ let no = sym (split_short c o h bytes sized short) ∙ e in absurd (cc)
    | inr fits ↦ elim (cases_lt (length_after h) (id_length c h.type_)) [
      | inl little ↦ let no = sym (split_no_room c o h bytes sized fits little) ∙ e in absurd (cc)
      | inr room ↦
          let j : ℕ = length_after h in
          let all : List ℕ = take j bytes in
          let k : ℕ = length all - id_length c h.type_ in
          let long : length all ≡ j = length-take-le j bytes fits in
          let are : parts_of c o h all ≡ parts = ok_is (sym (split_whole c o h bytes sized fits room) ∙ e) in
          (k, sym (ap (λ (p : FrameParts). p.body) are) ∙ take-take k j bytes (omega arith))
    ]
  ]
]

-- ---- by the bytes of a frame

-- a flat frame of these parts of a frame
transition_after : (c : Configuration) (o : Order) (h : perf_event_header) (bytes : List ℕ) (f : FlatFrame) (frame : List ℕ) → 8 ≤ length frame → header_of o frame ≡ h → drop 8 frame ≡ bytes →
    HasHeader h f → StatesAnswer c o frame (split_after c o h bytes) (answer_after c o h bytes) f →
    IsFlat c o frame f
transition_after c o h bytes f frame fits is rest headed says =
    let split : split_of_frame c o frame ≡ split_after c o h bytes =
    frame_whole (split_after c o) o frame fits ∙ ap (λ k. split_after c o k (drop 8 frame)) is ∙ ap (split_after c o h) rest in
    let answer : answer_of_frame c o frame ≡ answer_after c o h bytes =
    frame_whole (answer_after c o) o frame fits ∙ ap (λ k. answer_after c o k (drop 8 frame)) is ∙ ap (answer_after c o h) rest in
    record {
      header = subst (λ k. HasHeader k f) (sym is) headed;
      answer = subst (λ a. StatesAnswer c o frame (split_of_frame c o frame) a f) (sym answer)
          (subst (λ s. StatesAnswer c o frame s (answer_after c o h bytes) f) (sym split) says);
    }

refuses : (c : Configuration) (o : Order) (frame : List ℕ) (s : Result FrameParts ErrorKind) (e : ErrorKind) (f : FlatFrame) → StatesRefusal c (header_of o frame) (length frame) e f → StatesAnswer c o frame s (Err e) f
refuses c o frame (Ok parts) e f says = says
refuses c o frame (Err x) e f says = says

-- ---- a frame that was refused

-- the flat frame of a refusal that the answer has
refused : (c : Configuration) (o : Order) (h : perf_event_header) (bytes : List ℕ) (told : Refusal) (f : FlatFrame) → f ≡ refused_frame h told →
    answer_after c o h bytes ≡ Err (refusal_kind told) → (h.size < 8 → told ≡ why.SmallHeader) →
    (8 ≤ h.size → h.size ≤ 8 + length bytes → HasNoRoom h c → told ≡ why.NoRoomForId) → IsFlatAfter c o h bytes f
refused c o h bytes told f is answer small no_room = λ frame fits header rest.
    let long : length (drop 8 frame) ≡ length frame - 8 = length-drop 8 frame in
    let many : length (drop 8 frame) ≡ length bytes = ap length rest in
    let says : StatesRefusal c h (length frame) (refusal_kind told) f = record {
      told = told;
      of_kind = refl;
      is = is;
      small = small;
      no_room = λ sized whole lacks. no_room sized (omega arith) lacks;
    } in
    let headed : HasHeader h f = record {
      type_ = ap (λ (x : FlatFrame). x.type_) is;
      misc = ap (λ (x : FlatFrame). x.misc) is;
      size = ap (λ (x : FlatFrame). x.size) is;
    } in
    transition_after c o h bytes f frame fits header rest headed
    (subst (λ a. StatesAnswer c o frame (split_after c o h bytes) a f) (sym answer)
    (refuses c o frame (split_after c o h bytes) (refusal_kind told) f (subst (λ k. StatesRefusal c k (length frame) (refusal_kind told) f) (sym header) says)))

pub bad_refused : (c : Configuration) (o : Order) (h : perf_event_header) (bytes : List ℕ) (f : FlatFrame) → IsBad h bytes →
    (h.size < 8 → f ≡ refused_frame h why.SmallHeader) → (8 ≤ h.size → f ≡ refused_frame h why.Eof) → IsFlatAfter c o h bytes f
bad_refused c o h bytes f (inl small) is_small is_short =
    refused c o h bytes why.SmallHeader f (is_small small) (ap (record_in c o h) (split_small c o h bytes small)) (λ _. refl) (λ sized _ _. absurd (omega arith))
bad_refused c o h bytes f (inr short) is_small is_short =
    let sized : 8 ≤ h.size = short.0 in
    let lacks : length bytes < length_after h = short.1 in
    refused c o h bytes why.Eof f (is_short sized) (ap (record_in c o h) (split_short c o h bytes sized lacks)) (λ small. absurd (omega arith)) (λ _ all _. absurd (omega arith))

-- ---- a frame that was read in place

-- a frame that has room for its sample id is split
pub room_split : (c : Configuration) (o : Order) (h : perf_event_header) (bytes : List ℕ) → 8 ≤ h.size → length bytes ≡ length_after h → id_length c h.type_ ≤ length bytes →
    split_after c o h bytes ≡ Ok (parts_of c o h bytes)
room_split c o h bytes sized long room =
    let all : take (length_after h) bytes ≡ bytes = take_all (length_after h) bytes (omega arith) in
    split_whole c o h bytes sized (omega arith) (omega arith) ∙ ap (λ xs. Ok (parts_of c o h xs)) all

-- the record in its body
pub end_placed : (c : Configuration) (o : Order) (bytes : List ℕ) (made : FrameEnd) (h : perf_event_header) (old : FlatFrame) (told : Option Refusal) (new : FlatFrame) →
    TakesId o (id_length c h.type_) (id_of_type c h.type_) bytes made → WritesRecord (under_misc h.misc c) o (body (under_misc h.misc c) h.type_) made.body.now old told new →
    WritesRecord (under_misc h.misc c) o (body (under_misc h.misc c) h.type_) (parts_of c o h bytes).body old told new
end_placed c o bytes made h old told new takes places =
    subst (λ xs. WritesRecord (under_misc h.misc c) o (body (under_misc h.misc c) h.type_) xs old told new) takes.body places

-- its record is in the body
pub list_placed : (c : Configuration) (o : Order) (h : perf_event_header) (bytes : List ℕ) (parts : FrameParts) (before : List ℕ) (old new : FlatFrame) → length bytes + 8 < 2 ^ 32 →
    split_after c o h bytes ≡ Ok parts → WritesRecord (under_misc h.misc c) o (body (under_misc h.misc c) h.type_) parts.body old None new →
    HasHeader h old → CarriesNumbers c parts.metadata.sample_id before old → IsFlatAfter c o h bytes new
unfolding WritesRecord
list_placed c o h bytes parts before old new short split places headed carries = λ frame fits header rest.
    let value : RecordValue = places.0 in
    let holds = places.2 in
    let own : SampleIdValue = parts.metadata.sample_id in
    let answer : answer_after c o h bytes ≡ Ok value = ap (record_in c o h) split ∙ places.1 in
    let front = body_front c o h bytes parts split in
    let long : length (drop 8 frame) ≡ length frame - 8 = length-drop 8 frame in
    let many : length (drop 8 frame) ≡ length bytes = ap length rest in
    let is_body : IsBodyOf frame parts.body = record {
      headed = fits;
      short = omega arith;
      count = front.0;
      is = front.1 ∙ ap (take front.0) (sym rest);
    } in
    let says : StatesRecord c o frame own value new =
    (now_carries c own (ids_of own value) before (filled (numbers_under c.read_format value)) old new holds.head carries (holds.ids own carries.id) holds.numbers, holds.spans frame is_body) in
    transition_after c o h bytes new frame fits header rest (still_headed h old new holds.head headed)
    (subst (λ a. StatesAnswer c o frame (split_after c o h bytes) a new) (sym answer) (subst (λ s. StatesAnswer c o frame s (Ok value) new) (sym split) says))

-- its record is refused
pub list_refused : (c : Configuration) (o : Order) (h : perf_event_header) (bytes : List ℕ) (parts : FrameParts) (e : Refusal) (old new f : FlatFrame) → 8 ≤ h.size → length bytes ≡ length_after h →
    split_after c o h bytes ≡ Ok parts → WritesRecord (under_misc h.misc c) o (body (under_misc h.misc c) h.type_) parts.body old (Some e) new →
    id_length c h.type_ ≤ length bytes → f ≡ refused_frame h e → IsFlatAfter c o h bytes f
unfolding WritesRecord
list_refused c o h bytes parts e old new f sized long split places room made =
    refused c o h bytes e f made (ap (record_in c o h) split ∙ places) (λ small. absurd (omega arith)) (λ _ _ lacks. absurd (omega arith))

-- it is too short for its sample id
pub list_lacks : (c : Configuration) (o : Order) (h : perf_event_header) (bytes : List ℕ) (f : FlatFrame) → 8 ≤ h.size → length bytes ≡ length_after h →
    HasNoRoom h c → f ≡ refused_frame h why.NoRoomForId → IsFlatAfter c o h bytes f
list_lacks c o h bytes f sized long lacks made =
    refused c o h bytes why.NoRoomForId f made (ap (record_in c o h) (split_no_room c o h bytes sized (omega arith) lacks)) (λ small. absurd (omega arith)) (λ _ _ _. refl)

-- ---- the first frame of bytes

-- its header, and the bytes after that
first_rest : (o : Order) (bytes : List ℕ) → drop 8 (first_frame o bytes) ≡ take (length_after (header_of o bytes)) (drop 8 bytes)
first_rest o bytes =
    let h : perf_event_header = header_of o bytes in
    ap (λ n. drop 8 (take n bytes)) (frame_body h) ∙ drop-take 8 (length_after h) bytes

first_headed : (o : Order) (bytes : List ℕ) → 8 ≤ length bytes → 8 ≤ length (first_frame o bytes)
first_headed o bytes fits = omega (arith, length-take (frame_length o bytes) bytes)

-- what is there, by the header and the bytes after that
sight_small : (h : perf_event_header) (bytes : List ℕ) → h.size < 8 → sight_after h bytes true ≡ bad h why.SmallHeader
sight_small h bytes small = let a : nat_lt h.size 8 ≡ true = lt-ltb h.size 8 small in rw a refl

sight_short : (h : perf_event_header) (bytes : List ℕ) → 8 ≤ h.size → length bytes < length_after h → sight_after h bytes true ≡ bad h why.Eof
sight_short h bytes sized short =
    let a : nat_lt h.size 8 ≡ false = le-ltb h.size 8 sized in
    let b : nat_lt (length bytes) (length_after h) ≡ true = lt-ltb (length bytes) (length_after h) short in
    rw (a, b) refl

-- what is at the first frame
pub first_sight : (o : Order) (bytes : List ℕ) (x : Sight) (xs : List Sight) → sights o bytes ≡ x ∷ xs → (8 ≤ length bytes) × (sight_in o bytes true ≡ x)
first_sight o bytes x xs e = elim (cases_lt (length bytes) 8) [
  | inl short ↦ let no = sym (no_sight o bytes short) ∙ e in absurd (cc)
  | inr fits ↦
      let all = sym (next_sight o bytes (drop (frame_length o bytes) bytes) (sight_in o bytes true) fits refl refl) ∙ e in
      let same : sight_in o bytes true ≡ x = cc in
      (fits, same)
]

pub no_first : (o : Order) (bytes : List ℕ) → sights o bytes ≡ [] → length bytes < 8
no_first o bytes e = elim (cases_lt (length bytes) 8) [
  | inl short ↦ short
  | inr fits ↦ absurd (some_sight o bytes fits e)
]

-- a whole frame is there
pub whole_first : (c : Configuration) (o : Order) (bytes rest : List ℕ) (h : perf_event_header) (borrowed : Bool) → 8 ≤ length bytes → sight_in o bytes true ≡ whole h rest borrowed →
    (f : FlatFrame) → IsFlatAfter c o h rest f → IsFlat c o (first_frame o bytes) f
whole_first c o bytes rest h borrowed fits seen =
    let k : perf_event_header = header_of o bytes in
    let after : List ℕ = drop 8 bytes in
    elim (cases_lt k.size 8) [
      | inl small ↦ let no = sym (sight_small k after small) ∙ seen in absurd (cc)
      | inr sized ↦ elim (cases_lt (length after) (length_after k)) [
        | inl short ↦ let no = sym (sight_short k after sized short) ∙ seen in absurd (cc)
        | inr whole_there ↦
            let e = sym (finished k after true sized whole_there) ∙ seen in
            let header : k ≡ h = cc in
            let bytes_are : take (length_after k) after ≡ rest = cc in
            λ f flat. flat (first_frame o bytes) (first_headed o bytes fits) (header_alone o bytes ∙ header) (first_rest o bytes ∙ bytes_are)
      ]
    ]

-- no whole frame is there
pub bad_first : (c : Configuration) (o : Order) (bytes : List ℕ) (h : perf_event_header) (e : Refusal) (f : FlatFrame) → 8 ≤ length bytes → sight_in o bytes true ≡ bad h e →
    ((rest : List ℕ) → IsBad h rest → IsFlatAfter c o h rest f) → IsFlat c o (first_frame o bytes) f
bad_first c o bytes h e f fits seen flat =
    let k : perf_event_header = header_of o bytes in
    let after : List ℕ = drop 8 bytes in
    let frame : List ℕ = first_frame o bytes in
    elim (cases_lt k.size 8) [
      | inl small ↦
          let e' = sym (sight_small k after small) ∙ seen in
          let header : k ≡ h = cc in
          flat (drop 8 frame) (inl (subst (λ (x : perf_event_header). x.size < 8) header small)) frame (first_headed o bytes fits) (header_alone o bytes ∙ header) refl
      | inr sized ↦ elim (cases_lt (length after) (length_after k)) [
        | inl short ↦
            let e' = sym (sight_short k after sized short) ∙ seen in
            let header : k ≡ h = cc in
            let less : length (drop 8 frame) < length_after k = omega (arith, ap length (first_rest o bytes), length-take (length_after k) after) in
            flat (drop 8 frame) (inr (subst (λ (x : perf_event_header). (8 ≤ x.size) × (length (drop 8 frame) < length_after x)) header (sized, less))) frame (first_headed o bytes fits) (header_alone o bytes ∙ header) refl
        | inr whole_there ↦ let no = sym (finished k after true sized whole_there) ∙ seen in absurd (cc)
      ]
    ]

-- ---- what the iterator returns

-- it is at the front of the bytes, which are those of the iterator
pub at_front : (o p : Order) (bytes left : List ℕ) (x : Sight) (xs : List Sight) → p ≡ o → left ≡ bytes → sights p left ≡ x ∷ xs → (8 ≤ length bytes) × (sight_in o bytes true ≡ x)
at_front o p bytes left x xs same front e = first_sight o bytes x xs (sym (ap (λ q. sights q bytes) same) ∙ sym (ap (sights p) front) ∙ e)

pub nothing_there : (o p : Order) (bytes left : List ℕ) → p ≡ o → left ≡ bytes → sights p left ≡ [] → length bytes < 8
nothing_there o p bytes left same front e = no_first o bytes (sym (ap (λ q. sights q bytes) same) ∙ sym (ap (sights p) front) ∙ e)
