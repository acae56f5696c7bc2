-- The numbers at their offsets are those in the parsed frame.
use Rattle.std.proofs.Common.{◌≡◌, ℕ, ◌+◌, ◌-◌, ◌*◌, ◌≤◌, ◌<◌, Bool, true, false, ◌==◌, ◌&&◌, not, List, length, take, drop, Option, Some, None, Ok, Err, refl, sym, ◌∙◌, ap, subst, inl, inr, arith, if◌then◌else◌}
use Rattle.std.specs.Prelude.{◌⊎◌, option_map, nat_le, nat_lt, IfOk, MatchResult, Result}
use Rattle.std.proofs.lemmas.Bool.{cases_lt, le-leb, lt-leb}
use Rattle.std.proofs.lemmas.Bool.Decides.{nat_tests}
use Rattle.std.proofs.lemmas.List.{length-drop, drop-drop, take_all}
use Rattle.perf_base.specs.Configuration.{Configuration, under_misc}
use Rattle.perf_base.specs.Layout.{done, value, layout, map_parts}
use Rattle.perf_base.specs.Order.{Order}
use Rattle.perf_base.specs.Run.{ran, run_parts}
use Rattle.perf_base.specs.declared.error.ErrorKind.{ErrorKind}
use Rattle.perf_base.specs.declared.error.ErrorKind.TheVariants.{InvalidRecord}
use Rattle.perf_base.specs.declared.sys.perf_event_header.{perf_event_header}
use Rattle.perf_base.proofs.Algebra.{then_inv}
use Rattle.perf_base.proofs.Tables.{layout_run}
use Rattle.perf_sample_types.specs.Sample.{SampleValue, sample}
use Rattle.perf_sample_types.specs.SampleGetters.{getters_of}
use Rattle.perf_sample_types.specs.SampleId.{SampleIdValue, one_if, sample_id_flags, sample_id_length}
use Rattle.perf_words.specs.Bits.{has_bit}
use Rattle.perf_records.specs.Answers.{FrameParts, length_after, parts_of, split_after, record_in, answer_after, id_bytes}
use Rattle.perf_records.specs.Bodies.{body}
use Rattle.perf_records.specs.FrameNumbers.{eight_at, bytes_of, time_field, task_field, id_field, cpu_field, identifier_field, event_field, number_place, place_bytes, field_bytes, first_half, second_half, time_in, pid_in, tid_in, cpu_in, id_in, identifier_bytes, identifier_in, IsRead, IsIdentifierRead}
use Rattle.perf_records.specs.Metadata.{carries_sample_id, id_of_type, id_length}
use Rattle.perf_records.specs.Records.{sample_is}
use Rattle.perf_records.specs.declared.frame_numbers.Place.{Place}
use Rattle.perf_records.proofs.Splits.{split_whole, split_no_room}
use Rattle.perf_records.proofs.IdNumbers.{there, id_time, id_pid, id_tid, id_cpu, id_id, of_type}
use Rattle.perf_records.proofs.SampleNumbers.{Made, sample_time, sample_pid_is, sample_tid_is, sample_cpu, sample_identifier, chosen, sample_id_read}

-- ---- frames with a sample id at the end, or with none

pick : {A : Type 0} (present nine fits : Bool) (x y : Option A) → nine ≡ false → fits ≡ true → (if present then (if nine then x else (if fits then y else None)) else None) ≡ (if present then y else None)
pick present false true x y e f = refl
pick present true fits x y e f = absurd (cc)
pick present false false x y e f = absurd (cc)

pick_none : {A : Type 0} (present nine fits : Bool) (x y : Option A) → nine ≡ false → fits ≡ false → (if present then (if nine then x else (if fits then y else None)) else None) ≡ None
pick_none true false false x y e f = refl
pick_none false false false x y e f = refl
pick_none present true fits x y e f = absurd (cc)
pick_none present false true x y e f = absurd (cc)

pick_sample : {A : Type 0} (present nine : Bool) (x y : Option A) → nine ≡ true → (if present then (if nine then x else y) else None) ≡ (if present then x else None)
pick_sample present true x y e = refl
pick_sample present false x y e = absurd (cc)

not_sample : (ty : ℕ) → (ty ≡ 9 → ⊥) → (ty == 9) ≡ false
not_sample ty other = grind (arith, nat_tests)

split_all : (c : Configuration) (o : Order) (h : perf_event_header) (bytes : List ℕ) → 8 ≤ h.size → length bytes ≡ length_after h → id_length c h.type_ ≤ length bytes → split_after c o h bytes ≡ Ok (parts_of c o h bytes)
split_all c o h bytes sized whole room =
    let all : take (length_after h) bytes ≡ bytes = take_all (length_after h) bytes (omega arith) in
    split_whole c o h bytes sized (omega arith) (omega arith) ∙ ap (λ b. Ok (parts_of c o h b)) all

-- the number at its offset is that of the sample id, if the frame is long enough for it
other : (of_id : SampleIdValue → Option ℕ) (read : List ℕ → ℕ) (c : Configuration) (o : Order) (place : Place) (h : perf_event_header) (bytes : List ℕ) →
    8 ≤ h.size → length bytes ≡ length_after h → (h.type_ ≡ 9 → ⊥) →
    ((ids : List ℕ) → length ids ≡ id_length c h.type_ → of_id (value o ids 0 (id_of_type c h.type_)) ≡ option_map read (if place.present then eight_at ids place.in_id else None)) →
    MatchResult (split_after c o h bytes) (λ parts. option_map read (place_bytes c place h bytes) ≡ of_id parts.metadata.sample_id) (λ e. option_map read (place_bytes c place h bytes) ≡ None)
other of_id read c o place h bytes sized whole sample transition = elim (cases_lt (length bytes) (id_length c h.type_)) [
  | inl short ↦
      let small : split_after c o h bytes ≡ Err InvalidRecord = split_no_room c o h bytes sized (omega arith) (omega arith) in
      subst P (sym small) (ap (option_map read) (pick_none place.present (h.type_ == 9) (nat_le (id_length c h.type_) (length bytes)) _ _ (not_sample h.type_ sample) (lt-leb (id_length c h.type_) (length bytes) short)))
  | inr room ↦
      let ids : List ℕ = id_bytes c h bytes in
      let long : length ids ≡ id_length c h.type_ = length-drop (length bytes - id_length c h.type_) bytes ∙ omega arith in
      subst P (sym (split_all c o h bytes sized whole room))
      (ap (option_map read) (pick place.present (h.type_ == 9) (nat_le (id_length c h.type_) (length bytes)) _ _ (not_sample h.type_ sample) (le-leb (id_length c h.type_) (length bytes) room))
      ∙ sym (transition ids long))
]
  where
    P : Result FrameParts ErrorKind → Type 0
    P r = MatchResult r (λ parts. option_map read (place_bytes c place h bytes) ≡ of_id parts.metadata.sample_id) (λ e. option_map read (place_bytes c place h bytes) ≡ None)

-- ---- samples

-- the sample of a frame is the run of its fields
sample_run : (c : Configuration) (o : Order) (h : perf_event_header) (bytes : List ℕ) (s : SampleValue) → 8 ≤ h.size → length bytes ≡ length_after h → h.type_ ≡ 9 →
    answer_after c o h bytes ≡ Ok (sample_is s) → (left : List ℕ) × (run_parts o (sample (under_misc h.misc c)) bytes ≡ ran s left)
sample_run c o h bytes s sized whole is answer =
    let c' : Configuration = under_misc h.misc c in
    let none : id_length c h.type_ ≡ 0 = ap (id_length c) is in
    let all : take (length bytes - id_length c h.type_) bytes ≡ bytes = take_all (length bytes - id_length c h.type_) bytes (omega arith) in
    let parts : answer_after c o h bytes ≡ record_in c o h (Ok (parts_of c o h bytes)) = ap (record_in c o h) (split_all c o h bytes sized whole (omega arith)) in
    let made : layout o (body c' 9) bytes ≡ Ok (sample_is s) =
    sym (ap (λ b. layout o (body c' 9) b) all) ∙ sym (ap (λ ty. layout o (body c' ty) (take (length bytes - id_length c h.type_) bytes)) is) ∙ sym parts ∙ answer in
    let first = then_inv o (sample c') (λ v. done (sample_is v)) bytes (sample_is s) _ (layout_run o (map_parts sample_is (sample c')) bytes (sample_is s) made) in
    let both : ran (sample_is first.0) first.1 ≡ ran (sample_is s) _ = first.3 in
    let same : first.0 ≡ s = cc in
    (first.1, first.2 ∙ ap (λ v. ran v first.1) same)

-- ---- both, as in the contracts

sampled : (of_sample : SampleValue → Option ℕ) (read : List ℕ → ℕ) (c : Configuration) (o : Order) (place : Place) (h : perf_event_header) (bytes : List ℕ) →
    8 ≤ h.size → length bytes ≡ length_after h →
    ((s : SampleValue) → Made o (under_misc h.misc c) bytes s → of_sample s ≡ option_map read (if place.present then eight_at bytes place.in_sample else None)) →
    h.type_ ≡ 9 → (s : SampleValue) → answer_after c o h bytes ≡ Ok (sample_is s) → option_map read (place_bytes c place h bytes) ≡ of_sample s
sampled of_sample read c o place h bytes sized whole transition is s answer =
    let nine : (h.type_ == 9) ≡ true = ap (λ ty. ty == 9) is in
    ap (option_map read) (pick_sample place.present (h.type_ == 9) _ _ nine) ∙ sym (transition s (sample_run c o h bytes s sized whole is answer))

pub time_read : (c : Configuration) (o : Order) (h : perf_event_header) (bytes : List ℕ) → 8 ≤ h.size → length bytes ≡ length_after h →
    IsRead (λ s. (getters_of s).time) (λ id. id.time) c o h bytes (time_in c o h bytes)
time_read c o h bytes sized whole =
    let place : Place = number_place c.sample_type time_field in (
      sampled (λ s. (getters_of s).time) o.eight c o place h bytes sized whole (λ s made. sample_time o (under_misc h.misc c) bytes s made),
      (λ sample. other (λ id. id.time) o.eight c o place h bytes sized whole sample (of_type (λ id. id.time) o.eight c o h.type_ place.present place.in_id refl (id_time o c.sample_type))),
    )

pub pid_read : (c : Configuration) (o : Order) (h : perf_event_header) (bytes : List ℕ) → 8 ≤ h.size → length bytes ≡ length_after h →
    IsRead (λ s. (getters_of s).pid) (λ id. id.pid) c o h bytes (pid_in c o h bytes)
pid_read c o h bytes sized whole =
    let place : Place = number_place c.sample_type task_field in (
      sampled (λ s. (getters_of s).pid) (first_half o) c o place h bytes sized whole (λ s made. sample_pid_is o (under_misc h.misc c) bytes s made),
      (λ sample. other (λ id. id.pid) (first_half o) c o place h bytes sized whole sample (of_type (λ id. id.pid) (first_half o) c o h.type_ place.present place.in_id refl (id_pid o c.sample_type))),
    )

pub tid_read : (c : Configuration) (o : Order) (h : perf_event_header) (bytes : List ℕ) → 8 ≤ h.size → length bytes ≡ length_after h →
    IsRead (λ s. (getters_of s).tid) (λ id. id.tid) c o h bytes (tid_in c o h bytes)
tid_read c o h bytes sized whole =
    let place : Place = number_place c.sample_type task_field in (
      sampled (λ s. (getters_of s).tid) (second_half o) c o place h bytes sized whole (λ s made. sample_tid_is o (under_misc h.misc c) bytes s made),
      (λ sample. other (λ id. id.tid) (second_half o) c o place h bytes sized whole sample (of_type (λ id. id.tid) (second_half o) c o h.type_ place.present place.in_id refl (id_tid o c.sample_type))),
    )

pub cpu_read : (c : Configuration) (o : Order) (h : perf_event_header) (bytes : List ℕ) → 8 ≤ h.size → length bytes ≡ length_after h →
    IsRead (λ s. (getters_of s).cpu) (λ id. id.cpu) c o h bytes (cpu_in c o h bytes)
cpu_read c o h bytes sized whole =
    let place : Place = number_place c.sample_type cpu_field in (
      sampled (λ s. (getters_of s).cpu) (first_half o) c o place h bytes sized whole (λ s made. sample_cpu o (under_misc h.misc c) bytes s made),
      (λ sample. other (λ id. id.cpu) (first_half o) c o place h bytes sized whole sample (of_type (λ id. id.cpu) (first_half o) c o h.type_ place.present place.in_id refl (id_cpu o c.sample_type))),
    )

pub id_read : (c : Configuration) (o : Order) (h : perf_event_header) (bytes : List ℕ) → 8 ≤ h.size → length bytes ≡ length_after h →
    IsRead (λ s. (getters_of s).id) (λ id. id.id) c o h bytes (id_in c o h bytes)
id_read c o h bytes sized whole =
    let t : ℕ = c.sample_type in
    let place : Place = number_place t (event_field t) in (
      sampled (λ s. (getters_of s).id) o.eight c o place h bytes sized whole (λ s made. sample_id_read o (under_misc h.misc c) bytes s made),
      (λ sample. other (λ id. id.id) o.eight c o place h bytes sized whole sample
          (of_type (λ id. id.id) o.eight c o h.type_ place.present place.in_id refl
          (λ ids long. id_id o t ids long ∙ ap (option_map o.eight) (chosen t (λ field. eight_at ids (bytes_of t field.in_id)))))),
    )

-- ---- IDENTIFIER, before the configuration is known

last_of : {A : Type 0} (a b : Bool) (x y : Option A) → (a && not b) ≡ true → (if b then x else (if a then y else None)) ≡ y
last_of true false x y e = refl
last_of true true x y e = absurd (cc)
last_of false b x y e = absurd (cc)

other_type : (a b : Bool) → (a && not b) ≡ true → b ≡ false
other_type a false e = refl
other_type true true e = absurd (cc)
other_type false true e = absurd (cc)

-- the last eight bytes of the last bytes
last_eight : (bytes : List ℕ) (n q : ℕ) → n ≤ length bytes → q + 8 ≡ n → eight_at bytes (length bytes - 8) ≡ eight_at (drop (length bytes - n) bytes) q
last_eight bytes n q fits all =
    let k : ℕ = length bytes - n in
    let long : length (drop k bytes) ≡ length bytes - k = length-drop k bytes in
    let same : k + q ≡ length bytes - 8 = omega arith in
    there bytes (length bytes - 8) (omega arith)
    ∙ ap (λ m. Some (take 8 (drop m bytes))) (sym same) ∙ sym (ap (λ xs. Some (take 8 xs)) (drop-drop q k bytes))
    ∙ sym (there (drop k bytes) q (omega arith))

-- it is present if the sample id has IDENTIFIER
identifier_placed : (c : Configuration) (h : perf_event_header) (bytes : List ℕ) → has_bit c.sample_type 16 ≡ true → carries_sample_id h.type_ ≡ true → c.sample_id_all ≡ true → id_length c h.type_ ≤ length bytes →
    identifier_bytes h.type_ bytes ≡ field_bytes c identifier_field h bytes
identifier_placed c h bytes set carries all room =
    let t : ℕ = c.sample_type in
    let q : ℕ = bytes_of t identifier_field.in_id in
    let ids : List ℕ = id_bytes c h bytes in
    let one : one_if (has_bit t 16) ≡ 1 = ap one_if set in
    let n : id_length c h.type_ ≡ 8 * sample_id_flags t =
    ap (λ (b : Bool). if b then sample_id_length c else 0) carries ∙ ap (λ (b : Bool). if b then 8 * sample_id_flags t else 0) all in
    let last : q + 8 ≡ id_length c h.type_ = omega (arith, n, one) in
    last_of (nat_lt h.type_ 64) (h.type_ == 9) (eight_at bytes 0) (eight_at bytes (length bytes - 8)) carries
    ∙ last_eight bytes (id_length c h.type_) q room last
    ∙ sym (ap (λ (b : Bool). if b then eight_at ids q else None) set)
    ∙ sym (pick (has_bit t 16) (h.type_ == 9) (nat_le (id_length c h.type_) (length bytes)) (eight_at bytes 0) (eight_at ids q) (other_type (nat_lt h.type_ 64) (h.type_ == 9) carries) (le-leb (id_length c h.type_) (length bytes) room))

-- and is the id of that, if the sample type has no ID
identifier_is_id : (c : Configuration) (o : Order) (h : perf_event_header) (bytes : List ℕ) → has_bit c.sample_type 6 ≡ false →
    option_map o.eight (field_bytes c identifier_field h bytes) ≡ id_in c o h bytes
identifier_is_id c o h bytes none =
    let same : event_field c.sample_type ≡ identifier_field = ap (λ (b : Bool). if b then id_field else identifier_field) none in
    sym (ap (λ field. option_map o.eight (field_bytes c field h bytes)) same)

first_of_sample : (ty : ℕ) (bytes : List ℕ) → ty ≡ 9 → identifier_bytes ty bytes ≡ eight_at bytes 0
first_of_sample ty bytes is = ap (λ n. identifier_bytes n bytes) is

pub identifier_read : (o : Order) (h : perf_event_header) (bytes : List ℕ) → 8 ≤ h.size → length bytes ≡ length_after h → IsIdentifierRead o h bytes (identifier_in o h bytes)
identifier_read o h bytes sized whole = λ c set. (
  (λ is s answer.
      ap (option_map o.eight) (first_of_sample h.type_ bytes is)
      ∙ sym (ap (λ (b : Bool). option_map o.eight (if b then eight_at bytes 0 else None)) set)
      ∙ sym (sample_identifier o (under_misc h.misc c) bytes s (sample_run c o h bytes s sized whole is answer))),
  (λ carries all. by c set carries all (cases_lt (length bytes) (id_length c h.type_))),
)
  where
    Transition : Configuration → Result FrameParts ErrorKind → Type 0
    Transition c r = IfOk r (λ parts.
        (identifier_in o h bytes ≡ option_map o.eight (field_bytes c identifier_field h bytes))
        × (has_bit c.sample_type 6 ≡ false → identifier_in o h bytes ≡ parts.metadata.sample_id.id))

    by : (c : Configuration) → has_bit c.sample_type 16 ≡ true → carries_sample_id h.type_ ≡ true → c.sample_id_all ≡ true → (length bytes < id_length c h.type_) ⊎ (id_length c h.type_ ≤ length bytes) → Transition c (split_after c o h bytes)
    by c set carries all (inl short) = subst (Transition c) (sym (split_no_room c o h bytes sized (omega arith) (omega arith))) tt
    by c set carries all (inr room) =
        let placed : identifier_in o h bytes ≡ option_map o.eight (field_bytes c identifier_field h bytes) = ap (option_map o.eight) (identifier_placed c h bytes set carries all room) in
        let made : split_after c o h bytes ≡ Ok (parts_of c o h bytes) = split_all c o h bytes sized whole room in
        let other_frame : h.type_ ≡ 9 → ⊥ = λ is. let a : (h.type_ == 9) ≡ true = ap (λ ty. ty == 9) is in let b : (h.type_ == 9) ≡ false = other_type (nat_lt h.type_ 64) (h.type_ == 9) carries in absurd (cc) in
        let read = subst (λ (r : Result FrameParts ErrorKind). MatchResult r (λ parts. id_in c o h bytes ≡ parts.metadata.sample_id.id) (λ e. id_in c o h bytes ≡ None)) made ((id_read c o h bytes sized whole).1 other_frame) in
        subst (Transition c) (sym made) (placed, (λ none. placed ∙ identifier_is_id c o h bytes none ∙ read))
