-- The numbers of a sample are at their places in it.
use Rattle.std.proofs.Common.{◌≡◌, ℕ, suc, ◌+◌, ◌-◌, ◌*◌, ◌≤◌, ◌<◌, Bool, true, false, List, [], ◌∷◌, ◌++◌, length, take, drop, get_or, Option, Some, None, refl, sym, ◌∙◌, ap, inl, inr, arith, if◌then◌else◌}
use Rattle.std.specs.Prelude.{option_map}
use Rattle.std.proofs.lemmas.Bool.{cases_lt}
use Rattle.std.proofs.lemmas.List.{length-drop, drop-drop, get_or-append_right}
use Rattle.perf_base.specs.Configuration.{Configuration}
use Rattle.perf_base.specs.Layout.{Parts, done, part, number, padding, w4, w8}
use Rattle.perf_base.specs.Order.{Order}
use Rattle.perf_base.specs.Run.{ran, run_parts}
use Rattle.perf_base.specs.Table.{present_if, slot, table}
use Rattle.perf_base.proofs.Algebra.{then_ok, then_inv}
use Rattle.perf_base.proofs.Bridge.{run_yes, run_no}
use Rattle.perf_base.proofs.Tables.{cons_inv}
use Rattle.perf_reader.proofs.AtOnce.{in_front}
use Rattle.perf_sample_types.proofs.Flags.{only_flag}
use Rattle.perf_sample_types.specs.Sample.{FieldValue, number_is, task_is, Field, SampleValue, plain_field, task, cpu, at_flag, is_present, settings_of, fields_under, sample_fields, sample}
use Rattle.perf_sample_types.specs.SampleGetters.{field_at, number_in}
use Rattle.perf_sample_types.specs.SampleGetters.{pid_of_task, tid_of_task}
use Rattle.perf_sample_types.specs.SampleId.{one_if, first_of}
use Rattle.perf_words.specs.Bits.{has_bit}
use Rattle.perf_records.specs.Bodies.{body}
use Rattle.perf_records.specs.FrameNumbers.{eight_at, bytes_of, NumberField, time_field, task_field, id_field, cpu_field, identifier_field, event_field, first_half, second_half}
use Rattle.perf_records.proofs.IdNumbers.{there, either}

-- ---- samples: fields of eight bytes in a row

-- parts of eight bytes that nothing refuses, by their values
record IsEight (o : Order) (p : Parts FieldValue) (f : List ℕ → FieldValue) : Type 0 where
  fits : (bytes : List ℕ) → 8 ≤ length bytes → run_parts o p bytes ≡ ran (f (take 8 bytes)) (drop 8 bytes)
  lacks : (bytes : List ℕ) (v : FieldValue) (left : List ℕ) → length bytes < 8 → run_parts o p bytes ≡ ran v left → ⊥

eight_plain : (o : Order) → IsEight o plain_field (λ bytes. number_is (o.eight bytes))
eight_plain o = record {
  fits = λ bytes long. run_yes o (number w8) (λ n. done (number_is n)) bytes 8 refl long;
  lacks = λ bytes v left short e. let no = sym e ∙ run_no o (number w8) (λ n. done (number_is n)) bytes short in absurd (cc);
}

-- two numbers of four bytes, or one and padding
abbrev after_pid : ℕ → Parts FieldValue
after_pid pid = part (number w4) (λ tid. done (task_is (Some pid) (Some tid)))

abbrev after_cpu : ℕ → Parts FieldValue
after_cpu n = part (padding 4) (λ nothing. done (number_is n))

eight_task : (o : Order) → IsEight o task (λ bytes. task_is (Some (first_half o bytes)) (Some (second_half o bytes)))
eight_task o = record {
  fits = λ bytes long.
      let pid : ℕ = o.four (take 4 bytes) in
      let left : length (drop 4 bytes) ≡ length bytes - 4 = length-drop 4 bytes in
      let front : take 4 (take 8 bytes) ≡ take 4 bytes = in_front 0 4 8 bytes (omega arith) in
      let back : take 4 (drop 4 (take 8 bytes)) ≡ take 4 (drop 4 bytes) = in_front 4 4 8 bytes (omega arith) in
      run_yes o (number w4) after_pid bytes 4 refl (omega arith)
      ∙ run_yes o (number w4) (λ tid. done (task_is (Some pid) (Some tid))) (drop 4 bytes) 4 refl (omega arith)
      ∙ ap (λ z. ran (task_is (Some pid) (Some (o.four (take 4 (drop 4 bytes))))) z) (drop-drop 4 4 bytes)
      ∙ ap (λ a. ran (task_is (Some (o.four a)) (Some (o.four (take 4 (drop 4 bytes))))) (drop 8 bytes)) (sym front)
      ∙ ap (λ a. ran (task_is (Some (o.four (take 4 (take 8 bytes)))) (Some (o.four a))) (drop 8 bytes)) (sym back);
  lacks = λ bytes v left short e.
      let pid : ℕ = o.four (take 4 bytes) in
      elim (cases_lt (length bytes) 4) [
        | inl four ↦ let no = sym e ∙ run_no o (number w4) after_pid bytes four in absurd (cc)
        | inr four ↦
            let long : length (drop 4 bytes) ≡ length bytes - 4 = length-drop 4 bytes in
            let no = sym e ∙ run_yes o (number w4) after_pid bytes 4 refl four
            ∙ run_no o (number w4) (λ tid. done (task_is (Some pid) (Some tid))) (drop 4 bytes) (omega arith) in
            absurd (cc)
      ];
}

eight_cpu : (o : Order) → IsEight o cpu (λ bytes. number_is (first_half o bytes))
eight_cpu o = record {
  fits = λ bytes long.
      let n : ℕ = o.four (take 4 bytes) in
      let left : length (drop 4 bytes) ≡ length bytes - 4 = length-drop 4 bytes in
      let front : take 4 (take 8 bytes) ≡ take 4 bytes = in_front 0 4 8 bytes (omega arith) in
      run_yes o (number w4) after_cpu bytes 4 refl (omega arith)
      ∙ run_yes o (padding 4) (λ nothing. done (number_is n)) (drop 4 bytes) 4 refl (omega arith)
      ∙ ap (λ z. ran (number_is n) z) (drop-drop 4 4 bytes)
      ∙ ap (λ a. ran (number_is (o.four a)) (drop 8 bytes)) (sym front);
  lacks = λ bytes v left short e.
      let n : ℕ = o.four (take 4 bytes) in
      elim (cases_lt (length bytes) 4) [
        | inl four ↦ let no = sym e ∙ run_no o (number w4) after_cpu bytes four in absurd (cc)
        | inr four ↦
            let long : length (drop 4 bytes) ≡ length bytes - 4 = length-drop 4 bytes in
            let no = sym e ∙ run_yes o (number w4) after_cpu bytes 4 refl four
            ∙ run_no o (padding 4) (λ nothing. done (number_is n)) (drop 4 bytes) (omega arith) in
            absurd (cc)
      ];
}

-- a field at its place, present or absent
slot_run : (o : Order) (present : Bool) (p : Parts FieldValue) (f : List ℕ → FieldValue) → IsEight o p f → (body : List ℕ) (s : ℕ) → s ≤ length body →
    (v : Option FieldValue) (z : List ℕ) → run_parts o (slot (present_if present p)) (drop s body) ≡ ran v z →
    (v ≡ option_map f (if present then eight_at body s else None)) × (z ≡ drop (s + 8 * one_if present) body) × (s + 8 * one_if present ≤ length body)
slot_run o false p f is body s within v z e =
    let same : None ≡ v = cc in
    let left : drop s body ≡ z = cc in
    let here : s ≡ s + 8 * one_if false = omega arith in
    (sym same, sym left ∙ ap (λ n. drop n body) here, omega arith)
slot_run o true p f is body s within v z e =
    let long : length (drop s body) ≡ length body - s = length-drop s body in
    elim (cases_lt (length (drop s body)) 8) [
      | inl short ↦
          let first = then_inv o p (λ v. done (Some v)) (drop s body) v z e in
          absurd (is.lacks (drop s body) first.0 first.1 short first.2)
      | inr fits ↦
          let transition : Option FieldValue = Some (f (take 8 (drop s body))) in
          let both : ran transition (drop 8 (drop s body)) ≡ ran v z =
          sym (then_ok o p (λ v. done (Some v)) (drop s body) (f (take 8 (drop s body))) (drop 8 (drop s body)) (is.fits (drop s body) fits)) ∙ e in
          let same : transition ≡ v = cc in
          let left : drop 8 (drop s body) ≡ z = cc in
          (sym same ∙ sym (ap (option_map f) (there body s (omega arith))), sym left ∙ drop-drop 8 s body, omega arith)
    ]

-- all of these fields have eight bytes
AllEight : Order → Configuration → List Field → Type 0
AllEight o c [] = Unit {0}
AllEight o c (field ∷ fields) = ((f : List ℕ → FieldValue) × IsEight o (field.parts (settings_of c)) f) × AllEight o c fields

-- how many bytes those have that are present
abbrev front_length : Configuration → List Field → ℕ
front_length c [] = 0
front_length c (field ∷ fields) = 8 * one_if (is_present c field) + front_length c fields

walk : (o : Order) (c : Configuration) (front after : List Field) → AllEight o c front → (body : List ℕ) (s : ℕ) → s ≤ length body → (vs : SampleValue) (left : List ℕ) →
    run_parts o (table (fields_under c (front ++ after))) (drop s body) ≡ ran vs left →
    (a : SampleValue) × (b : SampleValue) × (vs ≡ a ++ b) × (length a ≡ length front) ×
    (run_parts o (table (fields_under c after)) (drop (s + front_length c front) body) ≡ ran b left) × (s + front_length c front ≤ length body)
unfolding AllEight
walk o c [] after all body s within vs left e =
    let here : s + 0 ≡ s = omega arith in
    ([], vs, refl, refl, ap (λ n. run_parts o (table (fields_under c after)) (drop n body)) here ∙ e, omega arith)
walk o c (x ∷ xs) after all body s within vs left e =
    let first = cons_inv o (present_if (is_present c x) (x.parts (settings_of c))) (fields_under c (xs ++ after)) (drop s body) left vs e in
    let here = slot_run o (is_present c x) (x.parts (settings_of c)) all.0.0 all.0.1 body s within first.0 first.1 first.3 in
    let next = walk o c xs after all.1 body (s + 8 * one_if (is_present c x)) here.2 first.2 left (ap (λ b. run_parts o (table (fields_under c (xs ++ after))) b) (sym here.1) ∙ first.4) in
    let place : s + (8 * one_if (is_present c x) + front_length c xs) ≡ s + 8 * one_if (is_present c x) + front_length c xs = omega arith in (
      first.0 ∷ next.0,
      next.1,
      first.5 ∙ ap (λ t. first.0 ∷ t) next.2,
      ap suc next.3,
      ap (λ n. run_parts o (table (fields_under c after)) (drop n body)) place ∙ next.4,
      omega (arith, next.5),
    )

-- the value of a field after such fields
field_transition : (o : Order) (c : Configuration) (front : List Field) (x : Field) (after : List Field) (f : List ℕ → FieldValue) → AllEight o c front → IsEight o (x.parts (settings_of c)) f →
    (body : List ℕ) (vs : SampleValue) (left : List ℕ) → run_parts o (table (fields_under c (front ++ (x ∷ after)))) body ≡ ran vs left →
    (get_or vs (length front) None ≡ option_map f (if is_present c x then eight_at body (front_length c front) else None))
    × (front_length c front + 8 * one_if (is_present c x) ≤ length body)
field_transition o c front x after f all is body vs left e =
    let n : ℕ = length front in
    let w = walk o c front (x ∷ after) all body 0 (omega arith) vs left e in
    let first = cons_inv o (present_if (is_present c x) (x.parts (settings_of c))) (fields_under c after) (drop (0 + front_length c front) body) left w.1 w.4 in
    let here = slot_run o (is_present c x) (x.parts (settings_of c)) f is body (0 + front_length c front) w.5 first.0 first.1 first.3 in
    let begin : 0 + front_length c front ≡ front_length c front = omega arith in
    let none : n - n ≡ 0 = omega arith in (
      ap (λ t. get_or t n None) (w.2 ∙ ap (λ t. w.0 ++ t) first.5)
          ∙ get_or-append_right w.0 (first.0 ∷ first.2) n n None w.3 (omega arith)
          ∙ ap (λ i. get_or (first.0 ∷ first.2) i None) none
          ∙ here.0 ∙ ap (λ p. option_map f (if is_present c x then eight_at body p else None)) begin,
      omega (arith, here.2),
    )

-- ---- the fields of a sample

number_of : (f : List ℕ → ℕ) (x : Option (List ℕ)) → number_in (option_map (λ bytes. number_is (f bytes)) x) ≡ option_map f x
number_of f (Some x) = refl
number_of f None = refl

pid_of : (o : Order) (x : Option (List ℕ)) → pid_of_task (option_map (λ bytes. task_is (Some (first_half o bytes)) (Some (second_half o bytes))) x) ≡ option_map (first_half o) x
pid_of o (Some x) = refl
pid_of o None = refl

tid_of : (o : Order) (x : Option (List ℕ)) → tid_of_task (option_map (λ bytes. task_is (Some (first_half o bytes)) (Some (second_half o bytes))) x) ≡ option_map (second_half o) x
tid_of o (Some x) = refl
tid_of o None = refl

-- a run of the fields of a sample
abbrev pub Made : Order → Configuration → List ℕ → SampleValue → Type 0
Made o c bytes s = (left : List ℕ) × (run_parts o (sample c) bytes ≡ ran s left)

abbrev task_front : List Field
task_front = at_flag 16 plain_field ∷ at_flag 0 plain_field ∷ []

abbrev time_front : List Field
time_front = at_flag 16 plain_field ∷ at_flag 0 plain_field ∷ at_flag 1 task ∷ []

abbrev id_front : List Field
id_front = at_flag 16 plain_field ∷ at_flag 0 plain_field ∷ at_flag 1 task ∷ at_flag 2 plain_field ∷ at_flag 3 plain_field ∷ []

abbrev cpu_front : List Field
cpu_front =
    at_flag 16 plain_field ∷ at_flag 0 plain_field ∷ at_flag 1 task ∷ at_flag 2 plain_field ∷ at_flag 3 plain_field ∷ at_flag 6 plain_field ∷ at_flag 9 plain_field ∷ []

pub sample_time : (o : Order) (c : Configuration) (bytes : List ℕ) (s : SampleValue) → Made o c bytes s →
    number_in (field_at s 3) ≡ option_map o.eight (if has_bit c.sample_type 2 then eight_at bytes (bytes_of c.sample_type time_field.in_sample) else None)
unfolding sample AllEight
sample_time o c bytes s made =
    let p = eight_plain o in
    ap number_in ((field_transition o c time_front (at_flag 2 plain_field) (drop 4 sample_fields) (λ bytes. number_is (o.eight bytes)) ((_, p), ((_, p), ((_, eight_task o), tt))) p bytes s made.0 made.1).0)
    ∙ number_of o.eight _ ∙ simp only_flag

pub sample_pid_is : (o : Order) (c : Configuration) (bytes : List ℕ) (s : SampleValue) → Made o c bytes s →
    pid_of_task (field_at s 2) ≡ option_map (first_half o) (if has_bit c.sample_type 1 then eight_at bytes (bytes_of c.sample_type task_field.in_sample) else None)
unfolding sample AllEight
sample_pid_is o c bytes s made =
    let p = eight_plain o in
    ap pid_of_task ((field_transition o c task_front (at_flag 1 task) (drop 3 sample_fields) _ ((_, p), ((_, p), tt)) (eight_task o) bytes s made.0 made.1).0)
    ∙ pid_of o _ ∙ simp only_flag

pub sample_tid_is : (o : Order) (c : Configuration) (bytes : List ℕ) (s : SampleValue) → Made o c bytes s →
    tid_of_task (field_at s 2) ≡ option_map (second_half o) (if has_bit c.sample_type 1 then eight_at bytes (bytes_of c.sample_type task_field.in_sample) else None)
unfolding sample AllEight
sample_tid_is o c bytes s made =
    let p = eight_plain o in
    ap tid_of_task ((field_transition o c task_front (at_flag 1 task) (drop 3 sample_fields) _ ((_, p), ((_, p), tt)) (eight_task o) bytes s made.0 made.1).0)
    ∙ tid_of o _ ∙ simp only_flag

pub sample_cpu : (o : Order) (c : Configuration) (bytes : List ℕ) (s : SampleValue) → Made o c bytes s →
    number_in (field_at s 7) ≡ option_map (first_half o) (if has_bit c.sample_type 7 then eight_at bytes (bytes_of c.sample_type cpu_field.in_sample) else None)
unfolding sample AllEight
sample_cpu o c bytes s made =
    let p = eight_plain o in
    ap number_in ((field_transition o c cpu_front (at_flag 7 cpu) (drop 8 sample_fields) _ ((_, p), ((_, p), ((_, eight_task o), ((_, p), ((_, p), ((_, p), ((_, p), tt))))))) (eight_cpu o) bytes s made.0 made.1).0)
    ∙ number_of (first_half o) _ ∙ simp only_flag

sample_own_id : (o : Order) (c : Configuration) (bytes : List ℕ) (s : SampleValue) → Made o c bytes s →
    number_in (field_at s 5) ≡ option_map o.eight (if has_bit c.sample_type 6 then eight_at bytes (bytes_of c.sample_type id_field.in_sample) else None)
unfolding sample AllEight
sample_own_id o c bytes s made =
    let p = eight_plain o in
    ap number_in ((field_transition o c id_front (at_flag 6 plain_field) (drop 6 sample_fields) _ ((_, p), ((_, p), ((_, eight_task o), ((_, p), ((_, p), tt))))) p bytes s made.0 made.1).0)
    ∙ number_of o.eight _ ∙ simp only_flag

-- its bytes are present, if it is
sample_room : (o : Order) (c : Configuration) (bytes : List ℕ) (s : SampleValue) → Made o c bytes s →
    bytes_of c.sample_type id_field.in_sample + 8 * one_if (has_bit c.sample_type 6) ≤ length bytes
unfolding sample AllEight
sample_room o c bytes s made =
    let p = eight_plain o in
    simp only_flag at ((field_transition o c id_front (at_flag 6 plain_field) (drop 6 sample_fields) (λ bytes. number_is (o.eight bytes)) ((_, p), ((_, p), ((_, eight_task o), ((_, p), ((_, p), tt))))) p bytes s made.0 made.1).1)

pub sample_identifier : (o : Order) (c : Configuration) (bytes : List ℕ) (s : SampleValue) → Made o c bytes s →
    number_in (field_at s 0) ≡ option_map o.eight (if has_bit c.sample_type 16 then eight_at bytes 0 else None)
unfolding sample AllEight
sample_identifier o c bytes s made =
    ap number_in ((field_transition o c [] (at_flag 16 plain_field) (drop 1 sample_fields) _ tt (eight_plain o) bytes s made.0 made.1).0)
    ∙ number_of o.eight _ ∙ simp only_flag

-- ---- the event's id, of ID or else of IDENTIFIER

-- the field that is chosen is the first of the two that is present
pub chosen : {A : Type 0} (t : ℕ) (at : NumberField → Option A) →
    (if has_bit t 6 then at id_field else (if has_bit t 16 then at identifier_field else None)) ≡ (if has_bit t (event_field t).flag then at (event_field t) else None)
chosen {A} t at = go (has_bit t 6) refl
  where
    go : (b : Bool) → has_bit t 6 ≡ b →
        ◌≡◌ {A = Option A} (if b then at id_field else (if has_bit t 16 then at identifier_field else None))
        (let field : NumberField = (if b then id_field else identifier_field) in if has_bit t field.flag then at field else None)
    go true e = ap (λ (b : Bool). if b then at id_field else None) (sym e)
    go false e = refl

-- the id of a sample, if ID is wholly within its bytes
pub sample_id_read : (o : Order) (c : Configuration) (bytes : List ℕ) (s : SampleValue) → Made o c bytes s →
    first_of (number_in (field_at s 5)) (number_in (field_at s 0))
    ≡ option_map o.eight (if has_bit c.sample_type (event_field c.sample_type).flag then eight_at bytes (bytes_of c.sample_type (event_field c.sample_type).in_sample) else None)
sample_id_read o c bytes s made =
    let t : ℕ = c.sample_type in
    ap (λ x. first_of x (number_in (field_at s 0))) (sample_own_id o c bytes s made)
    ∙ ap (first_of (option_map o.eight (if has_bit t 6 then eight_at bytes (bytes_of t id_field.in_sample) else None))) (sample_identifier o c bytes s made)
    ∙ either o (has_bit t 6) (has_bit t 16) bytes (bytes_of t id_field.in_sample) 0 (sample_room o c bytes s made)
    ∙ ap (option_map o.eight) (chosen t (λ field. eight_at bytes (bytes_of t field.in_sample)))
