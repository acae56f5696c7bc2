-- The fields of a sample id are at their places before the end of a frame.
use Rattle.std.proofs.Common.{◌≡◌, ℕ, ◌+◌, ◌-◌, ◌*◌, ◌≤◌, ◌<◌, ◌⊎◌, inl, inr, Bool, true, false, List, [], ◌∷◌, length, take, drop, Option, Some, None, sym, ◌∙◌, ap, subst, arith, if◌then◌else◌}
use Rattle.std.specs.Prelude.{option_map}
use Rattle.std.specs.Option.{option_or}
use Rattle.std.proofs.lemmas.List.{length-drop, length-take-le, take-take, take_all, drop-take, drop-drop}
use Rattle.perf_base.specs.Layout.{Parts, done, slice, value}
use Rattle.perf_base.specs.Order.{Order}
use Rattle.perf_sample_types.specs.SampleId.{SampleIdValue, one_if, no_sample_id, sample_id_fields, sample_id_flags, has_tid, has_time, has_id, has_stream_id, has_cpu, has_identifier}
use Rattle.perf_base.specs.Configuration.{Configuration}
use Rattle.perf_base.specs.declared.sys.perf_event_header.{perf_event_header}
use Rattle.perf_records.specs.Answers.{frame_parts, parts_of}
use Rattle.perf_records.specs.Metadata.{MetadataValue, id_length, id_of_type}
use Rattle.perf_records.specs.FrameNumbers.{eight_at, bytes_of, first_half, second_half, task_field, time_field, id_field, cpu_field, identifier_field}
use Rattle.perf_records.proofs.IdNumbers.{fields_read, there, id_pid, id_tid, id_time, id_id, id_stream_id, id_cpu}
use Rattle.perf_records.specs.FrameEnds.{TakesLast, TakesId, EndsWithId, id_field_reads}
use Rattle.perf_records.specs.declared.frame_end.FrameEnd.{FrameEnd}
use Rattle.perf_records.specs.declared.frame_end.LastField.{LastField}

-- ---- fields that are taken off one after another

-- by the flag that says whether it is present
pub taken_if : {p q r : Bool} {bytes : List ℕ} {field : LastField} → TakesLast p bytes field → p ≡ q → q ≡ r → TakesLast r bytes field
taken_if {p} {q} {r} {bytes} {field} takes asked is = subst (λ b. TakesLast b bytes field) (asked ∙ is) takes

pub lacks_if : {p q r : Bool} (bytes : List ℕ) → length bytes < 8 * one_if p → p ≡ q → q ≡ r → length bytes < 8 * one_if r
lacks_if bytes lacks asked is = subst (λ b. length bytes < 8 * one_if b) (asked ∙ is) lacks

-- and so there are too few bytes before it was taken off
pub lacks_before : {p q r : Bool} {bytes : List ℕ} {field : LastField} (n : ℕ) → TakesLast p bytes field → p ≡ q → q ≡ r → length field.before.now < n → length bytes < n + 8 * one_if r
lacks_before {p} {q} {r} {bytes} {field} n takes asked is lacks =
    let next : TakesLast r bytes field = taken_if takes asked is in
    omega (arith, next.long)

-- the front of bytes that is left, of n bytes
record IsFront (bytes front : List ℕ) (n : ℕ) : Type 0 where
  is : front ≡ take n bytes
  fits : n ≤ length bytes

all_front : (bytes : List ℕ) → IsFront bytes bytes (length bytes)
all_front bytes = record { is = sym (take_all (length bytes) bytes (omega arith)); fits = omega arith }

front_long : {bytes front : List ℕ} {n : ℕ} → IsFront bytes front n → length front ≡ n
front_long {bytes} {front} {n} left = ap length left.is ∙ length-take-le n bytes left.fits

next_front : {bytes front : List ℕ} {n : ℕ} {present : Bool} {field : LastField} (m : ℕ) → IsFront bytes front n → TakesLast present front field → m + 8 * one_if present ≡ n → IsFront bytes field.before.now m
next_front {bytes} {front} {n} {present} {field} m left takes counted =
    let long : length front ≡ n = front_long left in
    let rest : length front - 8 * one_if present ≡ m = omega arith in
    record {
      is = takes.before ∙ ap (λ k. take k front) rest ∙ ap (take m) left.is ∙ take-take m n bytes (omega arith);
      fits = omega (arith, left.fits);
    }

-- the bytes of a field are at its place in the sample id, which begins at the offset s
word_there : {bytes front : List ℕ} {n : ℕ} {field : LastField} (s p : ℕ) (present : Bool) → IsFront bytes front n → TakesLast present front field → s + p + 8 * one_if present ≡ n →
    field.word ≡ (if present then eight_at (drop s bytes) p else None)
word_there {bytes} {front} {n} {field} s p false left takes counted = takes.word
word_there {bytes} {front} {n} {field} s p true left takes counted =
    let long : length front ≡ n = front_long left in
    let at : length front - 8 ≡ s + p = omega arith in
    let end : n ≡ s + p + 8 = sym counted in
    let fits : p + 8 ≤ length (drop s bytes) = omega (arith, length-drop s bytes, left.fits) in
    let word : drop (length front - 8) front ≡ slice (drop s bytes) p 8 =
    ap (λ k. drop k front) at ∙ ap (drop (s + p)) left.is ∙ ap (λ k. drop (s + p) (take k bytes)) end ∙ drop-take (s + p) 8 bytes ∙ ap (take 8) (sym (drop-drop p s bytes)) in
    takes.word ∙ ap Some word ∙ sym (there (drop s bytes) p fits)

-- ---- the sample id

-- the bytes of ID, or else of IDENTIFIER
either_word : (one other : Bool) (ids : List ℕ) (p q : ℕ) {a b : Option (List ℕ)} → a ≡ (if one then eight_at ids p else None) → b ≡ (if other then eight_at ids q else None) → p + 8 * one_if one ≤ length ids →
    option_or a b ≡ (if one then eight_at ids p else (if other then eight_at ids q else None))
either_word true other ids p q {a} {b} is next fits =
    let some : eight_at ids p ≡ Some (slice ids p 8) = there ids p fits in
    ap (λ k. option_or k b) (is ∙ some) ∙ sym some
either_word false other ids p q {a} {b} is next fits = ap (λ k. option_or k b) is ∙ next

-- two sample ids with the same fields
same_id : (a b : SampleIdValue) → a.pid ≡ b.pid → a.tid ≡ b.tid → a.time ≡ b.time → a.id ≡ b.id → a.stream_id ≡ b.stream_id → a.cpu ≡ b.cpu → a ≡ b
same_id a b pid tid time id stream_id cpu =
    ap (λ n. record a { pid = n }) pid
    ∙ ap (λ n. record a { pid = b.pid; tid = n }) tid
    ∙ ap (λ n. record b { time = n; id = a.id; stream_id = a.stream_id; cpu = a.cpu }) time
    ∙ ap (λ n. record b { id = n; stream_id = a.stream_id; cpu = a.cpu }) id
    ∙ ap (λ n. record b { stream_id = n; cpu = a.cpu }) stream_id
    ∙ ap (λ n. record b { cpu = n }) cpu

-- all six were taken off
pub id_taken : {bytes : List ℕ} {identifier cpu stream_id id time task : LastField} {pid_is tid_is time_is id_is stream_id_is cpu_is : Option ℕ} {either : Option (List ℕ)} (o : Order) (t : ℕ) (made : FrameEnd) →
    TakesLast (has_identifier t) bytes identifier → TakesLast (has_cpu t) identifier.before.now cpu → TakesLast (has_stream_id t) cpu.before.now stream_id →
    TakesLast (has_id t) stream_id.before.now id → TakesLast (has_time t) id.before.now time → TakesLast (has_tid t) time.before.now task →
    made.id ≡ record { pid = pid_is; tid = tid_is; time = time_is; id = id_is; stream_id = stream_id_is; cpu = cpu_is } →
    pid_is ≡ option_map (first_half o) task.word → tid_is ≡ option_map (second_half o) task.word → time_is ≡ option_map o.eight time.word → id_is ≡ option_map o.eight either → either ≡ option_or id.word identifier.word →
    stream_id_is ≡ option_map o.eight stream_id.word → cpu_is ≡ option_map (first_half o) cpu.word → made.body.now ≡ task.before.now → made.reads ≡ id_field_reads t → TakesId o (8 * sample_id_flags t) (sample_id_fields t) bytes made
id_taken {bytes} {identifier} {cpu} {stream_id} {id} {time} {task} {pid_is} {tid_is} {time_is} {id_is} {stream_id_is} {cpu_is} {either} o t made six five four three two one fields pid tid at event of_two stream processor body counted =
    let n : ℕ = 8 * sample_id_flags t in
    let room : n ≤ length bytes = omega (arith, six.long, five.long, four.long, three.long, two.long, one.long) in
    let s : ℕ = length bytes - n in
    let ids : List ℕ = drop s bytes in
    let long : length ids ≡ n = omega (arith, length-drop s bytes) in
    let b_0 = all_front bytes in
    let b_1 = next_front (s + bytes_of t identifier_field.in_id) b_0 six (omega arith) in
    let b_2 = next_front (s + bytes_of t cpu_field.in_id) b_1 five (omega arith) in
    let b_3 = next_front (s + bytes_of t (1 ∷ 2 ∷ 6 ∷ [])) b_2 four (omega arith) in
    let b_4 = next_front (s + bytes_of t id_field.in_id) b_3 three (omega arith) in
    let b_5 = next_front (s + bytes_of t time_field.in_id) b_4 two (omega arith) in
    let b_6 = next_front (s + bytes_of t task_field.in_id) b_5 one (omega arith) in
    let w_6 = word_there s (bytes_of t identifier_field.in_id) (has_identifier t) b_0 six (omega arith) in
    let w_5 = word_there s (bytes_of t cpu_field.in_id) (has_cpu t) b_1 five (omega arith) in
    let w_4 = word_there s (bytes_of t (1 ∷ 2 ∷ 6 ∷ [])) (has_stream_id t) b_2 four (omega arith) in
    let w_3 = word_there s (bytes_of t id_field.in_id) (has_id t) b_3 three (omega arith) in
    let w_2 = word_there s (bytes_of t time_field.in_id) (has_time t) b_4 two (omega arith) in
    let w_1 = word_there s (bytes_of t task_field.in_id) (has_tid t) b_5 one (omega arith) in
    record {
      room = room;
      id = fields ∙ same_id (record { pid = pid_is; tid = tid_is; time = time_is; id = id_is; stream_id = stream_id_is; cpu = cpu_is }) (value o ids 0 (sample_id_fields t))
          (pid ∙ ap (option_map (first_half o)) w_1 ∙ sym (id_pid o t ids long))
          (tid ∙ ap (option_map (second_half o)) w_1 ∙ sym (id_tid o t ids long))
          (at ∙ ap (option_map o.eight) w_2 ∙ sym (id_time o t ids long))
          (event ∙ ap (option_map o.eight) (of_two ∙ either_word (has_id t) (has_identifier t) ids (bytes_of t id_field.in_id) (bytes_of t identifier_field.in_id) w_3 w_6 (omega arith)) ∙ sym (id_id o t ids long))
          (stream ∙ ap (option_map o.eight) w_4 ∙ sym (id_stream_id o t ids long))
          (processor ∙ ap (option_map (first_half o)) w_5 ∙ sym (id_cpu o t ids long));
      body = body ∙ b_6.is ∙ ap (λ k. take k bytes) (omega arith);
      reads = counted ∙ sym (fields_read o t ids long);
      bound = omega (arith, counted);
    }

-- there are too few bytes
pub ends_short : (o : Order) (n : ℕ) (parts : Parts SampleIdValue) (bytes : List ℕ) {result : Option FrameEnd} → result ≡ None → length bytes < n → EndsWithId o n parts bytes result
ends_short o n parts bytes is short = subst (λ r. EndsWithId o n parts bytes r) (sym is) short

-- ---- by the type of the frame

-- a frame that has one
pub type_there : (o : Order) (t : ℕ) (bytes : List ℕ) (result : Option FrameEnd) (carries all : Bool) → carries ≡ true → all ≡ true → EndsWithId o (8 * sample_id_flags t) (sample_id_fields t) bytes result →
    EndsWithId o (if carries then (if all then 8 * sample_id_flags t else 0) else 0) (if carries then (if all then sample_id_fields t else done no_sample_id) else done no_sample_id) bytes result
type_there o t bytes result true true is is_all ends = ends
type_there o t bytes result true false is is_all ends = absurd (cc)
type_there o t bytes result false all is is_all ends = absurd (cc)

-- nothing was taken off
none_taken : (o : Order) (bytes : List ℕ) (made : FrameEnd) → made.id ≡ no_sample_id → made.body.now ≡ bytes → made.reads ≡ 0 → TakesId o 0 (done no_sample_id) bytes made
none_taken o bytes made is_id is_body none = record {
  room = omega arith;
  id = is_id;
  body = is_body ∙ sym (take_all (length bytes - 0) bytes (omega arith));
  reads = none;
  bound = omega (arith, none);
}

-- a frame that has none, by its type or by the configuration
pub type_absent : (o : Order) (t : ℕ) (bytes : List ℕ) (made : FrameEnd) (carries all : Bool) → carries ≡ false ⊎ all ≡ false → made.id ≡ no_sample_id → made.body.now ≡ bytes → made.reads ≡ 0 →
    TakesId o (if carries then (if all then 8 * sample_id_flags t else 0) else 0) (if carries then (if all then sample_id_fields t else done no_sample_id) else done no_sample_id) bytes made
type_absent o t bytes made true true (inl is) is_id is_body none = absurd (cc)
type_absent o t bytes made true true (inr is) is_id is_body none = absurd (cc)
type_absent o t bytes made true false is is_id is_body none = none_taken o bytes made is_id is_body none
type_absent o t bytes made false all is is_id is_body none = none_taken o bytes made is_id is_body none

-- ---- the parts of the frame

-- the length of its body
pub body_long : (c : Configuration) (o : Order) (ty : ℕ) (bytes : List ℕ) (made : FrameEnd) → TakesId o (id_length c ty) (id_of_type c ty) bytes made → length made.body.now ≡ length bytes - id_length c ty
body_long c o ty bytes made takes = ap length takes.body ∙ length-take-le (length bytes - id_length c ty) bytes (omega (arith, takes.room))

-- its metadata and its body
pub parts_taken : (c : Configuration) (o : Order) (h : perf_event_header) (bytes : List ℕ) (made : FrameEnd) (m : MetadataValue) (n : ℕ) → TakesId o (id_length c h.type_) (id_of_type c h.type_) bytes made →
    m ≡ record { ty = h.type_; misc = h.misc; sample_id = made.id } → n ≡ length made.body.now → frame_parts m (take n bytes) ≡ parts_of c o h bytes
parts_taken c o h bytes made m n takes is long =
    ap (λ k. frame_parts k (take n bytes)) (is ∙ ap (λ id. record { ty = h.type_; misc = h.misc; sample_id = id }) takes.id)
    ∙ ap (λ k. frame_parts (parts_of c o h bytes).metadata (take k bytes)) (long ∙ body_long c o h.type_ bytes made takes)
