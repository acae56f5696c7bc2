-- What a flat frame states of a body, by how it was made.
use Rattle.std.specs.Prelude.{if◌then◌else◌}
use Rattle.std.proofs.Common.{◌≡◌, ℕ, ◌+◌, ◌<◌, ◌^◌, ◌==◌, ◌&&◌, Bool, true, false, List, ◌++◌, length, take, Some, None, refl, sym, ◌∙◌, ap, subst, arith}
use Rattle.std.proofs.lemmas.Bool.{and_right}
use Rattle.std.proofs.lemmas.List.{length-append, take_all, drop_at}
use Rattle.std.specs.Int.RustNames.{bit_and}
use Rattle.perf_base.specs.Configuration.{Configuration, under_misc}
use Rattle.perf_base.specs.Order.{Order}
use Rattle.perf_base.specs.declared.refusal.Refusal.{Refusal}
use Rattle.perf_base.specs.declared.sys.perf_event_header.{perf_event_header}
use Rattle.perf_records.specs.Bodies.{body}
use Rattle.perf_records.specs.Metadata.{carries_sample_id}
use Rattle.perf_records.specs.Records.{RecordValue}
use Rattle.perf_sample_types.specs.SampleId.{SampleIdValue, no_sample_id}
use Rattle.perf_flat.specs.FlatBodies.{without_ids, StatesBody, IsFlatBody}
use Rattle.perf_flat.specs.Arrays.{filled}
use Rattle.perf_flat.specs.Flat.{CarriesNumbers, StatesRecord, HasHeader, present_of, id_flags, ids_of, numbers_under, refused_frame}
use Rattle.perf_flat.specs.CursorReads.{IsBodyOf, WritesRecord}
use Rattle.perf_flat.specs.Samples.{sample_present}
use Rattle.perf_flat.specs.declared.frame.FlatFrame.{FlatFrame}
use Rattle.perf_flat.proofs.RecordWrites.{still_headed, now_carries}

-- only the fields of a sample are present without a sample id
alone : (b : Bool) (x y z : ℕ) → z ≡ 0 → (if b then (if b then x else y) else 0) ≡ (if b then x else z)
alone true x y z none = refl
alone false x y z none = sym none

present_without : (c : Configuration) (ty : ℕ) → (if ty == 9 then present_of c ty else 0) ≡ present_of (without_ids c) ty
present_without c ty =
    alone (ty == 9) (sample_present c) (if carries_sample_id ty && c.sample_id_all then bit_and c.sample_type id_flags else 0)
    (if carries_sample_id ty && false then bit_and c.sample_type id_flags else 0)
    (ap (λ b. if b then bit_and c.sample_type id_flags else 0) (and_right (carries_sample_id ty) false refl))

-- a flat frame of a record, without a sample id
no_id_header : (h : perf_event_header) (a : FlatFrame) (p : ℕ) → HasHeader h a → HasHeader h (record a { present = p })
no_id_header h a p headed = record { type_ = headed.type_; misc = headed.misc; size = headed.size }

no_id_numbers : (c : Configuration) (h : perf_event_header) (ids : SampleIdValue) (all : List ℕ) (a : FlatFrame) (p : ℕ) → HasHeader h a → p ≡ (if h.type_ == 9 then a.present else 0) → CarriesNumbers c ids all a → CarriesNumbers (without_ids c) ids all (record a { present = p })
no_id_numbers c h ids all a p headed is carries = record {
  read = carries.read;
  refusal = carries.refusal;
  reason = carries.reason;
  present = is ∙ ap (λ t. if t == 9 then a.present else 0) (sym headed.type_) ∙ ap (λ q. if a.type_ == 9 then q else 0) carries.present ∙ present_without c a.type_;
  read_format = carries.read_format;
  id = record {
    pid = carries.id.pid;
    tid = carries.id.tid;
    time = carries.id.time;
    id = carries.id.id;
    stream_id = carries.id.stream_id;
    cpu = carries.id.cpu;
  };
  numbers = carries.numbers;
}

-- the body is after eight bytes
body_after : (front bytes : List ℕ) → length front ≡ 8 → length bytes < 2 ^ 16 → IsBodyOf (front ++ bytes) bytes
body_after front bytes eight short =
    let long : length (front ++ bytes) ≡ length front + length bytes = length-append front bytes in
    record {
      headed = omega arith;
      short = omega arith;
      count = length bytes;
      is = sym (take_all (length bytes) bytes (omega arith)) ∙ ap (take (length bytes)) (sym (drop_at front bytes 8 eight));
    }

-- what it states of a record
pub body_placed : (c : Configuration) (o : Order) (h : perf_event_header) (bytes before : List ℕ) (old new : FlatFrame) (p : ℕ) →
    length bytes < 2 ^ 16 → WritesRecord (under_misc h.misc c) o (body (under_misc h.misc c) h.type_) bytes old None new →
    HasHeader h old → CarriesNumbers c no_sample_id before old → p ≡ (if h.type_ == 9 then new.present else 0) → IsFlatBody c o h bytes (record new { present = p })
unfolding WritesRecord
body_placed c o h bytes before old new p short places headed carries is =
    let value : RecordValue = places.0 in
    let holds = places.2 in
    let all : List ℕ = filled (numbers_under c.read_format value) in
    let own : SampleIdValue = no_sample_id in
    let header = still_headed h old new holds.head headed in
    let now = now_carries c own (ids_of own value) before all old new holds.head carries (holds.ids own carries.id) holds.numbers in
    record {
      header = no_id_header h new p header;
      answer = λ front eight.
          let frame : List ℕ = front ++ bytes in
          let says : StatesRecord (without_ids c) o frame no_sample_id value (record new { present = p }) =
          (no_id_numbers c h (ids_of own value) all new p header is now, holds.spans frame (body_after front bytes eight short)) in
          subst (λ a. StatesBody c o h frame a (record new { present = p })) (sym places.1) says;
    }

pub body_refused : (c : Configuration) (o : Order) (h : perf_event_header) (bytes : List ℕ) (e : Refusal) (old new f : FlatFrame) →
    WritesRecord (under_misc h.misc c) o (body (under_misc h.misc c) h.type_) bytes old (Some e) new → f ≡ refused_frame h e → IsFlatBody c o h bytes f
unfolding WritesRecord
body_refused c o h bytes e old new f places is = record {
  header = record {
    type_ = ap (λ (x : FlatFrame). x.type_) is;
    misc = ap (λ (x : FlatFrame). x.misc) is;
    size = ap (λ (x : FlatFrame). x.size) is;
  };
  answer = λ front eight. subst (λ a. StatesBody c o h (front ++ bytes) a f) (sym places) (e, refl, is);
}
