-- The fields of a sample, each read in place.
use Rattle.std.proofs.Common.{◌≡◌, ℕ, ◌+◌, ◌-◌, ◌≤◌, ◌<◌, ◌^◌, ◌==◌, Bool, true, false, List, [], ◌∷◌, length, take, drop, Option, Some, None, refl, sym, ◌∙◌, ap, subst, arith}
use Rattle.std.specs.Prelude.{nat_le, nat_lt, unwrap_or}
use Rattle.std.specs.Int.RustNames.{bit_and}
use Rattle.std.proofs.lemmas.Bool.{leb-true}
use Rattle.std.proofs.lemmas.List.{length-drop, length-take-le, take-take}
use Rattle.perf_base.specs.FieldWords.{u32, u64, bytes, numbers, gap, require}
use Rattle.perf_base.specs.Layout.{Parts, done, part, optional, padding, byte_string, w8, ◌>>=◌}
use Rattle.perf_base.specs.Order.{Order}
use Rattle.perf_base.specs.Table.{present_if, slot}
use Rattle.perf_base.specs.declared.error.ErrorKind.TheVariants.{InvalidRecord}
use Rattle.perf_sample_types.specs.Sample.{FieldValue, number_is, task_is, numbers_are, bytes_are, plain_field, task, cpu, call_chain, raw, raw_padding, stack, sized_bytes, has_one}
use Rattle.perf_sample_types.specs.SampleGetters.{numbers_in, bytes_of_field}
use Rattle.perf_sample_types.proofs.FlaggedFields.{flag_asked}
use Rattle.perf_flat.specs.Arrays.{low_u32, span}
use Rattle.perf_flat.specs.CursorReads.{IsBodyOf, left_of, ReadsParts, ReadsFor, PassesNumbers}
use Rattle.perf_flat.specs.SampleReads.{InFrames}
use Rattle.perf_flat.specs.Samples.{HasList, HasString}
use Rattle.perf_flat.specs.Strings.{HasBytes, HasNumbers}
use Rattle.perf_flat.specs.declared.frame.Span.{Span}
use Rattle.perf_flat.specs.declared.cursor.BodyCursor.{BodyCursor}
use Rattle.perf_flat.proofs.CursorRuns.{then_reads, all_read, Passed, passed_part, passed_there, passed_fits, still_fresh, refuses_not}

-- ---- present or absent

-- the flag of a field
pub flag_is : (bit : ℕ) {word type : ℕ} {result b : Bool} → word ≡ type → result ≡ (bit_and word (2 ^ bit) == 2 ^ bit) → result ≡ b → has_one type (bit ∷ []) ≡ b
flag_is bit asked e is = flag_asked bit asked ∙ sym e ∙ is

pub slot_there : {o : Order} {a b : BodyCursor} {v : FieldValue} (present : Bool) (p : Parts FieldValue) → present ≡ true → ReadsParts o p v a b → ReadsParts o (slot (present_if present p)) (Some v) a b
slot_there true p is reads = then_reads p (λ x. done (Some x)) reads all_read
slot_there false p is reads = absurd (cc)

pub slot_none : {o : Order} {a : BodyCursor} (present : Bool) (p : Parts FieldValue) → present ≡ false → ReadsParts o (slot (present_if present p)) None a a
slot_none true p is = absurd (cc)
slot_none false p is = all_read

pub there_for : {o : Order} {a b : BodyCursor} (has : List ℕ → Option FieldValue → Type 0) (present : Bool) (p : Parts FieldValue) → present ≡ true →
    ReadsFor o p (λ v. InFrames a.bytes.now (λ frame. has frame (Some v))) a b → ReadsFor o (slot (present_if present p)) (λ v. InFrames a.bytes.now (λ frame. has frame v)) a b
there_for has present p is read = record { value = Some read.value; reads = slot_there present p is read.reads; holds = read.holds }

pub none_for : {o : Order} {a : BodyCursor} (has : List ℕ → Option FieldValue → Type 0) (present : Bool) (p : Parts FieldValue) → present ≡ false → ((frame : List ℕ) → has frame None) →
    ReadsFor o (slot (present_if present p)) (λ v. InFrames a.bytes.now (λ frame. has frame v)) a a
none_for has present p is none = record { value = None; reads = slot_none present p is; holds = λ ok frame body. none frame }

-- ---- numbers

pub plain_read : {o : Order} {a b : BodyCursor} {n : ℕ} → ReadsParts o u64 n a b → ReadsParts o plain_field (number_is n) a b
plain_read one = then_reads u64 (λ n. done (number_is n)) one all_read

pub task_read : {o : Order} {a b d : BodyCursor} {pid tid : ℕ} → ReadsParts o u32 pid a b → ReadsParts o u32 tid b d → ReadsParts o task (task_is (Some pid) (Some tid)) a d
task_read {o} {a} {b} {d} {pid} {tid} one two = then_reads u32 (λ pid. u32 >>= λ tid. done (task_is (Some pid) (Some tid))) one (then_reads u32 (λ tid. done (task_is (Some pid) (Some tid))) two all_read)

-- unused bytes
pub passed_over : (o : Order) (n : ℕ) (a b : BodyCursor) (s : Span) → a.at ≤ length a.bytes.now → Passed n a s b → ReadsParts {A = Unit {0}} o (gap n) tt a b
passed_over o n a b s within passed = passed_part o (padding n) n a b s refl within passed

pub cpu_read : {o : Order} {a b d : BodyCursor} {number : ℕ} → ReadsParts o u32 number a b → ReadsParts {A = Unit {0}} o (gap 4) tt b d → ReadsParts o cpu (number_is number) a d
cpu_read {o} {a} {b} {d} {number} one two = then_reads u32 (λ number. gap 4 >>= λ _. done (number_is number)) one (then_reads (gap 4) (λ _. done (number_is number)) two all_read)

-- ---- lists

pub chain_read : (o : Order) (count : ℕ) (a b d : BodyCursor) (s : Span) → ReadsParts o u64 count a b → PassesNumbers o count b s d →
    ReadsFor o call_chain (λ v. InFrames a.bytes.now (λ frame. HasList o frame s (numbers_in (Some v)))) a d
chain_read o count a b d s one list = record {
  value = numbers_are list.value;
  reads = then_reads u64 (λ count. numbers count >>= λ xs. done (numbers_are xs)) one (then_reads (numbers count) (λ xs. done (numbers_are xs)) list.reads all_read);
  holds = λ ok frame is.
      let has = list.holds ok in
      subst (λ n. HasNumbers o frame s n (λ are. are ≡ list.value)) (sym has.0) (has.1 frame (subst (IsBodyOf frame) (sym one.bytes) is));
}

-- n bytes were passed over, and they are at the span in each frame of the body
pub record PassesBytes (o : Order) (n : ℕ) (a : BodyCursor) (s : Span) (b : BodyCursor) : Type 0 where
  pub contents : List ℕ
  pub reads : ReadsParts o (bytes n) contents a b
  pub long : b.refusal ≡ None → length contents ≡ n
  pub there : b.refusal ≡ None → InFrames a.bytes.now (λ frame. HasBytes frame s contents)

pub passed_bytes : (o : Order) (n : ℕ) (a b : BodyCursor) (s : Span) → a.at ≤ length a.bytes.now → Passed n a s b → PassesBytes o n a s b
passed_bytes o n a b s within passed = record {
  contents = take n (left_of a);
  reads = passed_part o (byte_string n) n a b s refl within passed;
  long = λ ok. length-take-le n (left_of a) (passed_fits n a b s passed ok);
  there = λ ok frame is. passed_there n a b s within passed ok frame is;
}

pub sized_read : (o : Order) (size : ℕ) (a b d : BodyCursor) (s : Span) → ReadsParts o u64 size a b → PassesBytes o size b s d →
    ReadsFor o sized_bytes (λ v. InFrames a.bytes.now (λ frame. HasString frame s (bytes_of_field (Some v)))) a d
sized_read o size a b d s one list = record {
  value = bytes_are list.contents;
  reads = then_reads u64 (λ size. bytes size >>= λ xs. done (bytes_are xs)) one (then_reads (bytes size) (λ xs. done (bytes_are xs)) list.reads all_read);
  holds = λ ok frame is. list.there ok frame (subst (IsBodyOf frame) (sym one.bytes) is);
}

pub raw_read : (o : Order) (len : ℕ) (a b d e : BodyCursor) (s : Span) → ReadsParts o u32 len a b → PassesBytes o len b s d → ReadsParts {A = Unit {0}} o (gap (raw_padding len)) tt d e →
    ReadsFor o raw (λ v. InFrames a.bytes.now (λ frame. HasString frame s (bytes_of_field (Some v)))) a e
raw_read o len a b d e s one list rest = record {
  value = bytes_are list.contents;
  reads = then_reads u32 (λ len. bytes len >>= λ xs. (gap (raw_padding len) >>= λ _. done (bytes_are xs))) one
      (then_reads (bytes len) (λ xs. gap (raw_padding len) >>= λ _. done (bytes_are xs)) list.reads (then_reads (gap (raw_padding len)) (λ _. done (bytes_are list.contents)) rest all_read));
  holds = λ ok frame is. list.there (still_fresh rest ok) frame (subst (IsBodyOf frame) (sym one.bytes) is);
}

-- the used part of a stack
used_there : (frame contents : List ℕ) (s : Span) (used : ℕ) → length frame < 2 ^ 32 → used ≤ length contents → HasBytes frame s contents → HasBytes frame (span s.at (low_u32 used)) (take used contents)
used_there frame contents s used short fits has =
    let inside : s.at + s.len ≤ length frame = has.inside in
    let left : length (drop s.at frame) ≡ length frame - s.at = length-drop s.at frame in
    let long : length contents ≡ s.len = sym (ap length has.there) ∙ length-take-le s.len (drop s.at frame) (omega arith) in
    let small : low_u32 used ≡ used = omega arith in
    record {
      inside = omega arith;
      there = ap (λ n. take n (drop s.at frame)) small ∙ sym (take-take used s.len (drop s.at frame) (omega arith)) ∙ ap (take used) has.there;
    }

pub stack_read : (o : Order) (size : ℕ) (used : Option ℕ) (a b d e f : BodyCursor) (s : Span) → ReadsParts o u64 size a b → PassesBytes o size b s d →
    ReadsParts o (part (optional (nat_lt 0 size) w8) done) used d e → ReadsParts {A = Unit {0}} o (require (nat_le (unwrap_or used 0) size) InvalidRecord) tt e f →
    ReadsFor o stack (λ v. InFrames a.bytes.now (λ frame. HasString frame (span s.at (low_u32 (unwrap_or used 0))) (bytes_of_field (Some v)))) a f
stack_read o size used a b d e f s one list two three =
    let end : List ℕ → Option ℕ → Parts FieldValue = λ xs used. done (bytes_are (take (unwrap_or used 0) xs)) in
    let after : List ℕ → Option ℕ → Parts FieldValue = λ xs used. require (nat_le (unwrap_or used 0) size) InvalidRecord >>= λ _. end xs used in
    record {
      value = bytes_are (take (unwrap_or used 0) list.contents);
      reads = then_reads u64 (λ size. bytes size >>= λ xs. (part (optional (nat_lt 0 size) w8) done >>= λ used. (require (nat_le (unwrap_or used 0) size) InvalidRecord >>= λ _. done (bytes_are (take (unwrap_or used 0) xs))))) one
          (then_reads (bytes size) (λ xs. part (optional (nat_lt 0 size) w8) done >>= λ used. after xs used) list.reads
          (then_reads (part (optional (nat_lt 0 size) w8) done) (λ used. after list.contents used) two
          (then_reads (require (nat_le (unwrap_or used 0) size) InvalidRecord) (λ _. end list.contents used) three all_read)));
      holds = λ ok frame is.
          let ok_e = still_fresh three ok in
          let ok_d = still_fresh two ok_e in
          let fits : unwrap_or used 0 ≤ size = leb-true (unwrap_or used 0) size (refuses_not three ok) in
          let long : length list.contents ≡ size = list.long ok_d in
          used_there frame list.contents s (unwrap_or used 0) is.short (omega arith) (list.there ok_d frame (subst (IsBodyOf frame) (sym one.bytes) is));
    }
