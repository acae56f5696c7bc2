-- Byte strings at the end of a body, or after a number of bytes of it.
use Rattle.std.proofs.Common.{◌≡◌, ℕ, ◌+◌, ◌-◌, ◌≤◌, ◌<◌, ◌^◌, List, length, take, drop, refl, sym, ◌∙◌, ap, subst, arith}
use Rattle.std.proofs.lemmas.List.{length-drop, length-take-le, drop-drop, take_all}
use Rattle.perf_base.specs.FieldWords.{all_left, name}
use Rattle.perf_base.specs.Layout.{done, rest}
use Rattle.perf_base.specs.Order.{Order}
use Rattle.perf_base.specs.Zeros.{trim_zeros}
use Rattle.perf_reader.proofs.AtOnce.{in_front}
use Rattle.perf_flat.specs.Arrays.{low_u32, span}
use Rattle.perf_flat.specs.CursorReads.{left_of, ReadsParts, ReadsFor}
use Rattle.perf_flat.specs.SampleReads.{InFrames}
use Rattle.perf_flat.specs.Strings.{HasBytes}
use Rattle.perf_flat.specs.declared.frame.Span.{Span}
use Rattle.perf_flat.specs.declared.cursor.BodyCursor.{BodyCursor}
use Rattle.perf_flat.proofs.CursorRuns.{then_reads, all_read, part_fits}
use Rattle.perf_flat.proofs.Spans.{stands_there}
use Rattle.perf_flat.proofs.TrimmedBytes.{name_stands, taken_stands}

-- all bytes that are left
rest_read : (o : Order) (a b : BodyCursor) → a.at ≤ length a.bytes.now → b.bytes.now ≡ a.bytes.now → b.refusal ≡ a.refusal → b.at ≡ length a.bytes.now → ReadsParts o all_left (left_of a) a b
rest_read o a b within same stays at =
    let n : ℕ = length (left_of a) in
    subst (λ xs. ReadsParts o all_left xs a b) (take_all n (left_of a) (omega arith)) (part_fits o rest n a b refl (omega arith) stays same (omega (arith, at, within, length-drop a.at a.bytes.now)))

-- they are in each frame of the body
pub all_left_read : (o : Order) (n : ℕ) (a b : BodyCursor) (s : Span) → a.at ≤ length a.bytes.now → b.bytes.now ≡ a.bytes.now → b.refusal ≡ a.refusal → b.at ≡ length a.bytes.now →
    n ≡ length a.bytes.now - a.at → s ≡ span (low_u32 (8 + a.at)) (low_u32 n) → ReadsFor o all_left (λ v. InFrames a.bytes.now (λ frame. HasBytes frame s v)) a b
all_left_read o n a b s within same stays at many is_span = record {
  value = left_of a;
  reads = rest_read o a b within same stays at;
  holds = λ ok frame is.
      let left : length (left_of a) ≡ length a.bytes.now - a.at = length-drop a.at a.bytes.now in
      let all : take n (left_of a) ≡ left_of a = take_all n (left_of a) (omega arith) in
      let long : length (left_of a) ≡ n = omega arith in
      let stands = stands_there frame a.bytes.now is a.at (take n (left_of a)) (taken_stands a.bytes.now a.at n (omega arith)) in
      let whole : HasBytes frame (span (low_u32 (8 + a.at)) (low_u32 (length (left_of a)))) (left_of a) = subst (λ xs. HasBytes frame (span (low_u32 (8 + a.at)) (low_u32 (length xs))) xs) all stands in
      subst (λ x. HasBytes frame x (left_of a)) (ap (λ m. span (low_u32 (8 + a.at)) (low_u32 m)) long ∙ sym is_span) whole;
}

-- a name is in each frame of the body
pub name_read : (o : Order) (n : ℕ) (a b : BodyCursor) (s : Span) → a.at ≤ length a.bytes.now → b.bytes.now ≡ a.bytes.now → b.refusal ≡ a.refusal → b.at ≡ length a.bytes.now →
    n ≤ length (left_of a) → take n (left_of a) ≡ trim_zeros (left_of a) → s ≡ span (low_u32 (8 + a.at)) (low_u32 n) → ReadsFor o name (λ v. InFrames a.bytes.now (λ frame. HasBytes frame s v)) a b
name_read o n a b s within same stays at fits is_name is_span = record {
  value = trim_zeros (left_of a);
  reads = then_reads all_left (λ xs. done (trim_zeros xs)) (rest_read o a b within same stays at) all_read;
  holds = λ ok frame is.
      let bytes : List ℕ = trim_zeros (left_of a) in
      let long : length bytes ≡ n = sym (ap length is_name) ∙ length-take-le n (left_of a) fits in
      let whole : HasBytes frame (span (low_u32 (8 + a.at)) (low_u32 (length bytes))) bytes = stands_there frame a.bytes.now is a.at bytes (name_stands a.bytes.now a.at bytes within refl) in
      subst (λ x. HasBytes frame x bytes) (ap (λ m. span (low_u32 (8 + a.at)) (low_u32 m)) long ∙ sym is_span) whole;
}

-- a part of bytes that are in a frame
pub part_there : (frame contents : List ℕ) (s : Span) (at n : ℕ) → length frame < 2 ^ 32 → at + n ≤ length contents → HasBytes frame s contents → HasBytes frame (span (low_u32 (s.at + at)) (low_u32 n)) (take n (drop at contents))
part_there frame contents s at n short fits has =
    let inside : s.at + s.len ≤ length frame = has.inside in
    let left : length (drop s.at frame) ≡ length frame - s.at = length-drop s.at frame in
    let long : length contents ≡ s.len = sym (ap length has.there) ∙ length-take-le s.len (drop s.at frame) (omega arith) in
    let place : low_u32 (s.at + at) ≡ s.at + at = omega arith in
    let small : low_u32 n ≡ n = omega arith in
    record {
      inside = omega arith;
      there = ap (λ m. take m (drop (low_u32 (s.at + at)) frame)) small ∙ ap (λ m. take n (drop m frame)) place
          ∙ sym (in_front at n s.len (drop s.at frame) (omega arith) ∙ ap (take n) (drop-drop at s.at frame)) ∙ ap (λ xs. take n (drop at xs)) has.there;
    }
