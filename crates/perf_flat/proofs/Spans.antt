-- Spans of a flat frame, and what is at them.
use Rattle.std.proofs.Common.{◌≡◌, ℕ, zero, suc, ◌+◌, ◌-◌, ◌^◌, ◌≤◌, ◌<◌, List, [], ◌∷◌, length, take, drop, get_or, refl, sym, ◌∙◌, ap, subst, arith}
use Rattle.std.specs.Prelude.{replicate, min, Option, Some, None}
use Rattle.std.proofs.lemmas.List.{length-drop, length-take, drop-drop, drop-replicate, get_or-append_right}
use Rattle.perf_reader.proofs.AtOnce.{in_front}
use Rattle.perf_flat.specs.Arrays.{span_of_bytes}
use Rattle.perf_flat.specs.Arrays.{low_u32, no_span, filled_spans}
use Rattle.perf_flat.specs.CursorReads.{IsBodyOf}
use Rattle.perf_flat.specs.Samples.{HasString}
use Rattle.perf_flat.specs.Strings.{span_at, if_there, HasBytes, NoSpansFrom, HasStrings}
use Rattle.perf_flat.specs.declared.frame.Span.{Span}
use Rattle.perf_flat.proofs.TrimmedBytes.{Stands}

-- ---- spans of no bytes

empty_at : (n i : ℕ) → get_or (replicate n no_span) i no_span ≡ no_span
empty_at zero i = refl
empty_at (suc n) zero = refl
empty_at (suc n) (suc i) = empty_at n i

pub none_after : (spans : List Span) (n : ℕ) → length spans ≡ n → NoSpansFrom (filled_spans spans) n
unfolding filled_spans
none_after spans n many = λ i from.
    let m : ℕ = 8 - length spans in
    let back : drop (length spans) (replicate 8 no_span) ≡ replicate m no_span = drop-replicate (length spans) 8 no_span in
    get_or-append_right spans (drop (length spans) (replicate 8 no_span)) n i no_span many from
    ∙ ap (λ xs. get_or xs (i - n) no_span) back ∙ empty_at m (i - n)

-- ---- strings of a frame, at the first spans

pub no_strings : (frame : List ℕ) → HasStrings frame (filled_spans []) 0 []
no_strings frame = none_after [] 0 refl

pub first_of_one : (s : Span) → span_at (filled_spans (s ∷ [])) 0 ≡ s
unfolding filled_spans
first_of_one s = refl

first_of_two : (s t : Span) → span_at (filled_spans (s ∷ t ∷ [])) 0 ≡ s
unfolding filled_spans
first_of_two s t = refl

second_of_two : (s t : Span) → span_at (filled_spans (s ∷ t ∷ [])) 1 ≡ t
unfolding filled_spans
second_of_two s t = refl

pub one_string : (frame : List ℕ) (s : Span) (bytes : List ℕ) → HasBytes frame s bytes → HasStrings frame (filled_spans (s ∷ [])) 0 (bytes ∷ [])
one_string frame s bytes has = (subst (λ x. HasBytes frame x bytes) (sym (first_of_one s)) has, none_after (s ∷ []) 1 refl)

pub two_strings : (frame : List ℕ) (s t : Span) (bytes more : List ℕ) → HasBytes frame s bytes → HasBytes frame t more →
    HasStrings frame (filled_spans (s ∷ t ∷ [])) 0 (bytes ∷ more ∷ [])
two_strings frame s t bytes more has also =
    (subst (λ x. HasBytes frame x bytes) (sym (first_of_two s t)) has, (subst (λ x. HasBytes frame x more) (sym (second_of_two s t)) also, none_after (s ∷ t ∷ []) 2 refl))

filled_out : (s : Span) → filled_spans (s ∷ []) ≡ filled_spans (s ∷ no_span ∷ [])
unfolding filled_spans
filled_out s = refl

-- a path, and a build id if that is present
pub path_and_id : (frame : List ℕ) (s t : Span) (path : List ℕ) (id : Option (List ℕ)) → HasBytes frame s path → HasString frame t id → HasStrings frame (filled_spans (s ∷ t ∷ [])) 0 (path ∷ if_there id)
path_and_id frame s t path (Some id) has also = two_strings frame s t path id has also
path_and_id frame s t path None has none =
    subst (λ x. HasStrings frame (filled_spans (s ∷ x ∷ [])) 0 (path ∷ [])) (sym none) (subst (λ xs. HasStrings frame xs 0 (path ∷ [])) (filled_out s) (one_string frame s path has))

-- ---- from a body to its frame

pub stands_there : (frame body : List ℕ) → IsBodyOf frame body → (s : ℕ) (bytes : List ℕ) → Stands body s bytes → HasBytes frame (span_of_bytes (8 + s) bytes) bytes
stands_there frame body is s bytes stands =
    let n : ℕ = length bytes in
    let k : ℕ = is.count in
    let headed : 8 ≤ length frame = is.headed in
    let short : length frame < 2 ^ 32 = is.short in
    let inside : s + n ≤ length body = stands.inside in
    let rest : length (drop 8 frame) ≡ length frame - 8 = length-drop 8 frame in
    let front : length body ≡ min k (length (drop 8 frame)) = ap length is.is ∙ length-take k (drop 8 frame) in
    let place : low_u32 (8 + s) ≡ 8 + s = omega arith in
    let long : low_u32 n ≡ n = omega arith in
    let same : take n (drop (8 + s) frame) ≡ bytes =
    sym (ap (take n) (drop-drop s 8 frame)) ∙ sym (in_front s n k (drop 8 frame) (omega arith)) ∙ sym (ap (λ b. take n (drop s b)) is.is) ∙ stands.there in
    record {
      inside = omega arith;
      there = ap (λ m. take m (drop (low_u32 (8 + s)) frame)) long ∙ ap (λ m. take n (drop m frame)) place ∙ same;
    }
