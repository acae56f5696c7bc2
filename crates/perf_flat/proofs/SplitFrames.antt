-- The frame at the front of two pieces, by the piece that has it.
use Rattle.std.specs.Prelude.{◌==◌, if◌then◌else◌}
use Rattle.std.proofs.Common.{◌≡◌, false, ℕ, ◌+◌, ◌≤◌, List, ◌++◌, length, take, drop, min, max, refl, sym, ◌∙◌, ap, subst, arith}
use Rattle.std.proofs.lemmas.Bool.{ne_eqb}
use Rattle.std.proofs.lemmas.List.{length-take, length-take-le, length-append, take-take, take_min, take-append-le, take_at, nil_from_length}
use Rattle.perf_base.specs.Configuration.{Configuration}
use Rattle.perf_base.specs.Header.{header_of}
use Rattle.perf_base.specs.Order.{Order}
use Rattle.perf_base.specs.declared.sys.perf_event_header.{perf_event_header}
use Rattle.perf_records.specs.Frames.{frame_length}
use Rattle.perf_records.proofs.Headers.{header_alone, header_take}
use Rattle.perf_flat.specs.Flat.{IsFlat, first_frame}
use Rattle.perf_flat.specs.Split.{split_frame}
use Rattle.perf_flat.specs.declared.frame.FlatFrame.{FlatFrame}

-- the header of two pieces is that of the first, if it is there
header_first : (o : Order) (first second : List ℕ) → 8 ≤ length first → header_of o (first ++ second) ≡ header_of o first
header_first o first second fits =
    sym (header_take o 0 (first ++ second)) ∙ ap (header_of o) (take-append-le 8 first second fits) ∙ header_take o 0 first

-- the frame is a front of its bytes
pub front_is : (o : Order) (bytes : List ℕ) → take (length (first_frame o bytes)) bytes ≡ first_frame o bytes
front_is o bytes =
    ap (λ n. take n bytes) (length-take (frame_length o bytes) bytes) ∙ take_min (frame_length o bytes) bytes

-- its own first frame is itself
pub first_again : (o : Order) (bytes : List ℕ) → first_frame o (first_frame o bytes) ≡ first_frame o bytes
first_again o bytes =
    let n : ℕ = frame_length o bytes in
    ap (λ (h : perf_event_header). take (max 8 h.size) (take n bytes)) (header_alone o bytes)
    ∙ take-take n n bytes (omega arith)

-- it is in the first piece
pub in_first : (o : Order) (first second : List ℕ) → 8 ≤ length (first ++ second) → length (split_frame o first second) ≤ length first → first_frame o first ≡ split_frame o first second
in_first o first second fits inside =
    let all : List ℕ = first ++ second in
    let n : ℕ = frame_length o all in
    let both : length all ≡ length first + length second = length-append first second in
    let len : length (take n all) ≡ min n (length all) = length-take n all in
    let long : 8 ≤ length first = omega (arith, fits, inside, len) in
    let size : frame_length o first ≡ n = ap (λ (h : perf_event_header). max 8 h.size) (sym (header_first o first second long)) in
    let short : min n (length all) ≤ length first = omega (arith, inside, len) in
    let same : min n (length first) ≡ min n (length all) = omega (arith, short, both) in
    ap (λ m. take m first) size
    ∙ sym (take_min n first)
    ∙ ap (λ m. take m first) same
    ∙ sym (take-append-le (min n (length all)) first second short)
    ∙ take_min n all

-- the first piece has all of it
pub record InFirst (o : Order) (first second : List ℕ) : Type 0 where
  pub is : first_frame o first ≡ split_frame o first second
  pub place : take (length (split_frame o first second)) (if length first == 0 then second else first) ≡ split_frame o first second

pub first_has : (o p : Order) (first second : List ℕ) (len : ℕ) → p ≡ o → (8 ≤ length (first ++ second)) × (len ≡ length (split_frame p first second)) → len ≤ length first → InFirst o first second
first_has o p first second len same found inside =
    let frame : List ℕ = split_frame o first second in
    let n : ℕ = frame_length o (first ++ second) in
    let is_len : len ≡ length frame = found.1 ∙ ap (λ q. length (split_frame q first second)) same in
    let within : length frame ≤ length first = omega (arith, is_len, inside) in
    let long : length frame ≡ min n (length (first ++ second)) = length-take n (first ++ second) in
    let some : (length first == 0) ≡ false = ne_eqb (length first) 0 (λ none. absurd (omega (arith, none, long, within, found.0))) in
    let is : first_frame o first ≡ frame = in_first o first second found.0 within in
    record {
      is = is;
      place = ap (λ b. take (length frame) (if b then second else first)) some
          ∙ ap (λ (xs : List ℕ). take (length xs) first) (sym is) ∙ front_is o first ∙ is;
    }

-- it is in the second piece, if the first is empty
pub in_second : (o : Order) (first second : List ℕ) → length first ≡ 0 → first_frame o second ≡ split_frame o first second
in_second o first second none = ap (λ xs. first_frame o (xs ++ second)) (sym (nil_from_length first none))

-- what is stated of a frame's bytes is stated of the frame
pub flat_of : (c : Configuration) (o : Order) (f : FlatFrame) (bytes frame : List ℕ) → first_frame o bytes ≡ frame → IsFlat c o (first_frame o bytes) f → IsFlat c o frame f
flat_of c o f bytes frame same flat = subst (λ xs. IsFlat c o xs f) same flat

pub copied_front : (frame rest : List ℕ) → take (length frame) (frame ++ rest) ≡ frame
copied_front frame rest = take_at frame rest (length frame) refl

-- the copy has it
pub record IsCopied (o : Order) (first second : List ℕ) (len : ℕ) (to scratch : List ℕ) : Type 0 where
  pub is : first_frame o (take len (to ++ drop len scratch)) ≡ split_frame o first second
  pub place : take (length (split_frame o first second)) (to ++ drop len scratch) ≡ split_frame o first second
  pub all : to ++ drop len scratch ≡ split_frame o first second ++ drop (length (split_frame o first second)) scratch

pub copy_has : (o p : Order) (first second : List ℕ) (len : ℕ) (to scratch : List ℕ) → p ≡ o → (8 ≤ length (first ++ second)) × (len ≡ length (split_frame p first second)) → len ≤ length scratch →
    to ≡ take (length (take len scratch)) (first ++ second) → IsCopied o first second len to scratch
copy_has o p first second len to scratch same found room copied =
    let frame : List ℕ = split_frame o first second in
    let is_len : len ≡ length frame = found.1 ∙ ap (λ q. length (split_frame q first second)) same in
    let to_is : to ≡ frame = copied ∙ ap (λ n. take n (first ++ second)) (length-take-le len scratch room ∙ is_len) ∙ front_is o (first ++ second) in
    let to_len : length to ≡ len = ap length to_is ∙ sym is_len in
    let all : to ++ drop len scratch ≡ frame ++ drop (length frame) scratch =
    ap (λ xs. xs ++ drop len scratch) to_is ∙ ap (λ n. frame ++ drop n scratch) is_len in
    record {
      is = ap (first_frame o) (take_at to (drop len scratch) len to_len ∙ to_is) ∙ first_again o (first ++ second);
      place = ap (take (length frame)) all ∙ copied_front frame (drop (length frame) scratch);
      all = all;
    }
