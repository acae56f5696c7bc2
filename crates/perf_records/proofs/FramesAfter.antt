-- The frames after the first n of a stream, the answers to them, and how the stream ends.
use Rattle.std.proofs.Common.{◌≡◌, ℕ, zero, suc, ◌+◌, ◌-◌, ◌<◌, ◌≤◌, Bool, true, false, List, ◌∷◌, length, take, drop, map, refl, sym, ap, ◌∙◌, arith, length-drop, zero-add, inl, inr}
use Rattle.std.specs.Prelude.{Result, nat_lt, ◌⊎◌}
use Rattle.std.proofs.lemmas.Bool.Decides.{nat_tests}
use Rattle.std.proofs.lemmas.List.{drop-map}
use Rattle.perf_base.specs.Order.{Order}
use Rattle.perf_base.specs.Header.{header_of}
use Rattle.perf_base.specs.Configuration.{Configuration}
use Rattle.perf_base.specs.declared.sys.perf_event_header.{perf_event_header}
use Rattle.perf_base.specs.declared.error.ErrorKind.{ErrorKind}
use Rattle.perf_records.specs.Records.{RecordValue}
use Rattle.perf_records.specs.Frames.{frame_length, frames, drop_frames, stream_end, end_with}
use Rattle.perf_records.specs.Answers.{answers, answer_of_frame}
use Rattle.perf_records.proofs.FrameList.{frames_short, frames_some}

-- ---- frames

below_or_not : (n m : ℕ) (b : Bool) → nat_lt n m ≡ b → (n < m) ⊎ (m ≤ n)
below_or_not n m true h = inl (grind (arith, nat_tests))
below_or_not n m false h = inr (grind (arith, nat_tests))

has_eight : (o : Order) (n : ℕ) (bytes : List ℕ) → suc n ≤ length (frames o bytes) → 8 ≤ length bytes
has_eight o n bytes h = elim (below_or_not (length bytes) 8 (nat_lt (length bytes) 8) refl) [
  | inl short ↦ let none : length (frames o bytes) ≡ 0 = ap length (frames_short o (length bytes) bytes short) in omega arith
  | inr long ↦ long
]

-- the frames after the first n
pub frames_after : (o : Order) (n : ℕ) (bytes : List ℕ) → n ≤ length (frames o bytes) → frames o (drop_frames o n bytes) ≡ drop n (frames o bytes)
frames_after o zero bytes h = refl
frames_after o (suc n) bytes h =
    let first : List ℕ = take (frame_length o bytes) bytes in
    let rest : List ℕ = drop (frame_length o bytes) bytes in
    let parts : frames o bytes ≡ first ∷ frames o rest = frames_some o bytes (has_eight o n bytes h) in
    let count : length (frames o bytes) ≡ suc (length (frames o rest)) = ap length parts in
    frames_after o n rest (omega arith) ∙ sym (ap (λ xs. drop (suc n) xs) parts)

-- the bytes after k more frames
pub after_more : (o : Order) (n k : ℕ) (bytes : List ℕ) → drop_frames o k (drop_frames o n bytes) ≡ drop_frames o (n + k) bytes
after_more o zero k bytes = ap (λ j. drop_frames o j bytes) (sym (zero-add k))
after_more o (suc n) k bytes =
    let next : suc (n + k) ≡ suc n + k = omega arith in
    after_more o n k (drop (frame_length o bytes) bytes) ∙ ap (λ j. drop_frames o j bytes) next

-- ---- answers

-- the answers after the first n frames
pub answers_after : (c : Configuration) (o : Order) (n : ℕ) (bytes : List ℕ) → n ≤ length (frames o bytes) → answers c o (drop_frames o n bytes) ≡ drop n (answers c o bytes)
answers_after c o n bytes h =
    let answered : List ℕ → perf_event_header × Result RecordValue ErrorKind = λ frame. (header_of o frame, answer_of_frame c o frame) in
    ap (λ xs. map answered xs) (frames_after o n bytes h) ∙ sym (drop-map answered n (frames o bytes))

-- a stream ends as the rest of it after some frames does
pub end_after : (o : Order) (n : ℕ) (bytes : List ℕ) → n ≤ length (frames o bytes) → stream_end o (drop_frames o n bytes) ≡ stream_end o bytes
end_after o n bytes h =
    let left : ℕ = length (frames o (drop_frames o n bytes)) in
    let count : left ≡ length (frames o bytes) - n = ap length (frames_after o n bytes h) ∙ length-drop n (frames o bytes) in
    let all : n + left ≡ length (frames o bytes) = omega arith in
    ap (λ rest. end_with (length rest)) (after_more o n left bytes ∙ ap (λ j. drop_frames o j bytes) all)
