-- Frames that are read one after another.
use Rattle.std.specs.Prelude.{if◌then◌else◌, ◌==◌, sum_by, nat_lt}
use Rattle.std.proofs.Common.{◌≡◌, ℕ, zero, suc, ◌+◌, ◌-◌, ◌≤◌, ◌<◌, true, false, List, [], ◌∷◌, ◌++◌, length, take, drop, set, min, max, refl, sym, ◌∙◌, ap, subst, inl, inr, arith}
use Rattle.std.proofs.lemmas.Bool.{cases_lt, lt-ltb, le-ltb, ne_eqb}
use Rattle.std.proofs.lemmas.List.{length-drop, length-take, drop-drop, drop_min, drop-set-lt, take_more_set, take_rest, length-set, length_push}
use Rattle.std.proofs.lemmas.List.Sums.{sum_by_push}
use Rattle.perf_base.specs.Configuration.{Configuration}
use Rattle.perf_base.specs.Header.{header_of}
use Rattle.perf_base.specs.Order.{Order}
use Rattle.perf_base.specs.declared.sys.perf_event_header.{perf_event_header}
use Rattle.perf_records.specs.Frames.{frame_length, first_frames, frames, drop_frames, end_with, stream_end}
use Rattle.perf_records.proofs.Headers.{header_alone}
use Rattle.perf_flat.specs.Flat.{IsFlat, first_frame}
use Rattle.perf_flat.specs.Many.{AreFlat, first_bytes, end_code, many_end}
use Rattle.perf_flat.specs.declared.frame.FlatFrame.{FlatFrame}

-- ---- one more frame

-- fewer bytes than a header has are no frame
frames_short : (o : Order) (n : ℕ) (bytes : List ℕ) → length bytes < 8 → first_frames o n bytes ≡ []
frames_short o zero bytes short = refl
frames_short o (suc n) bytes short = let a : nat_lt (length bytes) 8 ≡ true = lt-ltb (length bytes) 8 short in rw a refl

frames_first : (o : Order) (n : ℕ) (bytes : List ℕ) → 8 ≤ length bytes → first_frames o (suc n) bytes ≡ first_frame o bytes ∷ first_frames o n (drop (frame_length o bytes) bytes)
frames_first o n bytes fits = let a : nat_lt (length bytes) 8 ≡ false = le-ltb (length bytes) 8 fits in rw a refl

-- what is left gets shorter
left_shorter : (o : Order) (n : ℕ) (bytes : List ℕ) → length (drop_frames o n bytes) ≤ length bytes
left_shorter o zero bytes = omega arith
left_shorter o (suc n) bytes =
    omega (arith, left_shorter o n (drop (frame_length o bytes) bytes), length-drop (frame_length o bytes) bytes)

frames_more : (o : Order) (n : ℕ) (bytes : List ℕ) → 8 ≤ length (drop_frames o n bytes) → first_frames o (suc n) bytes ≡ first_frames o n bytes ++ first_frame o (drop_frames o n bytes) ∷ []
frames_more o zero bytes fits = frames_first o 0 bytes fits
frames_more o (suc n) bytes fits =
    let rest : List ℕ = drop (frame_length o bytes) bytes in
    let long : 8 ≤ length bytes = omega (arith, left_shorter o (suc n) bytes, fits) in
    let more : first_frames o (suc n) rest ≡ first_frames o n rest ++ first_frame o (drop_frames o n rest) ∷ [] = frames_more o n rest fits in
    frames_first o (suc n) bytes long
    ∙ ap (λ xs. first_frame o bytes ∷ xs) more
    ∙ ap (λ xs. xs ++ first_frame o (drop_frames o n rest) ∷ []) (sym (frames_first o n bytes long))

left_more : (o : Order) (n : ℕ) (bytes : List ℕ) → drop_frames o (suc n) bytes ≡ drop (frame_length o (drop_frames o n bytes)) (drop_frames o n bytes)
left_more o zero bytes = refl
left_more o (suc n) bytes = left_more o n (drop (frame_length o bytes) bytes)

-- ---- all frames

after_shorter : (o : Order) (bytes : List ℕ) (n : ℕ) → length bytes ≤ suc n → length (drop (frame_length o bytes) bytes) ≤ n
after_shorter o bytes n fits = omega (arith, fits, length-drop (frame_length o bytes) bytes)

-- there are no more frames than these, if no header is left
all_first : (o : Order) (n m : ℕ) (bytes : List ℕ) → length (drop_frames o n bytes) < 8 → length bytes ≤ m → first_frames o m bytes ≡ first_frames o n bytes
all_first o zero m bytes short fits = frames_short o m bytes short
all_first o (suc n) zero bytes short fits = sym (frames_short o (suc n) bytes (omega arith))
all_first o (suc n) (suc m) bytes short fits =
    let rest : List ℕ = drop (frame_length o bytes) bytes in
    let same : first_frames o m rest ≡ first_frames o n rest = all_first o n m rest short (after_shorter o bytes m fits) in
    ap (λ xs. if nat_lt (length bytes) 8 then [] else first_frame o bytes ∷ xs) same

-- there are at least as many frames as the first ones
count_least : (o : Order) (n m : ℕ) (bytes : List ℕ) → length bytes ≤ m → length (first_frames o n bytes) ≤ length (first_frames o m bytes)
count_least o zero m bytes fits = omega arith
count_least o (suc n) zero bytes fits =
    let none : length (first_frames o (suc n) bytes) ≡ 0 = ap length (frames_short o (suc n) bytes (omega arith)) in omega arith
count_least o (suc n) (suc m) bytes fits = elim (cases_lt (length bytes) 8) [
  | inl short ↦
      let none : length (first_frames o (suc n) bytes) ≡ 0 = ap length (frames_short o (suc n) bytes short) in omega arith
  | inr long ↦
      let rest : List ℕ = drop (frame_length o bytes) bytes in
      let less : length (first_frames o n rest) ≤ length (first_frames o m rest) = count_least o n m rest (after_shorter o bytes m fits) in
      omega (arith, less, ap length (frames_first o n bytes long), ap length (frames_first o m bytes long))
]

-- ---- what was read so far

-- n frames were read, these bytes are left, and the room is now so
pub record ReadSoFar (c : Configuration) (o : Order) (bytes : List ℕ) (old : List FlatFrame) (n : ℕ) (left : List ℕ) (now : List FlatFrame) : Type 0 where
  pub rest : left ≡ drop_frames o n bytes
  pub count : length (first_frames o n bytes) ≡ n
  pub flat : AreFlat c o (first_frames o n bytes) (take n now)
  pub taken : first_bytes o n bytes + length left ≡ length bytes
  pub place : drop (first_bytes o n bytes) bytes ≡ left
  pub after : drop n now ≡ drop n old
  pub room : length now ≡ length old

pub none_read : (c : Configuration) (o : Order) (bytes : List ℕ) (old : List FlatFrame) → ReadSoFar c o bytes old 0 bytes old
none_read c o bytes old = record {
  rest = refl;
  count = refl;
  flat = tt;
  taken = omega arith;
  place = refl;
  after = refl;
  room = refl;
}

flat_push : (c : Configuration) (o : Order) (xs : List (List ℕ)) (fs : List FlatFrame) (x : List ℕ) (f : FlatFrame) → AreFlat c o xs fs → IsFlat c o x f → AreFlat c o (xs ++ x ∷ []) (fs ++ f ∷ [])
flat_push c o [] [] x f all is = (is, tt)
flat_push c o (y ∷ xs) (g ∷ fs) x f all is = (all.0, flat_push c o xs fs x f all.1 is)
flat_push c o [] (g ∷ fs) x f all is = absurd all
flat_push c o (y ∷ xs) [] x f all is = absurd all

pub one_more : (c : Configuration) (o : Order) (bytes : List ℕ) (old : List FlatFrame) (n : ℕ) (left : List ℕ) (now : List FlatFrame) (f : FlatFrame) (after : List ℕ) →
    ReadSoFar c o bytes old n left now → n < length now → 8 ≤ length left → IsFlat c o (first_frame o left) f → after ≡ drop (frame_length o left) left →
    ReadSoFar c o bytes old (n + 1) after (set now n f)
one_more c o bytes old n left now f after so_far room fits is rest =
    let k : ℕ = first_bytes o n bytes in
    let x : List ℕ = first_frame o left in
    let same : left ≡ drop_frames o n bytes = so_far.rest in
    let step : n + 1 ≡ suc n = omega arith in
    let more : first_frames o (n + 1) bytes ≡ first_frames o n bytes ++ x ∷ [] =
    ap (λ m. first_frames o m bytes) step
    ∙ frames_more o n bytes (subst (λ (xs : List ℕ). 8 ≤ length xs) same fits)
    ∙ ap (λ xs. first_frames o n bytes ++ first_frame o xs ∷ []) (sym same) in
    let sum : first_bytes o (n + 1) bytes ≡ k + length x = ap (λ xs. sum_by length xs) more ∙ sum_by_push length (first_frames o n bytes) x in
    let long : length x ≡ min (frame_length o left) (length left) = length-take (frame_length o left) left in
    let shorter : length after ≡ length left - frame_length o left = ap length rest ∙ length-drop (frame_length o left) left in
    let back : drop (length x) left ≡ drop (frame_length o left) left = ap (λ m. drop m left) long ∙ drop_min (frame_length o left) left in
    record {
      rest = rest ∙ ap (λ (xs : List ℕ). drop (frame_length o xs) xs) same ∙ sym (left_more o n bytes) ∙ ap (λ m. drop_frames o m bytes) (sym step);
      count = ap length more ∙ length_push (first_frames o n bytes) x ∙ ap (λ m. m + 1) so_far.count;
      flat = subst (λ (fs : List FlatFrame). AreFlat c o (first_frames o (n + 1) bytes) fs) (sym (take_more_set now n f room))
          (subst (λ (xs : List (List ℕ)). AreFlat c o xs (take n now ++ f ∷ [])) (sym more) (flat_push c o (first_frames o n bytes) (take n now) x f so_far.flat is));
      taken = omega (arith, sum, long, shorter, so_far.taken);
      place = ap (λ m. drop m bytes) sum ∙ sym (drop-drop (length x) k bytes) ∙ ap (drop (length x)) so_far.place ∙ back ∙ sym rest;
      after = drop-set-lt (n + 1) now n f (omega arith) ∙ sym (drop-drop 1 n now) ∙ ap (drop 1) so_far.after ∙ drop-drop 1 n old;
      room = length-set now n f ∙ so_far.room;
    }

-- the bytes after the frame at the front, by the size in the flat frame of that
pub rest_is : (c : Configuration) (o : Order) (bytes : List ℕ) (f : FlatFrame) (len : ℕ) → IsFlat c o (first_frame o bytes) f → len ≡ min (max 8 f.size) (length bytes) →
    take (length bytes - len) (drop len bytes) ≡ drop (frame_length o bytes) bytes
rest_is c o bytes f len flat is =
    let size : f.size ≡ (header_of o bytes).size = flat.header.size ∙ ap (λ (h : perf_event_header). h.size) (header_alone o bytes) in
    take_rest bytes len
    ∙ ap (λ m. drop m bytes) (is ∙ ap (λ n. min (max 8 n) (length bytes)) size)
    ∙ drop_min (frame_length o bytes) bytes

-- ---- how it ends

-- all of the room is used
pub record IsFull (o : Order) (bytes : List ℕ) (room : ℕ) : Type 0 where
  pub count : room ≡ min room (length (frames o bytes))
  pub how : 0 ≡ many_end o room bytes

pub full : (c : Configuration) (o : Order) (bytes : List ℕ) (old : List FlatFrame) (n : ℕ) (left : List ℕ) (now : List FlatFrame) → ReadSoFar c o bytes old n left now → length old ≤ n → n ≤ length old → IsFull o bytes (length old)
full c o bytes old n left now so_far all most =
    let least : length old ≤ length (frames o bytes) = omega (arith, so_far.count, count_least o n (length bytes) bytes (omega arith), all) in
    let a : nat_lt (length (frames o bytes)) (length old) ≡ false = le-ltb (length (frames o bytes)) (length old) least in
    record {
      count = omega arith;
      how = sym (ap (λ b. if b then end_code (stream_end o bytes) else 0) a);
    }

-- no header is left, and there is room
pub record IsAll (o : Order) (bytes : List ℕ) (room n : ℕ) (left : List ℕ) : Type 0 where
  pub count : n ≡ min room (length (frames o bytes))
  pub how : (if length left == 0 then 1 else 2) ≡ many_end o room bytes

end_is : (k : ℕ) → (if k == 0 then 1 else 2) ≡ end_code (end_with k)
end_is zero = refl
end_is (suc k) = let a : (suc k == 0) ≡ false = ne_eqb (suc k) 0 (omega arith) in ap (λ b. if b then 1 else 2) a

pub all_read : (c : Configuration) (o : Order) (bytes : List ℕ) (old : List FlatFrame) (n : ℕ) (left : List ℕ) (now : List FlatFrame) → ReadSoFar c o bytes old n left now → n < length old → length left < 8 → IsAll o bytes (length old) n left
all_read c o bytes old n left now so_far room short =
    let all : frames o bytes ≡ first_frames o n bytes = all_first o n (length bytes) bytes (subst (λ xs. length xs < 8) so_far.rest short) (omega arith) in
    let many : length (frames o bytes) ≡ n = ap length all ∙ so_far.count in
    let a : nat_lt (length (frames o bytes)) (length old) ≡ true = lt-ltb (length (frames o bytes)) (length old) (omega arith) in
    let ends : end_code (stream_end o bytes) ≡ end_code (end_with (length left)) =
    ap (λ m. end_code (end_with (length (drop_frames o m bytes)))) many ∙ ap (λ xs. end_code (end_with (length xs))) (sym so_far.rest) in
    record {
      count = omega arith;
      how = end_is (length left) ∙ sym ends ∙ sym (ap (λ b. if b then end_code (stream_end o bytes) else 0) a);
    }
