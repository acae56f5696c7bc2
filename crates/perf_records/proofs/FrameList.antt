-- The frames of bytes that are all in memory.
use Rattle.std.specs.Prelude.{if◌then◌else◌}
use Rattle.std.proofs.Common.{◌≡◌, ◌≢◌, ℕ, zero, suc, ◌≤◌, ◌<◌, List, [], ◌∷◌, length, take, drop, map, refl, sym, ◌∙◌, ap, true, false, nat_lt, arith}
use Rattle.std.proofs.lemmas.Bool.{lt-ltb, le-ltb}
use Rattle.std.proofs.lemmas.List.{length-drop}
use Rattle.perf_base.specs.Order.{Order}
use Rattle.perf_records.specs.FrameList.{sights}
use Rattle.perf_records.specs.Frames.{frame_length, first_frames, frames}
use Rattle.perf_records.specs.Sights.{Sight, sight_in}
use Rattle.perf_records.proofs.Handovers.{sight_alone}

-- fewer bytes than a header has are no frame
pub frames_short : (o : Order) (n : ℕ) (bytes : List ℕ) → length bytes < 8 → first_frames o n bytes ≡ []
frames_short o zero bytes short = refl
frames_short o (suc n) bytes short = let a : nat_lt (length bytes) 8 ≡ true = lt-ltb (length bytes) 8 short in rw a refl

-- a frame begins where a header is
pub frames_first : (o : Order) (n : ℕ) (bytes : List ℕ) → 8 ≤ length bytes → first_frames o (suc n) bytes ≡ take (frame_length o bytes) bytes ∷ first_frames o n (drop (frame_length o bytes) bytes)
frames_first o n bytes fits = let a : nat_lt (length bytes) 8 ≡ false = le-ltb (length bytes) 8 fits in rw a refl

after_shorter : (o : Order) (bytes : List ℕ) (n : ℕ) → length bytes ≤ suc n → length (drop (frame_length o bytes) bytes) ≤ n
after_shorter o bytes n fits = omega (arith, fits, length-drop (frame_length o bytes) bytes)

-- there are no more frames than bytes
frames_enough : (o : Order) (n m : ℕ) (bytes : List ℕ) → length bytes ≤ n → length bytes ≤ m → first_frames o n bytes ≡ first_frames o m bytes
frames_enough o zero m bytes a b = sym (frames_short o m bytes (omega arith))
frames_enough o (suc n) zero bytes a b = frames_short o (suc n) bytes (omega arith)
frames_enough o (suc n) (suc m) bytes a b =
    let rest : List ℕ = drop (frame_length o bytes) bytes in
    let same : first_frames o n rest ≡ first_frames o m rest = frames_enough o n m rest (after_shorter o bytes n a) (after_shorter o bytes m b) in
    ap (λ xs. if nat_lt (length bytes) 8 then [] else take (frame_length o bytes) bytes ∷ xs) same

-- the first frame, and those after it
pub frames_some : (o : Order) (bytes : List ℕ) → 8 ≤ length bytes → frames o bytes ≡ take (frame_length o bytes) bytes ∷ frames o (drop (frame_length o bytes) bytes)
frames_some o bytes fits =
    let tail : List ℕ = drop (frame_length o bytes) bytes in
    let less : length tail ≤ length bytes = omega (arith, length-drop (frame_length o bytes) bytes) in
    frames_enough o (length bytes) (suc (length bytes)) bytes (omega arith) (omega arith) ∙ frames_first o (length bytes) bytes fits
    ∙ ap (λ xs. take (frame_length o bytes) bytes ∷ xs) (frames_enough o (length bytes) (length tail) tail less (omega arith))

-- the first of what is found, and the others
pub next_sight : (o : Order) (bytes after : List ℕ) (x : Sight) → 8 ≤ length bytes → x ≡ sight_in o bytes true → after ≡ drop (frame_length o bytes) bytes → sights o bytes ≡ x ∷ sights o after
next_sight o bytes after x fits is rest =
    let f : List ℕ → Sight = λ frame. sight_in o frame true in
    let tail : List ℕ = drop (frame_length o bytes) bytes in
    ap (map f) (frames_some o bytes fits)
    ∙ ap (λ y. y ∷ sights o tail) (sight_alone o bytes true ∙ sym is)
    ∙ ap (λ xs. x ∷ sights o xs) (sym rest)

pub no_sight : (o : Order) (bytes : List ℕ) → length bytes < 8 → sights o bytes ≡ []
no_sight o bytes short = ap (map (λ frame. sight_in o frame true)) (frames_short o (length bytes) bytes short)

-- there is a first one if a header is present
pub some_sight : (o : Order) (bytes : List ℕ) → 8 ≤ length bytes → sights o bytes ≢ []
some_sight o bytes fits none =
    let tail : List ℕ = drop (frame_length o bytes) bytes in
    let first : sights o bytes ≡ sight_in o bytes true ∷ sights o tail = next_sight o bytes tail (sight_in o bytes true) fits refl refl in
    absurd (cc)
