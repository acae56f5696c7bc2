-- The notes of a pipe.
use Rattle.std.proofs.Common.{◌≡◌, ℕ, ◌+◌, ◌≤◌, ◌<◌, List, [], ◌∷◌, length, map, take, drop, Option, Some, None, true, false, nat_lt, inl, inr, refl, sym, ap, ◌∙◌, arith}
use Rattle.std.proofs.lemmas.Bool.{lt-ltb, le-ltb, cases_lt}
use Rattle.std.proofs.lemmas.List.{length-drop, length-take-le}
use Rattle.perf_base.specs.Dynamic.{order_of}
use Rattle.perf_base.specs.Header.{header_of}
use Rattle.perf_base.specs.Layout.{slice}
use Rattle.perf_base.specs.Order.{Order}
use Rattle.perf_base.specs.declared.sys.perf_event_header.{perf_event_header}
use Rattle.perf_records.specs.Answers.{length_after}
use Rattle.perf_records.specs.Sights.{Sight, sight_in, sight_after}
use Rattle.perf_sections.specs.Opened.{File}
use Rattle.perf_file.specs.Pieces.{Piece, pieces, piece_in, after_piece}
use Rattle.perf_file.specs.Pipes.{FrameNote, note_in, newer, body_seen}
use Rattle.perf_file.proofs.Laws.{some_piece, no_piece}

-- ---- the bytes after a header

-- those of a whole frame are there
body_after : (h : perf_event_header) (rest : List ℕ) (found : Sight) → found ≡ sight_after h rest true → (length (body_seen found) ≤ length rest) × (take (length (body_seen found)) rest ≡ body_seen found)
body_after h rest found is = elim (cases_lt h.size 8) [
  | inl lt ↦
      let a : nat_lt h.size 8 ≡ true = lt-ltb h.size 8 lt in
      let none : sight_after h rest true ≡ sight_after h rest true = refl in
      let b : body_seen found ≡ [] = ap body_seen is ∙ rw a refl in
      rw b (omega arith, refl)
  | inr le ↦
      let a : nat_lt h.size 8 ≡ false = le-ltb h.size 8 le in
      elim (cases_lt (length rest) (length_after h)) [
        | inl lt ↦
            let c : nat_lt (length rest) (length_after h) ≡ true = lt-ltb (length rest) (length_after h) lt in
            let b : body_seen found ≡ [] = ap body_seen is ∙ rw (a, c) refl in
            rw b (omega arith, refl)
        | inr fits ↦
            let c : nat_lt (length rest) (length_after h) ≡ false = le-ltb (length rest) (length_after h) fits in
            let b : body_seen found ≡ take (length_after h) rest = ap body_seen is ∙ rw (a, c) refl in
            let n : length (body_seen found) ≡ length_after h = ap (λ (xs : List ℕ). length xs) b ∙ length-take-le (length_after h) rest fits in
            (omega (arith, n, fits), ap (λ k. take k rest) n ∙ sym b)
      ]
]

pub body_there : (o : Order) (bytes : List ℕ) (found : Sight) → 8 ≤ length bytes → found ≡ sight_in o bytes true → (8 + length (body_seen found) ≤ length bytes) × (slice bytes 8 (length (body_seen found)) ≡ body_seen found)
body_there o bytes found long is =
    let here = body_after (header_of o bytes) (drop 8 bytes) found is in
    let n = length-drop 8 bytes in
    (omega (arith, here.0, n, long), here.1)

-- so are those bytes as the code has them
pub body_fits : (o : Order) (bytes body : List ℕ) (found : Sight) → 8 ≤ length bytes → found ≡ sight_in o bytes true → body ≡ body_seen found → 8 + length body ≤ length bytes
body_fits o bytes body found long is seen = rw seen ((body_there o bytes found long is).0)

pub body_is : (o : Order) (bytes body : List ℕ) (found : Sight) → 8 ≤ length bytes → found ≡ sight_in o bytes true → body ≡ body_seen found → slice bytes 8 (length body) ≡ body_seen found
body_is o bytes body found long is seen = rw seen ((body_there o bytes found long is).1)

-- ---- one after another

pub next_note : (order_frames : File) (bytes after : List ℕ) (x : FrameNote) → 8 ≤ length bytes → x ≡ note_in (piece_in order_frames bytes) → after ≡ after_piece (order_of order_frames.order) bytes
    → map note_in (pieces order_frames bytes) ≡ x ∷ map note_in (pieces order_frames after)
next_note f bytes after x fits is rest =
    ap (λ (ps : List Piece). map note_in ps) (some_piece f bytes fits)
    ∙ ap (λ (y : FrameNote). y ∷ map note_in (pieces f (after_piece (order_of f.order) bytes))) (sym is)
    ∙ ap (λ xs. x ∷ map note_in (pieces f xs)) (sym rest)

pub no_note : (f : File) (bytes : List ℕ) → length bytes < 8 → map note_in (pieces f bytes) ≡ []
no_note f bytes few = ap (λ (ps : List Piece). map note_in ps) (no_piece f bytes few)

-- ---- the newest

pub newer_older : {A : Type 0} (a b c : Option A) → newer (newer a b) c ≡ newer a (newer b c)
newer_older (Some x) b c = refl
newer_older None b c = refl

pub newer_none : {A : Type 0} (a : Option A) → newer a None ≡ a
newer_none (Some x) = refl
newer_none None = refl
