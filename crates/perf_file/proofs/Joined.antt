-- The frames of a file, joined, are its data.
use Rattle.std.specs.Prelude.{flat_map}
use Rattle.std.proofs.Common.{◌≡◌, ℕ, zero, suc, ◌+◌, ◌-◌, ◌≤◌, ◌<◌, List, [], ◌++◌, length, drop, refl, sym, ◌∙◌, ap, true, false, nat_lt, inl, inr, append_assoc, arith}
use Rattle.std.proofs.Math.Seq.{drop-append_seam}
use Rattle.std.proofs.lemmas.Bool.{lt-ltb, le-ltb, cases_lt}
use Rattle.std.proofs.lemmas.List.{append-nil, take-append-drop, length-append}
use Rattle.perf_base.specs.Dynamic.{order_of}
use Rattle.perf_base.specs.Order.{Order}
use Rattle.perf_reader.specs.Headers.{frame_length}
use Rattle.perf_records.specs.Sights.{Sight, sight_in}
use Rattle.perf_sections.specs.Opened.{File}
use Rattle.perf_file.specs.Pieces.{Piece, AreTheData, piece_in, piece_bytes, pieces_of, after_piece, after_frame, first_pieces, drop_most, take_most, size_of, header_seen, payload_length}
use Rattle.perf_file.proofs.Laws.{short, first, after_shorter, size_seen}

most_of : (n : ℕ) (bytes : List ℕ) → take_most n bytes ++ drop_most n bytes ≡ bytes
most_of n bytes = elim (cases_lt n (length bytes)) [
  | inl lt ↦ let a : nat_lt n (length bytes) ≡ true = lt-ltb n (length bytes) lt in rw a (take-append-drop n bytes)
  | inr le ↦ let a : nat_lt n (length bytes) ≡ false = le-ltb n (length bytes) le in rw a (append-nil bytes)
]

-- a piece has the bytes at its offset
own_bytes : (f : File) (front bytes : List ℕ) → front ++ bytes ≡ f.frames → piece_bytes f (piece_in f bytes) ≡ take_most (frame_length (order_of f.order) bytes) bytes ++ (piece_in f bytes).payload
own_bytes f front bytes all =
    let o : Order = order_of f.order in
    let found : Sight = sight_in o bytes true in
    let payload : List ℕ = (piece_in f bytes).payload in
    let sum : length f.frames ≡ length front + length bytes = sym (ap (λ (xs : List ℕ). length xs) all) ∙ length-append front bytes in
    let place : f.start + (length f.frames - length bytes) - f.start ≡ length front = omega (arith, sum) in
    let here : drop (f.start + (length f.frames - length bytes) - f.start) f.frames ≡ bytes = ap (λ n. drop n f.frames) place ∙ ap (λ xs. drop (length front) xs) (sym all) ∙ drop-append_seam front bytes in
    ap (λ xs. take_most (size_of (header_seen found)) xs ++ payload) here ∙ ap (λ n. take_most n bytes ++ payload) (size_seen o bytes found refl)

joined_from : (f : File) (n : ℕ) (front bytes : List ℕ) → front ++ bytes ≡ f.frames → length bytes ≤ n → (rest : List ℕ) × (length rest < 8) × (flat_map (piece_bytes f) (first_pieces f n bytes) ++ rest ≡ bytes)
joined_from f zero front bytes all few = (bytes, omega (arith, few), refl)
joined_from f (suc n) front bytes all few = elim (cases_lt (length bytes) 8) [
  | inl lt ↦ (bytes, lt, ap (λ (ps : List Piece). flat_map (piece_bytes f) ps ++ bytes) (short f (suc n) bytes lt))
  | inr fits ↦
      let o : Order = order_of f.order in
      let frame : List ℕ = take_most (frame_length o bytes) bytes in
      let payload : List ℕ = (piece_in f bytes).payload in
      let left : List ℕ = after_piece o bytes in
      let paid : payload ++ left ≡ after_frame o bytes = most_of (payload_length o (sight_in o bytes true)) (after_frame o bytes) in
      let whole : (frame ++ payload) ++ left ≡ bytes = append_assoc frame payload left ∙ ap (λ xs. frame ++ xs) paid ∙ most_of (frame_length o bytes) bytes in
      let after : (front ++ (frame ++ payload)) ++ left ≡ f.frames = append_assoc front (frame ++ payload) left ∙ ap (λ xs. front ++ xs) whole ∙ all in
      let others = joined_from f n (front ++ (frame ++ payload)) left after (omega (arith, few, after_shorter o bytes fits)) in
      let later : List ℕ = flat_map (piece_bytes f) (first_pieces f n left) in
      let one : flat_map (piece_bytes f) (first_pieces f (suc n) bytes) ≡ (frame ++ payload) ++ later = ap (λ (ps : List Piece). flat_map (piece_bytes f) ps) (first f n bytes fits) ∙ ap (λ xs. xs ++ later) (own_bytes f front bytes all) in
      (others.0, others.1, ap (λ xs. xs ++ others.0) one ∙ append_assoc (frame ++ payload) later others.0 ∙ ap (λ xs. (frame ++ payload) ++ xs) others.2 ∙ whole)
]

pub are_the_data : (f : File) → AreTheData f (pieces_of f)
are_the_data f = joined_from f (length f.frames) [] f.frames refl (omega arith)
