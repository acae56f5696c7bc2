-- A stream is its frames, one after another, and what is left after them.
use Rattle.std.proofs.Common.{◌≡◌, ℕ, zero, suc, List, [], ◌∷◌, ◌++◌, take, drop, refl, ◌∙◌, ap}
use Rattle.std.proofs.lemmas.List.{append_assoc, take-append-drop}
use Rattle.perf_base.specs.Order.{Order}
use Rattle.perf_records.specs.Frames.{frame_length, first_frames, drop_frames}
use Rattle.perf_records.proofs.FrameList.{frames_first}
use Rattle.perf_parser.proofs.Lists.{AreThere, there_fits, there_next}

abbrev in_a_row : List (List ℕ) → List ℕ
in_a_row [] = []
in_a_row (frame ∷ frames) = frame ++ in_a_row frames

frames_cover : (o : Order) (k : ℕ) (bytes : List ℕ) → AreThere o k bytes → in_a_row (first_frames o k bytes) ++ drop_frames o k bytes ≡ bytes
frames_cover o zero bytes h = refl
frames_cover o (suc k) bytes h =
    let n : ℕ = frame_length o bytes in
    ap (λ fs. in_a_row fs ++ drop_frames o (suc k) bytes) (frames_first o k bytes (there_fits o k bytes h))
    ∙ append_assoc (take n bytes) (in_a_row (first_frames o k (drop n bytes))) (drop_frames o k (drop n bytes))
    ∙ ap (λ xs. take n bytes ++ xs) (frames_cover o k (drop n bytes) (there_next o k bytes h))
    ∙ take-append-drop n bytes
