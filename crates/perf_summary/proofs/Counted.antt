-- The frames of a file, counted one after another.
use Rattle.std.proofs.Common.{◌≡◌, ◌<◌, ◌^◌, List, [], ◌∷◌, ◌++◌, length, map, sym, ap, ◌∙◌, append_assoc, append-nil, subst, arith}
use Rattle.std.proofs.lemmas.List.{map-append, length-map}
use Rattle.perf_sections.specs.Opened.{File}
use Rattle.perf_file.specs.Pieces.{Piece, pieces_of}
use Rattle.perf_summary.specs.Contents.{contents_of, all_contents}
use Rattle.perf_summary.specs.Counts.{AreCounts}
use Rattle.perf_summary.specs.CountSteps.{IsNew, AddsFrame}
use Rattle.perf_summary.specs.declared.contents.Contents.{Contents}
use Rattle.perf_summary.specs.declared.counts.Counts.{Counts}
use Rattle.perf_file.proofs.Few.{pieces_below}
use Rattle.perf_summary.proofs.Tallies.{IsTallied, tallied_none, tallied_more, tallied_all}

-- some frames are counted, and these are left of all
pub record IsUnderWay (f : File) (left : List Piece) (c : Counts) : Type 0 where
  pub done : List Piece
  pub all : done ++ left ≡ pieces_of f
  pub counted : IsTallied (length f.events) (map (contents_of f) done) c

pub way_start : (f : File) (left : List Piece) (c : Counts) → left ≡ pieces_of f → IsNew (length f.events) c → IsUnderWay f left c
way_start f left c is new = record { done = []; all = is; counted = tallied_none (length f.events) c new }

pub way_more : (f : File) (left after : List Piece) (p : Piece) (x : Contents) (c d : Counts) → IsUnderWay f left c → left ≡ p ∷ after → x ≡ contents_of f p → AddsFrame x c d → IsUnderWay f after d
way_more f left after p x c d way is here adds =
    let more : map (contents_of f) way.done ++ x ∷ [] ≡ map (contents_of f) (way.done ++ p ∷ []) =
    ap (λ y. map (contents_of f) way.done ++ y ∷ []) here ∙ sym (map-append (contents_of f) way.done (p ∷ [])) in
    record {
      done = way.done ++ p ∷ [];
      all = append_assoc way.done (p ∷ []) after ∙ ap (λ r. way.done ++ r) (sym is) ∙ way.all;
      counted = subst (λ xs. IsTallied (length f.events) xs d) more (tallied_more (length f.events) (map (contents_of f) way.done) x c d way.counted adds);
    }

pub way_end : (f : File) (left : List Piece) (c : Counts) → length f.frames < 2 ^ 64 → IsUnderWay f left c → left ≡ [] → AreCounts (length f.events) (all_contents f) c
way_end f left c small way none =
    let all : way.done ≡ pieces_of f = sym (append-nil way.done) ∙ ap (λ r. way.done ++ r) (sym none) ∙ way.all in
    let counted = subst (λ ps. IsTallied (length f.events) (map (contents_of f) ps) c) all way.counted in
    tallied_all (length f.events) (all_contents f) c (omega (arith, small, pieces_below f, length-map (pieces_of f) (contents_of f))) counted
