-- Lines of frames one after another.
use Rattle.std.proofs.Common.{◌≡◌, ℕ, zero, ◌+◌, ◌≤◌, ◌<◌, Bool, List, [], ◌∷◌, ◌++◌, ◌||◌, true, false, Option, Some, None, take, get_or, length, ◌^◌, refl, sym, ap, ◌∙◌, add-zero, zero-add, append-nil, append_assoc, length-append, arith}
use Rattle.std.specs.Prelude.{is_err}
use Rattle.std.specs.List.{cons_option}
use Rattle.std.proofs.lemmas.List.{take_more}
use Rattle.std.proofs.lemmas.List.Elements.{filter_map-append}
use Rattle.std.proofs.lemmas.List.Folds.{list_any-append}
use Rattle.perf_sections.specs.Opened.{File}
use Rattle.perf_file.specs.Pieces.{Piece, pieces_of, piece_at}
use Rattle.perf_file.specs.declared.entries.Entry.{Entry}
use Rattle.perf_file.proofs.Few.{pieces_below}
use Rattle.perf_data_text.specs.DumpText.{piece_line, piece_lines, pieces_at, any_refused, words_of_piece, IsTextOfPieces}

pub lines_append : (f : File) (first : ℕ) (xs ys : List Piece) → piece_lines f first (xs ++ ys) ≡ piece_lines f first xs ++ piece_lines f (first + length xs) ys
lines_append f first [] ys = ap (λ n. piece_lines f n ys) (sym (add-zero first))
lines_append f first (x ∷ xs) ys =
    let here : List ℕ = piece_line f first x in
    let n : first + 1 + length xs ≡ first + length (x ∷ xs) = omega arith in
    ap (λ rest. here ++ rest) (lines_append f (first + 1) xs ys ∙ ap (λ n. piece_lines f (first + 1) xs ++ piece_lines f n ys) n)
    ∙ sym (append_assoc here (piece_lines f (first + 1) xs) (piece_lines f (first + length (x ∷ xs)) ys))

or_false : (b : Bool) → (b || false) ≡ b
or_false true = refl
or_false false = refl

-- the text of the frames that were printed so far, whose count is the next number
pub record IsMade (f : File) (done : List Piece) (count : ℕ) (refused : Bool) (text : List ℕ) : Type 0 where
  pub counted : count ≡ length done
  pub refusals : refused ≡ any_refused f done
  pub lines : text ≡ piece_lines f 0 done

pub made_none : (f : File) (count : ℕ) (refused : Bool) (text : List ℕ) → count ≡ 0 → refused ≡ false → text ≡ [] → IsMade f [] count refused text
made_none f count refused text start none empty = record { counted = start; refusals = none; lines = empty }

-- and then one more frame
pub made_more : (f : File) (done : List Piece) (p : Piece) (count next : ℕ) (refused after : Bool) (text grown : List ℕ) → IsMade f done count refused text
    → next ≡ count + 1 → after ≡ (refused || is_err (words_of_piece f p)) → grown ≡ text ++ piece_line f count p
    → IsMade f (done ++ p ∷ []) next after grown
made_more f done p count next refused after text grown made counted so more = record {
  counted = omega (arith, made.counted, counted, length-append done (p ∷ []));
  refusals =
      so ∙ ap (λ b. b || is_err (words_of_piece f p)) made.refusals
      ∙ ap (λ b. any_refused f done || b) (sym (or_false (is_err (words_of_piece f p))))
      ∙ sym (list_any-append (λ (q : Piece). is_err (words_of_piece f q)) done (p ∷ []));
  lines =
      more ∙ ap (λ t. t ++ piece_line f count p) made.lines
      ∙ ap (λ t. piece_lines f 0 done ++ t) (ap (λ n. piece_line f n p) made.counted ∙ sym (append-nil (piece_line f (length done) p))
      ∙ ap (λ n. piece_lines f n (p ∷ [])) (sym (zero-add (length done))))
      ∙ sym (lines_append f 0 done (p ∷ []));
}

-- ---- the loops

-- some frames are done, and these are left of all
pub record IsUnderWay (f : File) (left : List Piece) (count : ℕ) (refused : Bool) (text : List ℕ) : Type 0 where
  pub done : List Piece
  pub all : done ++ left ≡ pieces_of f
  pub made : IsMade f done count refused text

pub way_start : (f : File) (left : List Piece) (count : ℕ) (refused : Bool) (text : List ℕ) → left ≡ pieces_of f → count ≡ 0 → refused ≡ false → text ≡ [] → IsUnderWay f left count refused text
way_start f left count refused text is start none empty = record { done = []; all = is; made = made_none f count refused text start none empty }

pub way_more : (f : File) (left after : List Piece) (p : Piece) (count next : ℕ) (refused now : Bool) (text grown : List ℕ) → length f.frames < 2 ^ 64 → IsUnderWay f left count refused text
    → left ≡ p ∷ after → (count + 1 < 2 ^ 64 → next ≡ count + 1) → now ≡ (refused || is_err (words_of_piece f p)) → grown ≡ text ++ piece_line f count p
    → IsUnderWay f after next now grown
way_more f left after p count next refused now text grown small way is counted so more =
    let all : way.done ++ (p ∷ after) ≡ pieces_of f = ap (λ r. way.done ++ r) (sym is) ∙ way.all in
    let long : length (way.done ++ (p ∷ after)) ≡ length (pieces_of f) = ap length all in
    let below : count + 1 < 2 ^ 64 = omega (arith, small, long, length-append way.done (p ∷ after), way.made.counted, pieces_below f) in
    record {
      done = way.done ++ p ∷ [];
      all = append_assoc way.done (p ∷ []) after ∙ all;
      made = made_more f way.done p count next refused now text grown way.made (counted below) so more;
    }

pub way_end : (f : File) (left : List Piece) (count : ℕ) (refused : Bool) (text : List ℕ) → IsUnderWay f left count refused text → left ≡ [] → IsTextOfPieces f (pieces_of f) refused text
way_end f left count refused text way none =
    let all : way.done ≡ pieces_of f = sym (append-nil way.done) ∙ ap (λ r. way.done ++ r) (sym none) ∙ way.all in
    (way.made.refusals ∙ ap (any_refused f) all, way.made.lines ∙ ap (piece_lines f 0) all)

-- ---- the frames of entries

pub entry_some : (f : File) (entries : List Entry) (i : ℕ) (e : Entry) (p : Piece) → i < length entries → piece_at f (get_or entries i e).at ≡ Some p → pieces_at f (take (i + 1) entries) ≡ pieces_at f (take i entries) ++ p ∷ []
entry_some f entries i e p below found =
    ap (pieces_at f) (take_more entries i e below)
    ∙ filter_map-append (λ (e : Entry). piece_at f e.at) (take i entries) (get_or entries i e ∷ [])
    ∙ ap (λ (o : Option Piece). pieces_at f (take i entries) ++ cons_option o []) found

pub entry_none : (f : File) (entries : List Entry) (i : ℕ) (e : Entry) → i < length entries → piece_at f (get_or entries i e).at ≡ None → pieces_at f (take (i + 1) entries) ≡ pieces_at f (take i entries)
entry_none f entries i e below found =
    ap (pieces_at f) (take_more entries i e below)
    ∙ filter_map-append (λ (e : Entry). piece_at f e.at) (take i entries) (get_or entries i e ∷ [])
    ∙ ap (λ (o : Option Piece). pieces_at f (take i entries) ++ cons_option o []) found
    ∙ append-nil (pieces_at f (take i entries))

few_options : (o : Option Piece) (ps : List Piece) → length (cons_option o ps) ≤ length ps + 1
few_options None ps = omega arith
few_options (Some p) ps = omega arith

pub few_at : (f : File) (entries : List Entry) → length (pieces_at f entries) ≤ length entries
few_at f [] = omega arith
few_at f (e ∷ es) = omega (arith, few_at f es, few_options (piece_at f e.at) (pieces_at f es))
