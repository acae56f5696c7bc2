-- A text whose first lines were added.
use Rattle.std.proofs.Common.{◌≡◌, ℕ, ◌+◌, List, [], ◌∷◌, ◌++◌, length, take, Option, Some, None, refl, sym, ap, ◌∙◌, add-zero, append_assoc, length-append, arith}
use Rattle.std.specs.Option.{option_map_or}
use Rattle.std.proofs.lemmas.List.{take_at}
use Rattle.perf_flame.specs.Lines.{Line, add_count}
use Rattle.perf_flame.specs.Reading.{line_in, reading, text_lines}

abbrev Outcome : Type 0
Outcome = List Line × Option ℕ

abbrev added : List Line → Line → List Line
added sums l = add_count sums l.stack l.count

-- what is read after lines that were added
append_step : (o : Option Line) (sums t : List Line) (number : ℕ) (xs ys : List (List ℕ))
    → ((l : Line) → reading (added sums l) (number + 1) xs ≡ (t, None) → reading (added sums l) (number + 1) (xs ++ ys) ≡ reading t (number + 1 + length xs) ys)
    → option_map_or (λ (l : Line). reading (added sums l) (number + 1) xs) o (sums, Some number) ≡ (t, None)
    → option_map_or (λ (l : Line). reading (added sums l) (number + 1) (xs ++ ys)) o (sums, Some number) ≡ reading t (number + 1 + length xs) ys
append_step None sums t number xs ys rest read = let no : Some number ≡ None = ap (λ (r : Outcome). r.1) read in cc
append_step (Some l) sums t number xs ys rest read = rest l read

reading_append : (xs ys : List (List ℕ)) (sums t : List Line) (number : ℕ) → reading sums number xs ≡ (t, None) → reading sums number (xs ++ ys) ≡ reading t (number + length xs) ys
reading_append [] ys sums t number read =
    ap (λ (s : List Line). reading s number ys) (ap (λ (r : Outcome). r.0) read) ∙ ap (λ n. reading t n ys) (sym (add-zero number))
reading_append (x ∷ xs) ys sums t number read =
    let n : number + 1 + length xs ≡ number + length (x ∷ xs) = omega arith in
    append_step (line_in x) sums t number xs ys (λ l. reading_append xs ys (added sums l) t (number + 1)) read
    ∙ ap (λ n. reading t n ys) n

-- the first lines of a text are added, and these bytes are the rest of it
pub record IsUnderWay (old : List Line) (text rest : List ℕ) (number : ℕ) (now : List Line) : Type 0 where
  pub done : List (List ℕ)
  pub all : done ++ text_lines rest ≡ text_lines text
  pub counted : number ≡ length done
  pub made : reading old 1 done ≡ (now, None)

pub way_start : (old now : List Line) (text : List ℕ) → now ≡ old → IsUnderWay old text text 0 now
way_start old now text same = record { done = []; all = refl; counted = refl; made = ap (λ (lines : List Line). (lines, None)) (sym same) }

-- what is read of all lines
onward : (old now : List Line) (text rest : List ℕ) (number : ℕ) (left : List (List ℕ)) → (way : IsUnderWay old text rest number now) → text_lines rest ≡ left
    → reading old 1 (text_lines text) ≡ reading now (number + 1) left
onward old now text rest number left way is =
    let n : 1 + length way.done ≡ number + 1 = omega (arith, way.counted) in
    ap (λ (lines : List (List ℕ)). reading old 1 lines) (sym way.all)
    ∙ reading_append way.done (text_lines rest) old now 1 way.made
    ∙ ap (λ n. reading now n (text_lines rest)) n ∙ ap (reading now (number + 1)) is

pub way_end : (old now : List Line) (text rest : List ℕ) (number : ℕ) → IsUnderWay old text rest number now → text_lines rest ≡ [] → reading old 1 (text_lines text) ≡ (now, None)
way_end old now text rest number way none = onward old now text rest number [] way none

pub way_bad : (old now : List Line) (text rest first : List ℕ) (number : ℕ) (left : List (List ℕ)) → IsUnderWay old text rest number now → text_lines rest ≡ first ∷ left → line_in first ≡ None
    → reading old 1 (text_lines text) ≡ (now, Some (number + 1))
way_bad old now text rest first number left way is bad =
    onward old now text rest number (first ∷ left) way is
    ∙ ap (λ (o : Option Line). option_map_or (λ (l : Line). reading (added now l) (number + 1 + 1) left) o (now, Some (number + 1))) bad

pub way_stop : (old now : List Line) (text rest : List ℕ) (number : ℕ) → IsUnderWay old text rest number now → (n : ℕ) × (reading old 1 (take n (text_lines text)) ≡ (now, None))
way_stop old now text rest number way = (
  length way.done,
  ap (λ (lines : List (List ℕ)). reading old 1 (take (length way.done) lines)) (sym way.all)
      ∙ ap (reading old 1) (take_at way.done (text_lines rest) (length way.done) refl) ∙ way.made,
)

pub way_more : (old now new : List Line) (text rest after first : List ℕ) (number : ℕ) (l : Line) → IsUnderWay old text rest number now
    → text_lines rest ≡ first ∷ text_lines after → line_in first ≡ Some l → new ≡ add_count now l.stack l.count → IsUnderWay old text after (number + 1) new
way_more old now new text rest after first number l way is good more = record {
  done = way.done ++ first ∷ [];
  all = append_assoc way.done (first ∷ []) (text_lines after) ∙ ap (λ (lines : List (List ℕ)). way.done ++ lines) (sym is) ∙ way.all;
  counted = omega (arith, way.counted, length-append way.done (first ∷ []));
  made =
      reading_append way.done (first ∷ []) old now 1 way.made
      ∙ ap (λ (o : Option Line). option_map_or (λ (l : Line). (added now l, None)) o (now, Some (1 + length way.done))) good
      ∙ ap (λ (lines : List Line). (lines, None)) (sym more);
}
