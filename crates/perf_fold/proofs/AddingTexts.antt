-- Texts that are added one after another.
use Rattle.std.proofs.Common.{◌≡◌, ℕ, ◌+◌, ◌<◌, List, [], ◌∷◌, ◌++◌, length, map, take, get_or, Option, Some, None, refl, sym, ap, subst, ◌∙◌, append-nil}
use Rattle.std.specs.Prelude.{Err, option_map, option_and_then, slice_get}
use Rattle.std.specs.Global.{Vec}
use Rattle.std.specs.List.{flat_map}
use Rattle.std.specs.Option.{option_map_or}
use Rattle.std.proofs.lemmas.Grind.{flat_map-append}
use Rattle.std.proofs.lemmas.List.{take_more, take-map, map-append}
use Rattle.std.proofs.lemmas.List.Elements.{All-push}
use Rattle.std.proofs.lemmas.Option.{slice_get-map, slice_get_read}
use Rattle.perf_flame.specs.Lines.{Line, add_count, add_lines}
use Rattle.perf_flame.specs.Reading.{line_in, reading, text_lines}
use Rattle.perf_flame.proofs.Merging.{order_is_free, grouping_is_free}
use Rattle.perf_fold.specs.Sums.{bytes_of, sums_of, refused_line, sums_of_all, AreRead, IsRefused, IsSumOf}
use Rattle.perf_fold.specs.declared.error.TextError.{TextError}
use Rattle.perf_fold.specs.declared.error.TextError.TheVariants as errors

abbrev Outcome : Type 0
Outcome = List Line × Option ℕ

-- lines that are added to others, by what they are alone
abbrev onto : List Line → Outcome → Outcome
onto old r = (add_lines old r.0, r.1)

step : (o : Option Line) (old : List Line) (number : ℕ) (lines : List (List ℕ))
    → ((sums : List Line) → reading sums (number + 1) lines ≡ onto sums (reading [] (number + 1) lines))
    → option_map_or (λ (l : Line). reading (add_count old l.stack l.count) (number + 1) lines) o (old, Some number)
    ≡ onto old (option_map_or (λ (l : Line). reading (add_count [] l.stack l.count) (number + 1) lines) o ([], Some number))
step None old number lines rest = refl
step (Some l) old number lines rest =
    let first : List Line = add_count [] l.stack l.count in
    rest (add_count old l.stack l.count)
    ∙ ap (λ (s : List Line). (s, (reading [] (number + 1) lines).1)) (sym (grouping_is_free old first (reading [] (number + 1) lines).0))
    ∙ ap (onto old) (sym (rest first))

-- what is read onto other lines
reading_onto : (lines : List (List ℕ)) (old : List Line) (number : ℕ) → reading old number lines ≡ onto old (reading [] number lines)
reading_onto [] old number = refl
reading_onto (line ∷ lines) old number = step (line_in line) old number lines (λ sums. reading_onto lines sums (number + 1))

pub adds : (text : List ℕ) (old new : List Line) (o : Option ℕ) → reading old 1 (text_lines text) ≡ (new, o) → new ≡ add_lines old (sums_of text)
unfolding sums_of
adds text old new o is = ap (λ (r : Outcome). r.0) (sym is ∙ reading_onto (text_lines text) old 1)

pub refuses : (text : List ℕ) (old new : List Line) (o : Option ℕ) → reading old 1 (text_lines text) ≡ (new, o) → refused_line text ≡ o
unfolding refused_line
refuses text old new o is = ap (λ (r : Outcome). r.1) (sym (reading_onto (text_lines text) old 1) ∙ is)

pub add_append : (xs ys lines : List Line) → add_lines lines (xs ++ ys) ≡ add_lines (add_lines lines xs) ys
add_append [] ys lines = refl
add_append (x ∷ xs) ys lines = add_append xs ys (add_count lines x.stack x.count)

-- the sums of texts, added to lines
all_append : (first second : List (List ℕ)) (lines : List Line)
    → add_lines lines (flat_map sums_of (first ++ second)) ≡ add_lines (add_lines lines (flat_map sums_of first)) (flat_map sums_of second)
all_append first second lines =
    ap (add_lines lines) (flat_map-append sums_of first second) ∙ add_append (flat_map sums_of first) (flat_map sums_of second) lines

pub grouping : (first second : List (List ℕ)) → sums_of_all (first ++ second) ≡ add_lines (sums_of_all first) (sums_of_all second)
grouping first second =
    all_append first second []
    ∙ sym (grouping_is_free (sums_of_all first) [] (flat_map sums_of second))

pub order : (before first second after : List (List ℕ)) → sums_of_all (before ++ (first ++ (second ++ after))) ≡ sums_of_all (before ++ (second ++ (first ++ after)))
order before first second after =
    let all : List (List ℕ) → List Line = λ texts. flat_map sums_of texts in
    all_append before (first ++ (second ++ after)) []
    ∙ all_append first (second ++ after) (sums_of_all before)
    ∙ all_append second after (add_lines (sums_of_all before) (all first))
    ∙ ap (λ (ls : List Line). add_lines ls (all after)) (order_is_free (sums_of_all before) (all first) (all second))
    ∙ sym (all_append first after (add_lines (sums_of_all before) (all second)))
    ∙ sym (all_append second (first ++ after) (sums_of_all before))
    ∙ sym (all_append before (second ++ (first ++ after)) [])

-- ---- the texts before an index, and the one at it

more : (texts : List (Vec ℕ)) (i : ℕ) (t : Vec ℕ) → i < length texts → t ≡ get_or texts i t → map bytes_of (take (i + 1) texts) ≡ map bytes_of (take i texts) ++ bytes_of t ∷ []
more texts i t below is =
    ap (λ (ts : List (Vec ℕ)). map bytes_of ts) (take_more texts i t below)
    ∙ map-append bytes_of (take i texts) (get_or texts i t ∷ [])
    ∙ ap (λ (x : Vec ℕ). map bytes_of (take i texts) ++ bytes_of x ∷ []) (sym is)

all_more : (texts : List (List ℕ)) (text : List ℕ) → sums_of_all (texts ++ text ∷ []) ≡ add_lines (sums_of_all texts) (sums_of text)
all_more texts text = all_append texts (text ∷ []) [] ∙ ap (add_lines (sums_of_all texts)) (append-nil (sums_of text))

pub more_read : (texts : List (Vec ℕ)) (i : ℕ) (t : Vec ℕ) → i < length texts → t ≡ get_or texts i t → AreRead (map bytes_of (take i texts)) → refused_line t.items ≡ None
    → AreRead (map bytes_of (take (i + 1) texts))
more_read texts i t below is read good =
    subst AreRead (sym (more texts i t below is))
    (All-push (λ text. refused_line text ≡ None) (map bytes_of (take i texts)) t.items read good)

pub more_sums : (texts : List (Vec ℕ)) (i : ℕ) (t : Vec ℕ) (old new : List Line) → i < length texts → t ≡ get_or texts i t → old ≡ sums_of_all (map bytes_of (take i texts)) → new ≡ add_lines old (sums_of t.items)
    → new ≡ sums_of_all (map bytes_of (take (i + 1) texts))
more_sums texts i t old new below is sums grown =
    grown ∙ ap (λ (ls : List Line). add_lines ls (sums_of t.items)) sums
    ∙ sym (all_more (map bytes_of (take i texts)) t.items)
    ∙ ap sums_of_all (sym (more texts i t below is))

here : (texts : List (Vec ℕ)) (i : ℕ) (t : Vec ℕ) → i < length texts → t ≡ get_or texts i t → slice_get (map bytes_of texts) i ≡ Some t.items
here texts i t below is = slice_get-map bytes_of texts i ∙ ap (option_map bytes_of) (slice_get_read texts (length texts) i t refl below is)

pub refused_sum : (e : TextError) (texts : List (Vec ℕ)) (i : ℕ) (t : Vec ℕ) → i < length texts → t ≡ get_or texts i t → AreRead (map bytes_of (take i texts)) → IsRefused i t.items e
    → IsSumOf (map bytes_of texts) (Err e)
refused_sum (errors.BadLine j line) texts i t below is read (same, bad) =
    let before : AreRead (take j (map bytes_of texts)) = subst AreRead (sym (take-map bytes_of i texts) ∙ ap (λ n. take n (map bytes_of texts)) (sym same)) read in
    let at : slice_get (map bytes_of texts) j ≡ Some t.items = ap (slice_get (map bytes_of texts)) same ∙ here texts i t below is in
    (before, ap (option_and_then refused_line) at ∙ bad)
refused_sum errors.TooMany texts i t below is read none = none
refused_sum errors.OutOfMemory texts i t below is read none = tt
