-- Texts of folded stacks that are added up.
use Rattle.std.specs.Prelude.{◌≡◌, ℕ, List, [], take, slice_get, Option, Some, None, option_and_then, Result, Ok, Err, All}
use Rattle.std.specs.Global.{Vec}
use Rattle.std.specs.List.{flat_map}
use Rattle.perf_flame.specs.FoldedLines.{folded_lines}
use Rattle.perf_flame.specs.Lines.{Line, add_lines}
use Rattle.perf_flame.specs.Reading.{reading, text_lines}
use Rattle.perf_flame.specs.declared.folded.Folded.{Folded}
use Rattle.perf_fold.specs.declared.error.TextError.{TextError}
use Rattle.perf_fold.specs.declared.error.TextError.TheVariants as errors

-- the bytes of a text
abbrev pub bytes_of : Vec ℕ → List ℕ
bytes_of text = text.items

-- the sums of the lines of a text, up to the first that is refused
unfoldable pub sums_of : List ℕ → List Line
sums_of text = (reading [] 1 (text_lines text)).0

-- the number of the first line that is refused
unfoldable pub refused_line : List ℕ → Option ℕ
refused_line text = (reading [] 1 (text_lines text)).1

-- the sums of texts
abbrev pub sums_of_all : List (List ℕ) → List Line
sums_of_all texts = add_lines [] (flat_map sums_of texts)

-- no line of these texts is refused
abbrev pub AreRead : List (List ℕ) → Type 0
AreRead texts = All (λ text. refused_line text ≡ None) texts

-- a text with that index is refused so, unless memory ran out
abbrev pub IsRefused : (index : ℕ) → (text : List ℕ) → TextError → Type 0
IsRefused index text (errors.BadLine i line) = (i ≡ index) × (refused_line text ≡ Some line)
IsRefused index text errors.TooMany = ⊥
IsRefused index text errors.OutOfMemory = Unit {0}

-- the first line that is refused is the one with that number in the text with that index
abbrev pub IsRefusedIn : List (List ℕ) → (index line : ℕ) → Type 0
IsRefusedIn texts index line = AreRead (take index texts) × (option_and_then refused_line (slice_get texts index) ≡ Some line)

-- The sums of texts that are read whole; or the first line of them that is refused, unless memory ran out.
abbrev pub IsSumOf : List (List ℕ) → Result Folded TextError → Type 0
IsSumOf texts (Ok folded) = AreRead texts × (folded_lines folded ≡ sums_of_all texts)
IsSumOf texts (Err (errors.BadLine i line)) = IsRefusedIn texts i line
IsSumOf texts (Err errors.TooMany) = ⊥
IsSumOf texts (Err errors.OutOfMemory) = Unit {0}
