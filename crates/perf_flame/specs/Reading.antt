-- The text of folded stacks as it is read.
use Rattle.std.specs.Prelude.{◌≡◌, ℕ, ◌+◌, ◌-◌, ◌^◌, ◌==◌, ◌&&◌, nat_lt, not, if◌then◌else◌, List, [], ◌∷◌, length, take, drop, Option, Some, None, option_map, Result, Ok, Err}
use Rattle.std.specs.Char.{is_ascii_digit}
use Rattle.std.specs.List.{list_all, slice_split, suffix_len}
use Rattle.std.specs.Option.{option_map_or}
use Rattle.std.specs.Str.Parse.{digits_value}
use Rattle.perf_flame.specs.Lines.{Line, stack_line, add_count}
use Rattle.perf_flame.specs.declared.error.FoldedError.{FoldedError}
use Rattle.perf_flame.specs.declared.error.FoldedError.TheVariants as errors

-- parts of a text, without the last if it is empty: no line follows a line feed at the end
abbrev pub without_empty_end : List (List ℕ) → List (List ℕ)
without_empty_end [] = []
without_empty_end (part ∷ []) = if length part == 0 then [] else part ∷ []
without_empty_end (part ∷ next ∷ parts) = part ∷ without_empty_end (next ∷ parts)

-- the lines of a text, without their line feeds
abbrev pub text_lines : List ℕ → List (List ℕ)
text_lines text = without_empty_end (slice_split (λ b. b == 10) text)

-- the number that decimal digits write, at least one, if it is below 2^64
abbrev pub count_in : List ℕ → Option ℕ
count_in word =
    if (nat_lt 0 (length word) && list_all is_ascii_digit word)
    && nat_lt (digits_value 10 word) (2 ^ 64) then Some (digits_value 10 word)
    else None

-- where the count of a line begins: after its last space, or at 0 if it has none
abbrev pub count_at : List ℕ → ℕ
count_at line = length line - suffix_len (λ b. not (b == 32)) line

-- the stack before the last space of a line, and the count after it
abbrev pub line_in : List ℕ → Option Line
line_in line =
    if count_at line == 0 then None
    else option_map (stack_line (take (count_at line - 1) line)) (count_in (drop (count_at line) line))

-- Lines that are added to others, with the number of the first of them: the sums, and the number of the
-- first line that is refused, after which none is added.
abbrev pub reading : List Line → (number : ℕ) → List (List ℕ) → List Line × Option ℕ
reading sums number [] = (sums, None)
reading sums number (line ∷ lines) =
    option_map_or (λ (l : Line). reading (add_count sums l.stack l.count) (number + 1) lines)
    (line_in line) (sums, Some number)

-- What adding the lines of a text to others leaves. If memory runs out, the first n of them are added.
abbrev pub Reads : List Line → List ℕ → Result (Unit {0}) FoldedError → List Line → Type 0
Reads old text (Ok _) new = reading old 1 (text_lines text) ≡ (new, None)
Reads old text (Err (errors.BadLine number)) new = reading old 1 (text_lines text) ≡ (new, Some number)
Reads old text (Err errors.OutOfMemory) new = (n : ℕ) × (reading old 1 (take n (text_lines text)) ≡ (new, None))
