-- The words that lines are made of: names and their values.
use Rattle.std.specs.Prelude.{ℕ, ◌+◌, ◌-◌, ◌/◌, ◌%◌, List, [], ◌∷◌, ◌++◌, nat_lt, codes, decimal}
use Rattle.std.specs.Prelude.{Option, Some, None, if◌then◌else◌}
use Rattle.std.specs.List.{flat_map}
pub use Rattle.perf_text.specs.Numbers.{present}

-- a name, `=` and a value
abbrev pub field : List ℕ → List ℕ → List ℕ
field name has = name ++ (codes "=" ++ has)

-- a name, `=` and a number
abbrev pub number : List ℕ → ℕ → List ℕ
number name n = field name (decimal n)

-- a field that may be absent, as a list of at most one word
abbrev pub word_as : {X : Type 0} → List ℕ → (X → List ℕ) → Option X → List (List ℕ)
word_as name written (Some x) = field name (written x) ∷ []
word_as name written None = []

-- a number that may be absent, as a list of at most one word
abbrev pub word_of : List ℕ → Option ℕ → List (List ℕ)
word_of name n = word_as name decimal n

-- the words of a list of names and numbers
abbrev pub words_of_numbers : List (List ℕ × Option ℕ) → List (List ℕ)
words_of_numbers numbers = flat_map (λ number. word_of number.0 number.1) numbers

-- items separated by commas
abbrev pub with_commas : {X : Type 0} → (X → List ℕ) → List X → List ℕ
with_commas item [] = []
with_commas item (x ∷ xs) = item x ++ flat_map (λ other. codes "," ++ item other) xs

-- each word with a space before it
abbrev pub with_spaces : List (List ℕ) → List ℕ
with_spaces words = flat_map (λ word. codes " " ++ word) words
