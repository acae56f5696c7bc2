-- The first line of a text.
use Rattle.std.proofs.Common.{◌≡◌, ℕ, ◌+◌, ◌<◌, ◌≤◌, Bool, List, [], ◌∷◌, length, Some, None, eqb, inl, inr, refl, sym, ap, ◌∙◌, arith}
use Rattle.std.specs.Prelude.{position}
use Rattle.std.specs.List.{slice_split, before_first, after_first, position_or_len}
use Rattle.std.proofs.lemmas.Bool.{cases_lt}
use Rattle.std.proofs.lemmas.Bool.Decides.{nat_tests}
use Rattle.std.proofs.lemmas.List.{take_all, drop_all, length-drop}
use Rattle.std.proofs.lemmas.List.Splits.{slice_split_first, slice_split_none, length-slice_split}
use Rattle.std.proofs.lemmas.List.Sums.{fails_before_first}
use Rattle.perf_flame.specs.Reading.{without_empty_end, text_lines}

abbrev pub is_feed : ℕ → Bool
is_feed b = eqb b 10

before_others : (part : List ℕ) (parts : List (List ℕ)) → 0 < length parts → without_empty_end (part ∷ parts) ≡ part ∷ without_empty_end parts
before_others part [] some = absurd (omega arith)
before_others part (next ∷ parts) some = refl

last_line : (text : List ℕ) → 0 < length text → without_empty_end (text ∷ []) ≡ text ∷ []
last_line text some = grind (arith, nat_tests)

first_and_others : (text : List ℕ) → 0 < length text → text_lines text ≡ before_first is_feed text ∷ text_lines (after_first is_feed text)
first_and_others text some = elim (cases_lt (position_or_len is_feed text) (length text)) [
  | inl lt ↦
      let after = after_first is_feed text in
      ap without_empty_end (slice_split_first is_feed text 0 lt)
      ∙ before_others (before_first is_feed text) (slice_split is_feed after) (omega (arith, length-slice_split is_feed after))
  | inr le ↦
      let all : slice_split is_feed text ≡ text ∷ [] = slice_split_none is_feed text (λ k d below. fails_before_first is_feed text k d (omega (arith, le, below))) in
      ap without_empty_end all ∙ last_line text some
      ∙ ap (λ (first : List ℕ). first ∷ text_lines []) (sym (take_all (position_or_len is_feed text) text le))
      ∙ ap (λ (rest : List ℕ). before_first is_feed text ∷ text_lines rest) (sym (drop_all (position_or_len is_feed text + 1) text (omega arith)))
]

-- the lines of a text are its first line and those of the rest
pub lines_from_first : (text first rest : List ℕ) → 0 < length text → first ≡ before_first is_feed text → rest ≡ after_first is_feed text → text_lines text ≡ first ∷ text_lines rest
lines_from_first text first rest some first_is rest_is = first_and_others text some ∙ ap (λ (l : List ℕ). l ∷ text_lines (after_first is_feed text)) (sym first_is) ∙ ap (λ (l : List ℕ). first ∷ text_lines l) (sym rest_is)

-- where the first line feed is
pub at_feed : (text : List ℕ) (at : ℕ) → Some at ≡ position is_feed text → (at ≡ position_or_len is_feed text) × (at < length text)
at_feed text at found = grind (arith, nat_tests)

pub no_feed : (text : List ℕ) → None ≡ position is_feed text → length text ≤ position_or_len is_feed text
no_feed text none = grind (arith, nat_tests)

pub rest_shorter : (text rest : List ℕ) → 0 < length text → rest ≡ after_first is_feed text → length rest + 1 ≤ length text
rest_shorter text rest some is = omega (arith, some, ap length is, length-drop (position_or_len is_feed text + 1) text)
