-- Laws of texts that are added up.
use Rattle.std.specs.Prelude.{◌≡◌, ℕ, List, ◌++◌}
use Rattle.perf_flame.specs.Lines.{add_lines}
use Rattle.perf_fold.specs.Sums.{sums_of_all}

abbrev pub OrderIsFree : Type 0
OrderIsFree =
    (before first second after : List (List ℕ)) →
    sums_of_all (before ++ (first ++ (second ++ after))) ≡ sums_of_all (before ++ (second ++ (first ++ after)))

abbrev pub GroupingIsFree : Type 0
GroupingIsFree = (first second : List (List ℕ)) → sums_of_all (first ++ second) ≡ add_lines (sums_of_all first) (sums_of_all second)
