-- The number that digits write.
use Rattle.std.proofs.Common.{◌≡◌, ◌<◌, ◌^◌, ℕ, List, [], ◌∷◌, length, Result, Ok, Err, true, arith, refl, ap}
use Rattle.std.specs.Prelude.{◌&&◌}
use Rattle.std.specs.Char.{is_ascii_digit}
use Rattle.std.specs.List.{list_all}
use Rattle.std.specs.Result.{result_ok, OkIff}
use Rattle.std.specs.Str.{all_ascii_digits, IsUtf8}
use Rattle.std.specs.Str.Parse.{digits_value}
use Rattle.std.proofs.lemmas.Bool.Decides.{nat_tests}
use Rattle.std.proofs.lemmas.List.Sums.{AllPass-from_list_all}
use Rattle.std.proofs.lemmas.Str.{IsUtf8-from_ascii}
use Rattle.std.proofs.lemmas.Str.Ascii.{IsAscii-from_all}
use Rattle.perf_flame.specs.Reading.{count_in}

-- two forms of one test
pub all_digits : (bs : List ℕ) → all_ascii_digits bs ≡ list_all is_ascii_digit bs
all_digits [] = refl
all_digits (c ∷ cs) = ap (λ b. is_ascii_digit c && b) (all_digits cs)

-- digits whose value fits are a count, and other digits are not
pub count_of_digits : {E : Type 0} (bs : List ℕ) (r : Result ℕ E) → list_all is_ascii_digit bs ≡ true → OkIff r ((0 < length bs) × (digits_value 10 bs < 2 ^ 64)) (digits_value 10 bs) → result_ok r ≡ count_in bs
count_of_digits bs (Ok x) digits h = grind (arith, nat_tests)
count_of_digits bs (Err e) digits h = grind (arith, nat_tests)

low : (b : ℕ) → is_ascii_digit b ≡ true → b < 128
low b h = grind (arith, nat_tests)

pub digits_are_text : (bs : List ℕ) → list_all is_ascii_digit bs ≡ true → IsUtf8 bs
digits_are_text bs h = IsUtf8-from_ascii bs (IsAscii-from_all bs (λ k d below. low _ (AllPass-from_list_all is_ascii_digit bs h k d below)))
