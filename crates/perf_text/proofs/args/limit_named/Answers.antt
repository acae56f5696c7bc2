use Rattle.std.proofs.Common.{◌≡◌, ◌<◌, ◌^◌, ℕ, List, [], ◌∷◌, length, Result, Ok, Err, true, arith, sym, ap, refl, ◌∙◌}
use Rattle.std.specs.Prelude.{◌&&◌}
use Rattle.std.specs.Char.{is_ascii_digit}
use Rattle.std.specs.List.{list_all}
use Rattle.std.specs.Result.{result_ok, OkIff}
use Rattle.std.specs.Str.{all_ascii_digits}
use Rattle.std.specs.Str.Parse.{digits_value}
use Rattle.std.proofs.lemmas.Bool.Decides.{nat_tests}
use Rattle.std.proofs.lemmas.Str.Parse.{numerals_by_value, tells_all_ascii_digits, parse_digits}
use Rattle.perf_text.specs.Args.{limit_named}
use Rattle.perf_text.proofs.args.limit_named.Goals as goal

-- two forms of one test
all_digits : (bs : List ℕ) → all_ascii_digits bs ≡ list_all is_ascii_digit bs
all_digits [] = refl
all_digits (c ∷ cs) = ap (λ b. is_ascii_digit c && b) (all_digits cs)

-- digits whose value fits are a limit, and other digits are not
limit_of : {E : Type 0} (bs : List ℕ) (r : Result ℕ E) → list_all is_ascii_digit bs ≡ true → OkIff r ((0 < length bs) × (digits_value 10 bs < 2 ^ 64)) (digits_value 10 bs) → result_ok r ≡ limit_named bs
limit_of bs (Ok x) digits h = grind (arith, nat_tests)
limit_of bs (Err e) digits h = grind (arith, nat_tests)

pub returns : goal.returns
returns c =
    let word = c.args.word.now in
    let digits : list_all is_ascii_digit word ≡ true = sym c.is_number.ensures ∙ c.if-not-is_number.false in
    let own = numerals_by_value _ tells_all_ascii_digits in
    c.ok.ensures.value ∙ limit_of word c.parse.result digits (parse_digits own 64 word c.parse.result c.parse.ensures.value.0 (all_digits word ∙ digits))
