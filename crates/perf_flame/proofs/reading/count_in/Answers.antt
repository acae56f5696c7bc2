use Rattle.std.proofs.Common.{◌≡◌, true, sym, ◌∙◌, subst, List, ℕ}
use Rattle.std.specs.Char.{is_ascii_digit}
use Rattle.std.specs.List.{list_all}
use Rattle.std.specs.Str.Parse.{ParsesUnsigned}
use Rattle.std.proofs.lemmas.Str.Parse.{numerals_by_value, tells_all_ascii_digits, parse_digits}
use Rattle.perf_flame.proofs.Digits.{all_digits, count_of_digits, digits_are_text}
use Rattle.perf_flame.proofs.reading.count_in.Goals as goal

pub returns-in-Ok : goal.returns-in-Ok
returns-in-Ok c =
    let word = c.args.word.now in
    let digits : list_all is_ascii_digit word ≡ true = sym c.has_digits_alone.ensures ∙ c.if-not-has_digits_alone.false in
    let own = numerals_by_value _ tells_all_ascii_digits in
    let read = subst (λ (bs : List ℕ). ParsesUnsigned 64 10 bs c.parse.result) c.in-Ok.ensures.cases.0 c.parse.ensures.value.0 in
    c.ok.ensures.value ∙ count_of_digits word c.parse.result digits (parse_digits own 64 word c.parse.result read (all_digits word ∙ digits))

pub returns-in-Err : goal.returns-in-Err
returns-in-Err c =
    let word = c.args.word.now in
    let digits : list_all is_ascii_digit word ≡ true = sym c.has_digits_alone.ensures ∙ c.if-not-has_digits_alone.false in
    absurd (c.in-Err.ensures.cases.0 (digits_are_text word digits))
