use Rattle.std.proofs.Common.{◌≡◌, rules, subst, ◌∙◌}
use Rattle.std.specs.Prelude.{Some}
use Rattle.perf_base.specs.Errors.{kind_of}
use Rattle.perf_base.specs.Refusals.{kind_if_refused, error_kinds}
use Rattle.perf_parser.specs.Prelude.{CallInvariant}
use Rattle.perf_parser.specs.ReaderState.{parser_state}
use Rattle.perf_parser.proofs.InRow.{runs_kept, short_kept}
use Rattle.perf_unit_tests.proofs.tests.own_types.OwnListParse.parse.Goals as goal

pub returns-in_err-numbers : goal.returns-in_err-numbers
returns-in_err-numbers g c = record {
  call = record {
    config = c.parse_repeated.ensures.call.config ∙ c.in_ok-count.ensures.call.config;
    whole = c.parse_repeated.ensures.call.whole ∙ c.in_ok-count.ensures.call.whole;
    told = λ t. c.parse_repeated.ensures.call.told (c.in_ok-count.ensures.call.told t);
    answer = λ t. tt;
    counted = λ start k.
        let source = g.B.ParseBuf.source in
        let order = g.E.Endian.order in
        let mid = parser_state source order c.parse.new.self in
        let new = parser_state source order c.parse_repeated.new.self in
        let error = c.in_err-numbers.field-0.0 in
        let short = short_kept _ start mid new c.in_ok-count.count (kind_of error) c.in_err-numbers.ensures.err (c.in_ok-count.ensures.call.counted start k) in
        let same : Some (kind_of error) ≡ kind_if_refused (error_kinds c.from_residual-in_err-numbers.result) = search rules in
        subst (λ seen. CallInvariant start seen new) same short;
    follows = λ start f. c.parse_repeated.ensures.call.follows start (c.in_ok-count.ensures.call.follows start f);
  };
}

pub returns : goal.returns
returns g c = record {
  call = record {
    config = c.parse_repeated.ensures.call.config ∙ c.in_ok-count.ensures.call.config;
    whole = c.parse_repeated.ensures.call.whole ∙ c.in_ok-count.ensures.call.whole;
    told = λ t. c.parse_repeated.ensures.call.told (c.in_ok-count.ensures.call.told t);
    answer = λ t. tt;
    counted = λ start k.
        let source = g.B.ParseBuf.source in
        let order = g.E.Endian.order in
        let mid = parser_state source order c.parse.new.self in
        let new = parser_state source order c.parse_repeated.new.self in
        runs_kept _ start mid new c.in_ok-numbers.numbers.items c.in_ok-numbers.ensures.ok.1 (c.in_ok-count.ensures.call.counted start k);
    follows = λ start f. c.parse_repeated.ensures.call.follows start (c.in_ok-count.ensures.call.follows start f);
  };
}
