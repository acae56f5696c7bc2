use Rattle.std.proofs.Common.{◌≡◌, true, false, ◌++◌, sym, ◌∙◌, ap}
use Rattle.std.proofs.lemmas.Result.{on_ok_weaker}
use Rattle.perf_walk.specs.Calls.{calls_of}
use Rattle.perf_words.specs.Bits.{has_bit}
use Rattle.perf_script.specs.Counters.{readings_of}
use Rattle.perf_script.proofs.script.find_parts.Goals as goal

pub returns-then-has_bit-clause-parts : goal.returns-then-has_bit-clause-parts
returns-then-has_bit-clause-parts c = λ config s flat is.
    let there : has_bit c.args.frame.now.present 4 ≡ true = sym c.has_bit.ensures ∙ c.if-has_bit.true in
    on_ok_weaker c.push_readings.result (λ e. record {
      calls = c.in_ok-push_calls.ensures config s flat is ∙ ap (λ t. t ++ calls_of s) c.clear.ensures.items;
      readings = λ _. e ∙ ap (λ t. t ++ readings_of config.read_format s) c.clear-2.ensures.items;
    }) (c.push_readings.ensures config s flat is there)

pub returns-else-has_bit-clause-parts : goal.returns-else-has_bit-clause-parts
returns-else-has_bit-clause-parts c = λ config s flat is. record {
  calls = c.in_ok-push_calls.ensures config s flat is ∙ ap (λ t. t ++ calls_of s) c.clear.ensures.items;
  readings = λ there. let off : has_bit c.args.frame.now.present 4 ≡ false = sym c.has_bit.ensures ∙ c.if-has_bit.false in absurd (cc);
}
