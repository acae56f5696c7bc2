use Rattle.std.proofs.Common.{rules, ◌≡◌, ◌∙◌, ap, ◌*◌, ◌%◌, ◌^◌, bit_and, arith}
use Rattle.std.specs.Prelude.{count_ones}
use Rattle.std.proofs.lemmas.Nat.{and_mask}
use Rattle.perf_base.specs.Configured.{configuration_of}
use Rattle.perf_base.specs.Configuration.{Configuration}
use Rattle.perf_sample_types.proofs.LeastSamples.{short_sample}
use Rattle.perf_sample_types.proofs.sample.Sample.least_len.Goals as goal

pub returns-clause-least : goal.returns-clause-least
returns-clause-least g c = λ o bytes short.
    let settings : Configuration = configuration_of c.args.config.now in
    let bits : c.bits.result ≡ settings.sample_type = search rules in
    let least : 8 * count_ones (bit_and c.bits.result 16777215) ≡ 8 * count_ones (settings.sample_type % 2 ^ 24) =
    ap (λ n. 8 * count_ones n) (and_mask c.bits.result 24 ∙ ap (λ n. n % 2 ^ 24) bits) in
    short_sample settings o bytes (omega (arith, short, least))
