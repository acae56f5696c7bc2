use Rattle.std.proofs.Common.{◌≡◌, Err, ap, refl, ◌∙◌}
use Rattle.perf_words.specs.SetBits.{sample_flags_bits}
use Rattle.perf_base.specs.Configured.{configuration_of}
use Rattle.perf_reader.proofs.RequestedParts.{fields_give, of_row}
use Rattle.perf_counters.proofs.Readings.{came_up}
use Rattle.perf_sample_types.proofs.FlaggedFields.{flag_after, flag_stops}
use Rattle.perf_sample_types.proofs.ListFlags.{lasts_after, no_call_chain, no_values}
use Rattle.perf_sample_types.proofs.sample_groups.Counts.fill.Goals as goal

pub returns-in_err-fill_flagged : goal.returns-in_err-fill_flagged
returns-in_err-fill_flagged g c =
    let asked : sample_flags_bits c.sample_type-flags.result ≡ (configuration_of c.args.reader.now.config).sample_type = c.sample_type-flags.ensures ∙ ap (λ k. (configuration_of k).sample_type) c.config.ensures in
    let up : c.from_residual.result ≡ Err c.in_err-fill_flagged.field-0.0 = came_up _ _ c.from_residual.ensures in rw up (
    record {
      call = of_row _ _ _ (λ t w. tt) (
          flag_stops _ _ 4 _ _ (λ left m. refl) refl asked c.in_err-fill_flagged.ensures.call);
      memory = λ lasts none. c.in_err-fill_flagged.ensures.memory lasts (no_values asked none);
    })

pub returns-in_err-fill_flagged-2 : goal.returns-in_err-fill_flagged-2
returns-in_err-fill_flagged-2 g c =
    let asked : sample_flags_bits c.sample_type-flags.result ≡ (configuration_of c.args.reader.now.config).sample_type = c.sample_type-flags.ensures ∙ ap (λ k. (configuration_of k).sample_type) c.config.ensures in
    let up : c.from_residual-in_err-fill_flagged-2.result ≡ Err c.in_err-fill_flagged-2.field-0.0 = came_up _ _ c.from_residual-in_err-fill_flagged-2.ensures in rw up (
    record {
      call = of_row _ _ _ (λ t w. tt) (
          flag_after _ _ 4 _ _ refl asked c.in_ok-fill_flagged.ensures.call (λ kept.
          flag_stops _ _ 5 _ _ (λ left m. refl) kept asked c.in_err-fill_flagged-2.ensures.call));
      memory = λ lasts none. c.in_err-fill_flagged-2.ensures.memory (lasts_after c.in_ok-fill_flagged.ensures.call lasts) (no_call_chain asked none);
    })

pub returns : goal.returns
returns g c =
    let asked : sample_flags_bits c.sample_type-flags.result ≡ (configuration_of c.args.reader.now.config).sample_type = c.sample_type-flags.ensures ∙ ap (λ k. (configuration_of k).sample_type) c.config.ensures in
    record {
      call = of_row _ _ _ (λ t w. tt) (
          flag_after _ _ 4 _ _ refl asked c.in_ok-fill_flagged.ensures.call (λ kept.
          flag_after _ _ 5 _ _ kept asked c.in_ok-fill_flagged-2.ensures.call (λ kept.
          fields_give _ _ (λ left m. refl))));
      memory = λ lasts none. tt;
    }
