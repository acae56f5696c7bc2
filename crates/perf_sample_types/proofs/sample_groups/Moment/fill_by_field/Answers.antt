use Rattle.std.proofs.Common.{◌≡◌, Err, ap, refl, ◌∙◌}
use Rattle.perf_words.specs.SetBits.{sample_flags_bits}
use Rattle.perf_base.specs.Configured.{configuration_of}
use Rattle.perf_reader.proofs.RequestedParts.{fields_give, of_row}
use Rattle.perf_counters.proofs.Readings.{came_up}
use Rattle.perf_sample_types.proofs.FlaggedFields.{flag_after, flag_stops}
use Rattle.perf_sample_types.proofs.ListFlags.{lasts_after}
use Rattle.perf_sample_types.proofs.sample_groups.Moment.fill_by_field.Goals as goal

pub returns-in_err-fill_flagged : goal.returns-in_err-fill_flagged
returns-in_err-fill_flagged g c =
    let asked : sample_flags_bits c.sample_type-flags.result ≡ (configuration_of c.args.reader.now.config).sample_type = c.sample_type-flags.ensures ∙ ap (λ k. (configuration_of k).sample_type) c.config.ensures in
    let up : c.from_residual.result ≡ Err c.in_err-fill_flagged.field-0.0 = came_up _ _ c.from_residual.ensures in rw up (
    record {
      call = of_row _ _ _ (λ t w. tt) (
          flag_stops _ _ 16 _ _ (λ left m. refl) refl asked c.in_err-fill_flagged.ensures.call);
      memory = λ lasts. c.in_err-fill_flagged.ensures.memory lasts (λ set. refl);
    })

pub returns-in_err-fill_flagged-2 : goal.returns-in_err-fill_flagged-2
returns-in_err-fill_flagged-2 g c =
    let asked : sample_flags_bits c.sample_type-flags.result ≡ (configuration_of c.args.reader.now.config).sample_type = c.sample_type-flags.ensures ∙ ap (λ k. (configuration_of k).sample_type) c.config.ensures in
    let up : c.from_residual-in_err-fill_flagged-2.result ≡ Err c.in_err-fill_flagged-2.field-0.0 = came_up _ _ c.from_residual-in_err-fill_flagged-2.ensures in rw up (
    record {
      call = of_row _ _ _ (λ t w. tt) (
          flag_after _ _ 16 _ _ refl asked c.in_ok-fill_flagged.ensures.call (λ kept.
          flag_stops _ _ 0 _ _ (λ left m. refl) kept asked c.in_err-fill_flagged-2.ensures.call));
      memory = λ lasts. c.in_err-fill_flagged-2.ensures.memory (lasts_after c.in_ok-fill_flagged.ensures.call lasts) (λ set. refl);
    })

pub returns-in_err-fill_flagged-3 : goal.returns-in_err-fill_flagged-3
returns-in_err-fill_flagged-3 g c =
    let asked : sample_flags_bits c.sample_type-flags.result ≡ (configuration_of c.args.reader.now.config).sample_type = c.sample_type-flags.ensures ∙ ap (λ k. (configuration_of k).sample_type) c.config.ensures in
    let up : c.from_residual-in_err-fill_flagged-3.result ≡ Err c.in_err-fill_flagged-3.field-0.0 = came_up _ _ c.from_residual-in_err-fill_flagged-3.ensures in rw up (
    record {
      call = of_row _ _ _ (λ t w. tt) (
          flag_after _ _ 16 _ _ refl asked c.in_ok-fill_flagged.ensures.call (λ kept.
          flag_after _ _ 0 _ _ kept asked c.in_ok-fill_flagged-2.ensures.call (λ kept.
          flag_stops _ _ 1 _ _ (λ left m. refl) kept asked c.in_err-fill_flagged-3.ensures.call)));
      memory = λ lasts. c.in_err-fill_flagged-3.ensures.memory (lasts_after c.in_ok-fill_flagged-2.ensures.call (lasts_after c.in_ok-fill_flagged.ensures.call lasts)) (λ set. refl);
    })

pub returns-in_err-fill_flagged-4 : goal.returns-in_err-fill_flagged-4
returns-in_err-fill_flagged-4 g c =
    let asked : sample_flags_bits c.sample_type-flags.result ≡ (configuration_of c.args.reader.now.config).sample_type = c.sample_type-flags.ensures ∙ ap (λ k. (configuration_of k).sample_type) c.config.ensures in
    let up : c.from_residual-in_err-fill_flagged-4.result ≡ Err c.in_err-fill_flagged-4.field-0.0 = came_up _ _ c.from_residual-in_err-fill_flagged-4.ensures in rw up (
    record {
      call = of_row _ _ _ (λ t w. tt) (
          flag_after _ _ 16 _ _ refl asked c.in_ok-fill_flagged.ensures.call (λ kept.
          flag_after _ _ 0 _ _ kept asked c.in_ok-fill_flagged-2.ensures.call (λ kept.
          flag_after _ _ 1 _ _ kept asked c.in_ok-fill_flagged-3.ensures.call (λ kept.
          flag_stops _ _ 2 _ _ (λ left m. refl) kept asked c.in_err-fill_flagged-4.ensures.call))));
      memory = λ lasts. c.in_err-fill_flagged-4.ensures.memory (lasts_after c.in_ok-fill_flagged-3.ensures.call (lasts_after c.in_ok-fill_flagged-2.ensures.call (lasts_after c.in_ok-fill_flagged.ensures.call lasts))) (λ set. refl);
    })

pub returns-in_err-fill_flagged-5 : goal.returns-in_err-fill_flagged-5
returns-in_err-fill_flagged-5 g c =
    let asked : sample_flags_bits c.sample_type-flags.result ≡ (configuration_of c.args.reader.now.config).sample_type = c.sample_type-flags.ensures ∙ ap (λ k. (configuration_of k).sample_type) c.config.ensures in
    let up : c.from_residual-in_err-fill_flagged-5.result ≡ Err c.in_err-fill_flagged-5.field-0.0 = came_up _ _ c.from_residual-in_err-fill_flagged-5.ensures in rw up (
    record {
      call = of_row _ _ _ (λ t w. tt) (
          flag_after _ _ 16 _ _ refl asked c.in_ok-fill_flagged.ensures.call (λ kept.
          flag_after _ _ 0 _ _ kept asked c.in_ok-fill_flagged-2.ensures.call (λ kept.
          flag_after _ _ 1 _ _ kept asked c.in_ok-fill_flagged-3.ensures.call (λ kept.
          flag_after _ _ 2 _ _ kept asked c.in_ok-fill_flagged-4.ensures.call (λ kept.
          flag_stops _ _ 3 _ _ (λ left m. refl) kept asked c.in_err-fill_flagged-5.ensures.call)))));
      memory = λ lasts. c.in_err-fill_flagged-5.ensures.memory (lasts_after c.in_ok-fill_flagged-4.ensures.call (lasts_after c.in_ok-fill_flagged-3.ensures.call (lasts_after c.in_ok-fill_flagged-2.ensures.call (lasts_after c.in_ok-fill_flagged.ensures.call lasts)))) (λ set. refl);
    })

pub returns-in_err-fill_flagged-6 : goal.returns-in_err-fill_flagged-6
returns-in_err-fill_flagged-6 g c =
    let asked : sample_flags_bits c.sample_type-flags.result ≡ (configuration_of c.args.reader.now.config).sample_type = c.sample_type-flags.ensures ∙ ap (λ k. (configuration_of k).sample_type) c.config.ensures in
    let up : c.from_residual-in_err-fill_flagged-6.result ≡ Err c.in_err-fill_flagged-6.field-0.0 = came_up _ _ c.from_residual-in_err-fill_flagged-6.ensures in rw up (
    record {
      call = of_row _ _ _ (λ t w. tt) (
          flag_after _ _ 16 _ _ refl asked c.in_ok-fill_flagged.ensures.call (λ kept.
          flag_after _ _ 0 _ _ kept asked c.in_ok-fill_flagged-2.ensures.call (λ kept.
          flag_after _ _ 1 _ _ kept asked c.in_ok-fill_flagged-3.ensures.call (λ kept.
          flag_after _ _ 2 _ _ kept asked c.in_ok-fill_flagged-4.ensures.call (λ kept.
          flag_after _ _ 3 _ _ kept asked c.in_ok-fill_flagged-5.ensures.call (λ kept.
          flag_stops _ _ 6 _ _ (λ left m. refl) kept asked c.in_err-fill_flagged-6.ensures.call))))));
      memory = λ lasts. c.in_err-fill_flagged-6.ensures.memory (lasts_after c.in_ok-fill_flagged-5.ensures.call (lasts_after c.in_ok-fill_flagged-4.ensures.call (lasts_after c.in_ok-fill_flagged-3.ensures.call (lasts_after c.in_ok-fill_flagged-2.ensures.call (lasts_after c.in_ok-fill_flagged.ensures.call lasts))))) (λ set. refl);
    })

pub returns-in_err-fill_flagged-7 : goal.returns-in_err-fill_flagged-7
returns-in_err-fill_flagged-7 g c =
    let asked : sample_flags_bits c.sample_type-flags.result ≡ (configuration_of c.args.reader.now.config).sample_type = c.sample_type-flags.ensures ∙ ap (λ k. (configuration_of k).sample_type) c.config.ensures in
    let up : c.from_residual-in_err-fill_flagged-7.result ≡ Err c.in_err-fill_flagged-7.field-0.0 = came_up _ _ c.from_residual-in_err-fill_flagged-7.ensures in rw up (
    record {
      call = of_row _ _ _ (λ t w. tt) (
          flag_after _ _ 16 _ _ refl asked c.in_ok-fill_flagged.ensures.call (λ kept.
          flag_after _ _ 0 _ _ kept asked c.in_ok-fill_flagged-2.ensures.call (λ kept.
          flag_after _ _ 1 _ _ kept asked c.in_ok-fill_flagged-3.ensures.call (λ kept.
          flag_after _ _ 2 _ _ kept asked c.in_ok-fill_flagged-4.ensures.call (λ kept.
          flag_after _ _ 3 _ _ kept asked c.in_ok-fill_flagged-5.ensures.call (λ kept.
          flag_after _ _ 6 _ _ kept asked c.in_ok-fill_flagged-6.ensures.call (λ kept.
          flag_stops _ _ 9 _ _ (λ left m. refl) kept asked c.in_err-fill_flagged-7.ensures.call)))))));
      memory = λ lasts. c.in_err-fill_flagged-7.ensures.memory (lasts_after c.in_ok-fill_flagged-6.ensures.call (lasts_after c.in_ok-fill_flagged-5.ensures.call (lasts_after c.in_ok-fill_flagged-4.ensures.call (lasts_after c.in_ok-fill_flagged-3.ensures.call (lasts_after c.in_ok-fill_flagged-2.ensures.call (lasts_after c.in_ok-fill_flagged.ensures.call lasts)))))) (λ set. refl);
    })

pub returns-in_err-fill_flagged-8 : goal.returns-in_err-fill_flagged-8
returns-in_err-fill_flagged-8 g c =
    let asked : sample_flags_bits c.sample_type-flags.result ≡ (configuration_of c.args.reader.now.config).sample_type = c.sample_type-flags.ensures ∙ ap (λ k. (configuration_of k).sample_type) c.config.ensures in
    let up : c.from_residual-in_err-fill_flagged-8.result ≡ Err c.in_err-fill_flagged-8.field-0.0 = came_up _ _ c.from_residual-in_err-fill_flagged-8.ensures in rw up (
    record {
      call = of_row _ _ _ (λ t w. tt) (
          flag_after _ _ 16 _ _ refl asked c.in_ok-fill_flagged.ensures.call (λ kept.
          flag_after _ _ 0 _ _ kept asked c.in_ok-fill_flagged-2.ensures.call (λ kept.
          flag_after _ _ 1 _ _ kept asked c.in_ok-fill_flagged-3.ensures.call (λ kept.
          flag_after _ _ 2 _ _ kept asked c.in_ok-fill_flagged-4.ensures.call (λ kept.
          flag_after _ _ 3 _ _ kept asked c.in_ok-fill_flagged-5.ensures.call (λ kept.
          flag_after _ _ 6 _ _ kept asked c.in_ok-fill_flagged-6.ensures.call (λ kept.
          flag_after _ _ 9 _ _ kept asked c.in_ok-fill_flagged-7.ensures.call (λ kept.
          flag_stops _ _ 7 _ _ (λ left m. refl) kept asked c.in_err-fill_flagged-8.ensures.call))))))));
      memory = λ lasts. c.in_err-fill_flagged-8.ensures.memory (lasts_after c.in_ok-fill_flagged-7.ensures.call (lasts_after c.in_ok-fill_flagged-6.ensures.call (lasts_after c.in_ok-fill_flagged-5.ensures.call (lasts_after c.in_ok-fill_flagged-4.ensures.call (lasts_after c.in_ok-fill_flagged-3.ensures.call (lasts_after c.in_ok-fill_flagged-2.ensures.call (lasts_after c.in_ok-fill_flagged.ensures.call lasts))))))) (λ set. refl);
    })

pub returns-in_err-fill_flagged-9 : goal.returns-in_err-fill_flagged-9
returns-in_err-fill_flagged-9 g c =
    let asked : sample_flags_bits c.sample_type-flags.result ≡ (configuration_of c.args.reader.now.config).sample_type = c.sample_type-flags.ensures ∙ ap (λ k. (configuration_of k).sample_type) c.config.ensures in
    let up : c.from_residual-in_err-fill_flagged-9.result ≡ Err c.in_err-fill_flagged-9.field-0.0 = came_up _ _ c.from_residual-in_err-fill_flagged-9.ensures in rw up (
    record {
      call = of_row _ _ _ (λ t w. tt) (
          flag_after _ _ 16 _ _ refl asked c.in_ok-fill_flagged.ensures.call (λ kept.
          flag_after _ _ 0 _ _ kept asked c.in_ok-fill_flagged-2.ensures.call (λ kept.
          flag_after _ _ 1 _ _ kept asked c.in_ok-fill_flagged-3.ensures.call (λ kept.
          flag_after _ _ 2 _ _ kept asked c.in_ok-fill_flagged-4.ensures.call (λ kept.
          flag_after _ _ 3 _ _ kept asked c.in_ok-fill_flagged-5.ensures.call (λ kept.
          flag_after _ _ 6 _ _ kept asked c.in_ok-fill_flagged-6.ensures.call (λ kept.
          flag_after _ _ 9 _ _ kept asked c.in_ok-fill_flagged-7.ensures.call (λ kept.
          flag_after _ _ 7 _ _ kept asked c.in_ok-fill_flagged-8.ensures.call (λ kept.
          flag_stops _ _ 8 _ _ (λ left m. refl) kept asked c.in_err-fill_flagged-9.ensures.call)))))))));
      memory = λ lasts. c.in_err-fill_flagged-9.ensures.memory (lasts_after c.in_ok-fill_flagged-8.ensures.call (lasts_after c.in_ok-fill_flagged-7.ensures.call (lasts_after c.in_ok-fill_flagged-6.ensures.call (lasts_after c.in_ok-fill_flagged-5.ensures.call (lasts_after c.in_ok-fill_flagged-4.ensures.call (lasts_after c.in_ok-fill_flagged-3.ensures.call (lasts_after c.in_ok-fill_flagged-2.ensures.call (lasts_after c.in_ok-fill_flagged.ensures.call lasts)))))))) (λ set. refl);
    })

pub returns : goal.returns
returns g c =
    let asked : sample_flags_bits c.sample_type-flags.result ≡ (configuration_of c.args.reader.now.config).sample_type = c.sample_type-flags.ensures ∙ ap (λ k. (configuration_of k).sample_type) c.config.ensures in
    record {
      call = of_row _ _ _ (λ t w. tt) (
          flag_after _ _ 16 _ _ refl asked c.in_ok-fill_flagged.ensures.call (λ kept.
          flag_after _ _ 0 _ _ kept asked c.in_ok-fill_flagged-2.ensures.call (λ kept.
          flag_after _ _ 1 _ _ kept asked c.in_ok-fill_flagged-3.ensures.call (λ kept.
          flag_after _ _ 2 _ _ kept asked c.in_ok-fill_flagged-4.ensures.call (λ kept.
          flag_after _ _ 3 _ _ kept asked c.in_ok-fill_flagged-5.ensures.call (λ kept.
          flag_after _ _ 6 _ _ kept asked c.in_ok-fill_flagged-6.ensures.call (λ kept.
          flag_after _ _ 9 _ _ kept asked c.in_ok-fill_flagged-7.ensures.call (λ kept.
          flag_after _ _ 7 _ _ kept asked c.in_ok-fill_flagged-8.ensures.call (λ kept.
          flag_after _ _ 8 _ _ kept asked c.in_ok-fill_flagged-9.ensures.call (λ kept.
          fields_give _ _ (λ left m. refl)))))))))));
      memory = λ lasts. tt;
    }
