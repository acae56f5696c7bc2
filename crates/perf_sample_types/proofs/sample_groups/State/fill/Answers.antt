use Rattle.std.proofs.Common.{◌≡◌, Err, ap, refl, subst, sym, ◌∙◌}
use Rattle.std.specs.Prelude.{IsTrue}
use Rattle.perf_words.specs.SetBits.{sample_flags_bits}
use Rattle.perf_base.specs.Configured.{configuration_of}
use Rattle.perf_reader.proofs.RequestedParts.{fields_give, of_row}
use Rattle.perf_counters.proofs.Readings.{came_up}
use Rattle.perf_sample_types.proofs.AbsentGroups.{absent_state}
use Rattle.perf_sample_types.proofs.FlaggedFields.{flag_after, flag_stops}
use Rattle.perf_sample_types.proofs.ListFlags.{lasts_after, no_branches, no_regs_user}
use Rattle.perf_sample_types.proofs.sample_groups.State.fill.Goals as goal

-- no field is present
pub returns-then-lacks_all : goal.returns-then-lacks_all
returns-then-lacks_all g c =
    let asked : sample_flags_bits c.sample_type-flags.result ≡ (configuration_of c.args.reader.now.config).sample_type = c.sample_type-flags.ensures ∙ ap (λ k. (configuration_of k).sample_type) c.config.ensures in rw c.clear.ensures (
    record { memory = λ lasts none. tt; call = absent_state _ asked c.lacks_all.ensures c.if-lacks_all.true })

pub returns-in_err-fill_flagged : goal.returns-in_err-fill_flagged
returns-in_err-fill_flagged g c =
    let asked : sample_flags_bits c.sample_type-flags.result ≡ (configuration_of c.args.reader.now.config).sample_type = c.sample_type-flags.ensures ∙ ap (λ k. (configuration_of k).sample_type) c.config.ensures in
    let up : c.from_residual.result ≡ Err c.in_err-fill_flagged.field-0.0 = came_up _ _ c.from_residual.ensures in rw up (
    record {
      call = of_row _ _ _ (λ t w. tt) (
          flag_stops _ _ 10 _ _ (λ left m. refl) refl asked c.in_err-fill_flagged.ensures.call);
      memory = λ lasts none. c.in_err-fill_flagged.ensures.memory lasts (λ set. refl);
    })

pub returns-in_err-fill_flagged-2 : goal.returns-in_err-fill_flagged-2
returns-in_err-fill_flagged-2 g c =
    let asked : sample_flags_bits c.sample_type-flags.result ≡ (configuration_of c.args.reader.now.config).sample_type = c.sample_type-flags.ensures ∙ ap (λ k. (configuration_of k).sample_type) c.config.ensures in
    let up : c.from_residual-in_err-fill_flagged-2.result ≡ Err c.in_err-fill_flagged-2.field-0.0 = came_up _ _ c.from_residual-in_err-fill_flagged-2.ensures in rw up (
    record {
      call = of_row _ _ _ (λ t w. tt) (
          flag_after _ _ 10 _ _ refl asked c.in_ok-fill_flagged.ensures.call (λ kept.
          flag_stops _ _ 11 _ _ (λ left m. refl) kept asked c.in_err-fill_flagged-2.ensures.call));
      memory = λ lasts none. c.in_err-fill_flagged-2.ensures.memory (lasts_after c.in_ok-fill_flagged.ensures.call lasts) (no_branches asked none);
    })

pub returns-in_err-fill_flagged-3 : goal.returns-in_err-fill_flagged-3
returns-in_err-fill_flagged-3 g c =
    let asked : sample_flags_bits c.sample_type-flags.result ≡ (configuration_of c.args.reader.now.config).sample_type = c.sample_type-flags.ensures ∙ ap (λ k. (configuration_of k).sample_type) c.config.ensures in
    let up : c.from_residual-in_err-fill_flagged-3.result ≡ Err c.in_err-fill_flagged-3.field-0.0 = came_up _ _ c.from_residual-in_err-fill_flagged-3.ensures in rw up (
    record {
      call = of_row _ _ _ (λ t w. tt) (
          flag_after _ _ 10 _ _ refl asked c.in_ok-fill_flagged.ensures.call (λ kept.
          flag_after _ _ 11 _ _ kept asked c.in_ok-fill_flagged-2.ensures.call (λ kept.
          flag_stops _ _ 12 _ _ (λ left m. refl) kept asked c.in_err-fill_flagged-3.ensures.call)));
      memory = λ lasts none. c.in_err-fill_flagged-3.ensures.memory (lasts_after c.in_ok-fill_flagged-2.ensures.call (lasts_after c.in_ok-fill_flagged.ensures.call lasts)) (no_regs_user asked none);
    })

pub returns-in_err-fill_flagged-4 : goal.returns-in_err-fill_flagged-4
returns-in_err-fill_flagged-4 g c =
    let asked : sample_flags_bits c.sample_type-flags.result ≡ (configuration_of c.args.reader.now.config).sample_type = c.sample_type-flags.ensures ∙ ap (λ k. (configuration_of k).sample_type) c.config.ensures in
    let up : c.from_residual-in_err-fill_flagged-4.result ≡ Err c.in_err-fill_flagged-4.field-0.0 = came_up _ _ c.from_residual-in_err-fill_flagged-4.ensures in rw up (
    record {
      call = of_row _ _ _ (λ t w. tt) (
          flag_after _ _ 10 _ _ refl asked c.in_ok-fill_flagged.ensures.call (λ kept.
          flag_after _ _ 11 _ _ kept asked c.in_ok-fill_flagged-2.ensures.call (λ kept.
          flag_after _ _ 12 _ _ kept asked c.in_ok-fill_flagged-3.ensures.call (λ kept.
          flag_stops _ _ 13 _ _ (λ left m. refl) kept asked c.in_err-fill_flagged-4.ensures.call))));
      memory = λ lasts none. c.in_err-fill_flagged-4.ensures.memory (lasts_after c.in_ok-fill_flagged-3.ensures.call (lasts_after c.in_ok-fill_flagged-2.ensures.call (lasts_after c.in_ok-fill_flagged.ensures.call lasts))) (λ set. refl);
    })

pub returns : goal.returns
returns g c =
    let asked : sample_flags_bits c.sample_type-flags.result ≡ (configuration_of c.args.reader.now.config).sample_type = c.sample_type-flags.ensures ∙ ap (λ k. (configuration_of k).sample_type) c.config.ensures in
    record {
      call = of_row _ _ _ (λ t w. ((c.in_ok-fill_flagged.ensures.call.answer t).1 w, (c.in_ok-fill_flagged-4.ensures.call.answer (c.in_ok-fill_flagged-3.ensures.call.told (c.in_ok-fill_flagged-2.ensures.call.told (c.in_ok-fill_flagged.ensures.call.told t)))).1 (subst IsTrue (sym c.in_ok-fill_flagged-3.ensures.call.whole) (subst IsTrue (sym c.in_ok-fill_flagged-2.ensures.call.whole) (subst IsTrue (sym c.in_ok-fill_flagged.ensures.call.whole) w))))) (
          flag_after _ _ 10 _ _ refl asked c.in_ok-fill_flagged.ensures.call (λ kept.
          flag_after _ _ 11 _ _ kept asked c.in_ok-fill_flagged-2.ensures.call (λ kept.
          flag_after _ _ 12 _ _ kept asked c.in_ok-fill_flagged-3.ensures.call (λ kept.
          flag_after _ _ 13 _ _ kept asked c.in_ok-fill_flagged-4.ensures.call (λ kept.
          fields_give _ _ (λ left m. refl))))));
      memory = λ lasts none. tt;
    }
