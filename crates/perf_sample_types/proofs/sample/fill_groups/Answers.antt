use Rattle.std.proofs.Common.{◌≡◌, Err, refl, subst, sym, ◌∙◌}
use Rattle.std.specs.Prelude.{IsTrue}
use Rattle.perf_base.specs.Configured.{configuration_of}
use Rattle.perf_counters.proofs.Readings.{came_up}
use Rattle.perf_sample_types.specs.SampleMemory.{HasNoLists}
use Rattle.perf_sample_types.proofs.ListFlags.{lasts_after}
use Rattle.perf_sample_types.proofs.GroupRuns.{group_after, group_stops, groups_give, of_groups}
use Rattle.perf_sample_types.proofs.sample.fill_groups.Goals as goal

pub returns-in_err-fill : goal.returns-in_err-fill
returns-in_err-fill g c =
    let up : c.from_residual.result ≡ Err c.in_err-fill.field-0.0 = came_up _ _ c.from_residual.ensures in rw up (
    record {
      call = of_groups _ _ (λ t w. tt) (
          group_stops _ _ _ _ (λ left m. refl) c.in_err-fill.ensures.call);
      memory = λ lasts none. c.in_err-fill.ensures.memory lasts;
    })

pub returns-in_err-fill-2 : goal.returns-in_err-fill-2
returns-in_err-fill-2 g c =
    let up : c.from_residual-in_err-fill-2.result ≡ Err c.in_err-fill-2.field-0.0 = came_up _ _ c.from_residual-in_err-fill-2.ensures in rw up (
    record {
      call = of_groups _ _ (λ t w. tt) (
          group_after _ _ _ _ c.in_ok-fill.ensures.call (
          group_stops _ _ _ _ (λ left m. refl) c.in_err-fill-2.ensures.call));
      memory = λ lasts none. c.in_err-fill-2.ensures.memory (lasts_after c.in_ok-fill.ensures.call lasts) (subst (λ k. HasNoLists (configuration_of k)) (sym (c.in_ok-fill.ensures.call.config)) none);
    })

pub returns-in_err-fill-3 : goal.returns-in_err-fill-3
returns-in_err-fill-3 g c =
    let up : c.from_residual-in_err-fill-3.result ≡ Err c.in_err-fill-3.field-0.0 = came_up _ _ c.from_residual-in_err-fill-3.ensures in rw up (
    record {
      call = of_groups _ _ (λ t w. tt) (
          group_after _ _ _ _ c.in_ok-fill.ensures.call (
          group_after _ _ _ _ c.in_ok-fill-2.ensures.call (
          group_stops _ _ _ _ (λ left m. refl) c.in_err-fill-3.ensures.call)));
      memory = λ lasts none. c.in_err-fill-3.ensures.memory (lasts_after c.in_ok-fill-2.ensures.call (lasts_after c.in_ok-fill.ensures.call lasts)) (subst (λ k. HasNoLists (configuration_of k)) (sym (c.in_ok-fill-2.ensures.call.config ∙ c.in_ok-fill.ensures.call.config)) none);
    })

pub returns-in_err-fill-4 : goal.returns-in_err-fill-4
returns-in_err-fill-4 g c =
    let up : c.from_residual-in_err-fill-4.result ≡ Err c.in_err-fill-4.field-0.0 = came_up _ _ c.from_residual-in_err-fill-4.ensures in rw up (
    record {
      call = of_groups _ _ (λ t w. tt) (
          group_after _ _ _ _ c.in_ok-fill.ensures.call (
          group_after _ _ _ _ c.in_ok-fill-2.ensures.call (
          group_after _ _ _ _ c.in_ok-fill-3.ensures.call (
          group_stops _ _ _ _ (λ left m. refl) c.in_err-fill-4.ensures.call))));
      memory = λ lasts none. c.in_err-fill-4.ensures.memory (lasts_after c.in_ok-fill-3.ensures.call (lasts_after c.in_ok-fill-2.ensures.call (lasts_after c.in_ok-fill.ensures.call lasts))) (subst (λ k. HasNoLists (configuration_of k)) (sym (c.in_ok-fill-3.ensures.call.config ∙ c.in_ok-fill-2.ensures.call.config ∙ c.in_ok-fill.ensures.call.config)) none);
    })

pub returns-in_err-fill-5 : goal.returns-in_err-fill-5
returns-in_err-fill-5 g c =
    let up : c.from_residual-in_err-fill-5.result ≡ Err c.in_err-fill-5.field-0.0 = came_up _ _ c.from_residual-in_err-fill-5.ensures in rw up (
    record {
      call = of_groups _ _ (λ t w. tt) (
          group_after _ _ _ _ c.in_ok-fill.ensures.call (
          group_after _ _ _ _ c.in_ok-fill-2.ensures.call (
          group_after _ _ _ _ c.in_ok-fill-3.ensures.call (
          group_after _ _ _ _ c.in_ok-fill-4.ensures.call (
          group_stops _ _ _ _ (λ left m. refl) c.in_err-fill-5.ensures.call)))));
      memory = λ lasts none. c.in_err-fill-5.ensures.memory (lasts_after c.in_ok-fill-4.ensures.call (lasts_after c.in_ok-fill-3.ensures.call (lasts_after c.in_ok-fill-2.ensures.call (lasts_after c.in_ok-fill.ensures.call lasts))));
    })

pub returns : goal.returns
returns g c =
    record {
      call = of_groups _ _ (λ t w. ((c.in_ok-fill-3.ensures.call.answer (c.in_ok-fill-2.ensures.call.told (c.in_ok-fill.ensures.call.told t))).1 (subst IsTrue (sym c.in_ok-fill-2.ensures.call.whole) (subst IsTrue (sym c.in_ok-fill.ensures.call.whole) w)), (c.in_ok-fill-5.ensures.call.answer (c.in_ok-fill-4.ensures.call.told (c.in_ok-fill-3.ensures.call.told (c.in_ok-fill-2.ensures.call.told (c.in_ok-fill.ensures.call.told t))))).1 (subst IsTrue (sym c.in_ok-fill-4.ensures.call.whole) (subst IsTrue (sym c.in_ok-fill-3.ensures.call.whole) (subst IsTrue (sym c.in_ok-fill-2.ensures.call.whole) (subst IsTrue (sym c.in_ok-fill.ensures.call.whole) w)))))) (
          group_after _ _ _ _ c.in_ok-fill.ensures.call (
          group_after _ _ _ _ c.in_ok-fill-2.ensures.call (
          group_after _ _ _ _ c.in_ok-fill-3.ensures.call (
          group_after _ _ _ _ c.in_ok-fill-4.ensures.call (
          group_after _ _ _ _ c.in_ok-fill-5.ensures.call (
          groups_give _ _ (λ left m. refl)))))));
      memory = λ lasts none. tt;
    }
