use Rattle.std.proofs.Common.{◌≡◌, true, [], ◌++◌, Err, refl, ◌∙◌, ap}
use Rattle.perf_counters.proofs.Readings.{came_up}
use Rattle.perf_sample_types.specs.Sample.{SampleValue}
use Rattle.perf_sample_types.specs.SampleForms.{counts_form, state_form, costs_form, memory_form}
use Rattle.perf_sample_types.specs.SampleGroups.{moment_value, counts_value, state_value, costs_value, memory_value}
use Rattle.perf_sample_types.proofs.Forms.{all_front, all_second, all_third, all_last, each_stays}
use Rattle.perf_sample_types.proofs.sample.Sample.clone.Goals as goal

pub returns-in_err-memory : goal.returns-in_err-memory
returns-in_err-memory c =
    let up : c.from_residual.result ≡ Err c.in_err-memory.field-0.0 = came_up _ _ c.from_residual.ensures in
    let e = c.in_err-memory.ensures in
    let s = c.args.self.now in rw up (
    record { same = tt; form_is = tt; refused = e.refused; no_memory = λ all. e.no_memory (all_last true (counts_form s.counts) (state_form s.state) (costs_form s.costs) (memory_form s.memory) all) })

pub returns-in_err-costs : goal.returns-in_err-costs
returns-in_err-costs c =
    let up : c.from_residual-in_err-costs.result ≡ Err c.in_err-costs.field-0.0 = came_up _ _ c.from_residual-in_err-costs.ensures in
    let e = c.in_err-costs.ensures in
    let s = c.args.self.now in rw up (
    record { same = tt; form_is = tt; refused = e.refused; no_memory = λ all. e.no_memory (all_third true (counts_form s.counts) (state_form s.state) (costs_form s.costs) (memory_form s.memory) all) })

pub returns-in_err-counts : goal.returns-in_err-counts
returns-in_err-counts c =
    let up : c.from_residual-in_err-counts.result ≡ Err c.in_err-counts.field-0.0 = came_up _ _ c.from_residual-in_err-counts.ensures in
    let e = c.in_err-counts.ensures in
    let s = c.args.self.now in rw up (
    record { same = tt; form_is = tt; refused = e.refused; no_memory = λ all. e.no_memory (all_front true (counts_form s.counts) (state_form s.state ++ (costs_form s.costs ++ memory_form s.memory)) all) })

pub returns-in_err-state : goal.returns-in_err-state
returns-in_err-state c =
    let up : c.from_residual-in_err-state.result ≡ Err c.in_err-state.field-0.0 = came_up _ _ c.from_residual-in_err-state.ensures in
    let e = c.in_err-state.ensures in
    let s = c.args.self.now in rw up (
    record { same = tt; form_is = tt; refused = e.refused; no_memory = λ all. e.no_memory (all_second true (counts_form s.counts) (state_form s.state) (costs_form s.costs) (memory_form s.memory) all) })

pub returns : goal.returns
returns c =
    let s = c.args.self.now in
    let counts = c.in_ok-counts.ensures in
    let state = c.in_ok-state.ensures in
    let costs = c.in_ok-costs.ensures in
    let memory = c.in_ok-memory.ensures in
    let groups : SampleValue → SampleValue = λ vs. vs ++ (counts_value c.in_ok-counts.counts ++ (state_value c.in_ok-state.state ++ (costs_value c.in_ok-costs.costs ++ (memory_value c.in_ok-memory.memory ++ [])))) in
    record {
      same =
          ap groups c.copy.ensures
          ∙ ap (λ vs. moment_value s.moment ++ vs)
          (each_stays (counts_value c.in_ok-counts.counts) (state_value c.in_ok-state.state) (costs_value c.in_ok-costs.costs) (memory_value c.in_ok-memory.memory ++ [])
          (counts_value s.counts) (state_value s.state) (costs_value s.costs) (memory_value s.memory ++ [])
          counts.same state.same costs.same (ap (λ vs. vs ++ []) memory.same));
      form_is =
          each_stays (counts_form c.in_ok-counts.counts) (state_form c.in_ok-state.state) (costs_form c.in_ok-costs.costs) (memory_form c.in_ok-memory.memory)
          (counts_form s.counts) (state_form s.state) (costs_form s.costs) (memory_form s.memory)
          counts.form_is state.form_is costs.form_is memory.form_is;
      refused = tt;
      no_memory = λ all. refl;
    }
