use Rattle.std.proofs.Common.{◌≡◌, true, ◌++◌, Err, refl}
use Rattle.perf_base.specs.Cow.{cow_form}
use Rattle.perf_counters.specs.ReadGroup.{read_group_form}
use Rattle.perf_counters.proofs.Readings.{came_up}
use Rattle.perf_sample_types.specs.SampleForms.{form_if}
use Rattle.perf_sample_types.proofs.Forms.{all_front, all_second, all_third, all_last, each_stays}
use Rattle.perf_sample_types.proofs.sample_fields.SampleFields.clone_trace.Goals as goal

pub returns-in_err-values : goal.returns-in_err-values
returns-in_err-values c =
    let up : c.from_residual.result ≡ Err c.in_err-values.field-0.0 = came_up _ _ c.from_residual.ensures in
    let e = c.in_err-values.ensures in
    let s = c.args.self.now in rw up (
    record { same = tt; form_is = tt; refused = e.refused; no_memory = λ all. e.no_memory (all_front true (form_if read_group_form s.values) (form_if cow_form s.callchain ++ (form_if cow_form s.raw ++ form_if cow_form s.lbr)) all) })

pub returns-in_err-callchain : goal.returns-in_err-callchain
returns-in_err-callchain c =
    let up : c.from_residual-in_err-callchain.result ≡ Err c.in_err-callchain.field-0.0 = came_up _ _ c.from_residual-in_err-callchain.ensures in
    let e = c.in_err-callchain.ensures in
    let s = c.args.self.now in rw up (
    record { same = tt; form_is = tt; refused = e.refused; no_memory = λ all. e.no_memory (all_second true (form_if read_group_form s.values) (form_if cow_form s.callchain) (form_if cow_form s.raw) (form_if cow_form s.lbr) all) })

pub returns-in_err-raw : goal.returns-in_err-raw
returns-in_err-raw c =
    let up : c.from_residual-in_err-raw.result ≡ Err c.in_err-raw.field-0.0 = came_up _ _ c.from_residual-in_err-raw.ensures in
    let e = c.in_err-raw.ensures in
    let s = c.args.self.now in rw up (
    record { same = tt; form_is = tt; refused = e.refused; no_memory = λ all. e.no_memory (all_third true (form_if read_group_form s.values) (form_if cow_form s.callchain) (form_if cow_form s.raw) (form_if cow_form s.lbr) all) })

pub returns-in_err-lbr : goal.returns-in_err-lbr
returns-in_err-lbr c =
    let up : c.from_residual-in_err-lbr.result ≡ Err c.in_err-lbr.field-0.0 = came_up _ _ c.from_residual-in_err-lbr.ensures in
    let e = c.in_err-lbr.ensures in
    let s = c.args.self.now in rw up (
    record { same = tt; form_is = tt; refused = e.refused; no_memory = λ all. e.no_memory (all_last true (form_if read_group_form s.values) (form_if cow_form s.callchain) (form_if cow_form s.raw) (form_if cow_form s.lbr) all) })

pub returns : goal.returns
returns c =
    let s = c.args.self.now in
    record {
      same = rw (c.in_ok-values.ensures.same, c.in_ok-callchain.ensures.same, c.in_ok-raw.ensures.same, c.in_ok-lbr.ensures.same) refl;
      form_is =
          each_stays (form_if read_group_form c.in_ok-values.values) (form_if cow_form c.in_ok-callchain.callchain) (form_if cow_form c.in_ok-raw.raw) (form_if cow_form c.in_ok-lbr.lbr)
          (form_if read_group_form s.values) (form_if cow_form s.callchain) (form_if cow_form s.raw) (form_if cow_form s.lbr)
          c.in_ok-values.ensures.form_is c.in_ok-callchain.ensures.form_is c.in_ok-raw.ensures.form_is c.in_ok-lbr.ensures.form_is;
      refused = tt;
      no_memory = λ all. refl;
    }
