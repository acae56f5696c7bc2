use Rattle.std.proofs.Common.{◌≡◌, true, ◌++◌, Err, refl}
use Rattle.perf_base.specs.Cow.{cow_form}
use Rattle.perf_sample_types.specs.Registers.{registers_form}
use Rattle.perf_counters.proofs.Readings.{came_up}
use Rattle.perf_sample_types.specs.SampleForms.{form_if}
use Rattle.perf_sample_types.proofs.Forms.{all_front, all_second, all_third, all_last, each_stays}
use Rattle.perf_sample_types.proofs.sample_fields.SampleFields.clone_content.Goals as goal

pub returns-in_err-regs_user : goal.returns-in_err-regs_user
returns-in_err-regs_user c =
    let up : c.from_residual.result ≡ Err c.in_err-regs_user.field-0.0 = came_up _ _ c.from_residual.ensures in
    let e = c.in_err-regs_user.ensures in
    let s = c.args.self.now in rw up (
    record { same = tt; form_is = tt; refused = e.refused; no_memory = λ all. e.no_memory (all_front true (form_if registers_form s.regs_user) (form_if cow_form s.stack_user ++ (form_if registers_form s.regs_intr ++ form_if cow_form s.aux)) all) })

pub returns-in_err-stack_user : goal.returns-in_err-stack_user
returns-in_err-stack_user c =
    let up : c.from_residual-in_err-stack_user.result ≡ Err c.in_err-stack_user.field-0.0 = came_up _ _ c.from_residual-in_err-stack_user.ensures in
    let e = c.in_err-stack_user.ensures in
    let s = c.args.self.now in rw up (
    record { same = tt; form_is = tt; refused = e.refused; no_memory = λ all. e.no_memory (all_second true (form_if registers_form s.regs_user) (form_if cow_form s.stack_user) (form_if registers_form s.regs_intr) (form_if cow_form s.aux) all) })

pub returns-in_err-regs_intr : goal.returns-in_err-regs_intr
returns-in_err-regs_intr c =
    let up : c.from_residual-in_err-regs_intr.result ≡ Err c.in_err-regs_intr.field-0.0 = came_up _ _ c.from_residual-in_err-regs_intr.ensures in
    let e = c.in_err-regs_intr.ensures in
    let s = c.args.self.now in rw up (
    record { same = tt; form_is = tt; refused = e.refused; no_memory = λ all. e.no_memory (all_third true (form_if registers_form s.regs_user) (form_if cow_form s.stack_user) (form_if registers_form s.regs_intr) (form_if cow_form s.aux) all) })

pub returns-in_err-aux : goal.returns-in_err-aux
returns-in_err-aux c =
    let up : c.from_residual-in_err-aux.result ≡ Err c.in_err-aux.field-0.0 = came_up _ _ c.from_residual-in_err-aux.ensures in
    let e = c.in_err-aux.ensures in
    let s = c.args.self.now in rw up (
    record { same = tt; form_is = tt; refused = e.refused; no_memory = λ all. e.no_memory (all_last true (form_if registers_form s.regs_user) (form_if cow_form s.stack_user) (form_if registers_form s.regs_intr) (form_if cow_form s.aux) all) })

pub returns : goal.returns
returns c =
    let s = c.args.self.now in
    record {
      same = rw (c.in_ok-regs_user.ensures.same, c.in_ok-stack_user.ensures.same, c.in_ok-regs_intr.ensures.same, c.in_ok-aux.ensures.same) refl;
      form_is =
          each_stays (form_if registers_form c.in_ok-regs_user.regs_user) (form_if cow_form c.in_ok-stack_user.stack_user) (form_if registers_form c.in_ok-regs_intr.regs_intr) (form_if cow_form c.in_ok-aux.aux)
          (form_if registers_form s.regs_user) (form_if cow_form s.stack_user) (form_if registers_form s.regs_intr) (form_if cow_form s.aux)
          c.in_ok-regs_user.ensures.form_is c.in_ok-stack_user.ensures.form_is c.in_ok-regs_intr.ensures.form_is c.in_ok-aux.ensures.form_is;
      refused = tt;
      no_memory = λ all. refl;
    }
