use Rattle.std.proofs.Common.{◌≡◌, true, ◌++◌, Err, refl, option_map}
use Rattle.perf_counters.proofs.Readings.{came_up}
use Rattle.perf_sample_types.specs.SampleForms.{form_if, raw_form, branches_form, user_form, stack_form}
use Rattle.perf_sample_types.specs.SampleParts.{raw_value, branches_value, user_value, stack_value}
use Rattle.perf_sample_types.proofs.Forms.{all_front, all_second, all_third, all_last, each_stays, values_stay}
use Rattle.perf_sample_types.proofs.sample_groups.State.clone.Goals as goal

pub returns-in_err-raw : goal.returns-in_err-raw
returns-in_err-raw c =
    let up : c.from_residual.result ≡ Err c.in_err-raw.field-0.0 = came_up _ _ c.from_residual.ensures in
    let e = c.in_err-raw.ensures in
    let s = c.args.self.now in rw up (
    record { same = tt; form_is = tt; refused = e.refused; no_memory = λ all. e.no_memory (all_front true (form_if raw_form s.raw) (form_if branches_form s.branches ++ (form_if user_form s.regs_user ++ form_if stack_form s.stack_user)) all) })

pub returns-in_err-branches : goal.returns-in_err-branches
returns-in_err-branches c =
    let up : c.from_residual-in_err-branches.result ≡ Err c.in_err-branches.field-0.0 = came_up _ _ c.from_residual-in_err-branches.ensures in
    let e = c.in_err-branches.ensures in
    let s = c.args.self.now in rw up (
    record { same = tt; form_is = tt; refused = e.refused; no_memory = λ all. e.no_memory (all_second true (form_if raw_form s.raw) (form_if branches_form s.branches) (form_if user_form s.regs_user) (form_if stack_form s.stack_user) all) })

pub returns-in_err-regs_user : goal.returns-in_err-regs_user
returns-in_err-regs_user c =
    let up : c.from_residual-in_err-regs_user.result ≡ Err c.in_err-regs_user.field-0.0 = came_up _ _ c.from_residual-in_err-regs_user.ensures in
    let e = c.in_err-regs_user.ensures in
    let s = c.args.self.now in rw up (
    record { same = tt; form_is = tt; refused = e.refused; no_memory = λ all. e.no_memory (all_third true (form_if raw_form s.raw) (form_if branches_form s.branches) (form_if user_form s.regs_user) (form_if stack_form s.stack_user) all) })

pub returns-in_err-stack_user : goal.returns-in_err-stack_user
returns-in_err-stack_user c =
    let up : c.from_residual-in_err-stack_user.result ≡ Err c.in_err-stack_user.field-0.0 = came_up _ _ c.from_residual-in_err-stack_user.ensures in
    let e = c.in_err-stack_user.ensures in
    let s = c.args.self.now in rw up (
    record { same = tt; form_is = tt; refused = e.refused; no_memory = λ all. e.no_memory (all_last true (form_if raw_form s.raw) (form_if branches_form s.branches) (form_if user_form s.regs_user) (form_if stack_form s.stack_user) all) })

pub returns : goal.returns
returns c =
    let s = c.args.self.now in
    let raw = c.in_ok-raw.ensures in
    let branches = c.in_ok-branches.ensures in
    let user = c.in_ok-regs_user.ensures in
    let stack = c.in_ok-stack_user.ensures in
    record {
      same =
          values_stay (option_map raw_value c.in_ok-raw.raw) (option_map branches_value c.in_ok-branches.branches) (option_map user_value c.in_ok-regs_user.regs_user) (option_map stack_value c.in_ok-stack_user.stack_user)
          (option_map raw_value s.raw) (option_map branches_value s.branches) (option_map user_value s.regs_user) (option_map stack_value s.stack_user)
          raw.same branches.same user.same stack.same;
      form_is =
          each_stays (form_if raw_form c.in_ok-raw.raw) (form_if branches_form c.in_ok-branches.branches) (form_if user_form c.in_ok-regs_user.regs_user) (form_if stack_form c.in_ok-stack_user.stack_user)
          (form_if raw_form s.raw) (form_if branches_form s.branches) (form_if user_form s.regs_user) (form_if stack_form s.stack_user)
          raw.form_is branches.form_is user.form_is stack.form_is;
      refused = tt;
      no_memory = λ all. refl;
    }
