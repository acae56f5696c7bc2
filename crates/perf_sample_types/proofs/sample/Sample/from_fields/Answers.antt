use Rattle.perf_counters.specs.ReadGroup.{read_group_form}
use Rattle.perf_base.specs.Cow.{cow_form}
use Rattle.perf_sample_types.specs.Registers.{registers_form}
use Rattle.perf_sample_types.specs.SampleForms.{form_if, call_chain_form, raw_form, branches_form, user_form, stack_form, interrupt_form, aux_form}
use Rattle.perf_sample_types.proofs.Forms.{groups_in_a_row}
use Rattle.perf_sample_types.proofs.sample.Sample.from_fields.Goals as goal

pub returns-clause-form : goal.returns-clause-form
returns-clause-form c = λ all. ((c.raw_of.ensures.form all.0, c.stack_of.ensures.form all.1), c.aux_of.ensures.form all.2)

pub returns-clause-lists : goal.returns-clause-lists
returns-clause-lists c =
    let f = c.args.fields in
    groups_in_a_row (form_if read_group_form f.values) (form_if call_chain_form c.call_chain_of.result) (form_if raw_form c.raw_of.result) (form_if branches_form c.branches_of.result) (form_if user_form c.user_registers_of.result) (form_if stack_form c.stack_of.result) (form_if interrupt_form c.interrupt_registers_of.result) (form_if aux_form c.aux_of.result)
    (form_if cow_form f.callchain) (form_if cow_form f.raw) (form_if cow_form f.lbr) (form_if registers_form f.regs_user) (form_if cow_form f.stack_user) (form_if registers_form f.regs_intr) (form_if cow_form f.aux)
    c.call_chain_of.ensures.lists c.raw_of.ensures.lists c.branches_of.ensures.lists c.user_registers_of.ensures.lists c.stack_of.ensures.lists c.interrupt_registers_of.ensures.lists c.aux_of.ensures.lists
