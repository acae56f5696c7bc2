-- Which lists of a sample of the code are borrowed, in the order of its fields. An absent field has
-- none.
use Rattle.std.specs.Prelude.{Bool, List, [], ◌++◌, Option, Some, None}
pub use Rattle.perf_base.specs.Cow.{cow_form}
use Rattle.perf_counters.specs.ReadGroup.{read_group_form}
pub use Rattle.perf_sample_types.specs.Registers.{registers_form}
use Rattle.perf_sample_types.specs.declared.sample_parts.CallChain.{CallChain}
use Rattle.perf_sample_types.specs.declared.sample_parts.RawData.{RawData}
use Rattle.perf_sample_types.specs.declared.sample_parts.Branches.{Branches}
use Rattle.perf_sample_types.specs.declared.sample_parts.Stack.{Stack}
use Rattle.perf_sample_types.specs.declared.sample_parts.AuxBytes.{AuxBytes}
use Rattle.perf_sample_types.specs.declared.sample_parts.UserRegisters.{UserRegisters}
use Rattle.perf_sample_types.specs.declared.sample_parts.InterruptRegisters.{InterruptRegisters}
use Rattle.perf_sample_types.specs.declared.sample_groups.Counts.{Counts}
use Rattle.perf_sample_types.specs.declared.sample_groups.State.{State}
use Rattle.perf_sample_types.specs.declared.sample_groups.Costs.{Costs}
use Rattle.perf_sample_types.specs.declared.sample_groups.Memory.{Memory}
use Rattle.perf_sample_types.specs.declared.sample.Sample.{Sample}
use Rattle.perf_sample_types.specs.declared.sample_fields.SampleFields.{SampleFields}

-- the form of what may be absent
abbrev pub form_if : {T : Type 0} → (T → List Bool) → Option T → List Bool
form_if form None = []
form_if form (Some value) = form value

-- ---- fields

-- whether a call chain is borrowed
abbrev pub call_chain_form : CallChain → List Bool
call_chain_form c = cow_form c.0

-- whether raw bytes are borrowed
abbrev pub raw_form : RawData → List Bool
raw_form r = cow_form r.0

-- whether branches are borrowed
abbrev pub branches_form : Branches → List Bool
branches_form b = form_if cow_form b.entries

-- whether a stack is borrowed
abbrev pub stack_form : Stack → List Bool
stack_form s = cow_form s.0

-- whether bytes of the AUX area are borrowed
abbrev pub aux_form : AuxBytes → List Bool
aux_form a = cow_form a.0

-- whether registers of the task's user-space code are borrowed
abbrev pub user_form : UserRegisters → List Bool
user_form r = registers_form r.0

-- whether registers at the interrupt are borrowed
abbrev pub interrupt_form : InterruptRegisters → List Bool
interrupt_form r = registers_form r.0

-- ---- groups of fields

-- the counters and the call chain
abbrev pub counts_form : Counts → List Bool
counts_form c = form_if read_group_form c.values ++ form_if call_chain_form c.call_chain

-- the state of event, processor and task
abbrev pub state_form : State → List Bool
state_form s =
    form_if raw_form s.raw
    ++ (form_if branches_form s.branches
    ++ (form_if user_form s.regs_user ++ form_if stack_form s.stack_user))

-- the registers at the interrupt
abbrev pub costs_form : Costs → List Bool
costs_form c = form_if interrupt_form c.regs_intr

-- the bytes of the AUX area
abbrev pub memory_form : Memory → List Bool
memory_form m = form_if aux_form m.aux

-- ---- whole samples

-- the lists of all groups
abbrev pub sample_form : Sample → List Bool
sample_form s =
    counts_form s.counts ++ (state_form s.state ++ (costs_form s.costs ++ memory_form s.memory))

-- the lists of fields by name
abbrev pub fields_form : SampleFields → List Bool
fields_form f =
    form_if read_group_form f.values
    ++ (form_if cow_form f.callchain
    ++ (form_if cow_form f.raw
    ++ (form_if cow_form f.lbr
    ++ (form_if registers_form f.regs_user
    ++ (form_if cow_form f.stack_user
    ++ (form_if registers_form f.regs_intr ++ form_if cow_form f.aux))))))
