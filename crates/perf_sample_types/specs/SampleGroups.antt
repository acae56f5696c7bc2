-- The values of the groups of a sample of the code, field by field.
use Rattle.std.specs.Prelude.{[], ◌∷◌, ◌++◌, option_map, IfSome, IsTrue}
use Rattle.perf_base.specs.Cow.{is_borrowed}
use Rattle.perf_sample_types.specs.Sample.{number_is, SampleValue}
use Rattle.perf_sample_types.specs.SampleParts as parts
use Rattle.perf_sample_types.specs.declared.sample_groups.Moment.{Moment}
use Rattle.perf_sample_types.specs.declared.sample_groups.Counts.{Counts}
use Rattle.perf_sample_types.specs.declared.sample_groups.State.{State}
use Rattle.perf_sample_types.specs.declared.sample_groups.Costs.{Costs}
use Rattle.perf_sample_types.specs.declared.sample_groups.Memory.{Memory}
use Rattle.perf_sample_types.specs.declared.sample.Sample.{Sample}

-- when and where it happened, and which event it was
abbrev pub moment_value : Moment → SampleValue
moment_value m =
    option_map number_is m.identifier ∷
    option_map number_is m.ip ∷
    option_map parts.task_value m.task ∷
    option_map number_is m.time ∷
    option_map number_is m.addr ∷
    option_map number_is m.id ∷
    option_map number_is m.stream_id ∷
    option_map parts.cpu_value m.cpu ∷
    option_map number_is m.period ∷
    []

-- the counters that were read, and the call chain
abbrev pub counts_value : Counts → SampleValue
counts_value c =
    option_map parts.group_value c.values ∷
    option_map parts.call_chain_value c.call_chain ∷
    []

-- the state of event, processor and task
abbrev pub state_value : State → SampleValue
state_value s =
    option_map parts.raw_value s.raw ∷
    option_map parts.branches_value s.branches ∷
    option_map parts.user_value s.regs_user ∷
    option_map parts.stack_value s.stack_user ∷
    []

-- what it cost
abbrev pub costs_value : Costs → SampleValue
costs_value c =
    option_map number_is c.weight ∷
    option_map number_is c.data_src ∷
    option_map parts.transaction_value c.transaction ∷
    option_map parts.interrupt_value c.regs_intr ∷
    []

-- in which memory it happened
abbrev pub memory_value : Memory → SampleValue
memory_value m =
    option_map number_is m.phys_addr ∷
    option_map number_is m.cgroup ∷
    option_map number_is m.data_page_size ∷
    option_map number_is m.code_page_size ∷
    option_map parts.aux_area_value m.aux ∷
    []

-- no byte of the raw bytes and of the stack was copied
abbrev pub IsBorrowedState : State → Type 0
IsBorrowedState s =
    IfSome s.raw (λ raw. IsTrue (is_borrowed raw.0))
    × IfSome s.stack_user (λ stack. IsTrue (is_borrowed stack.0))

-- no byte of the AUX area was copied
abbrev pub IsBorrowedMemory : Memory → Type 0
IsBorrowedMemory m = IfSome m.aux (λ aux. IsTrue (is_borrowed aux.0))

-- ---- a whole sample

-- the fields of all groups
abbrev pub sample_value : Sample → SampleValue
sample_value s =
    moment_value s.moment
    ++ (counts_value s.counts
    ++ (state_value s.state ++ (costs_value s.costs ++ (memory_value s.memory ++ []))))

-- no byte of it was copied
abbrev pub IsBorrowedSample : Sample → Type 0
IsBorrowedSample s = IsBorrowedState s.state × IsBorrowedMemory s.memory
