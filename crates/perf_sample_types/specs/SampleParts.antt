-- The value of a field of a sample of the code, wherever its bytes and numbers are stored.
use Rattle.std.specs.Prelude.{option_map}
use Rattle.perf_base.specs.Cow.{cow_items}
use Rattle.perf_counters.specs.ReadGroup.{group_read}
use Rattle.perf_sample_types.specs.Registers.{registers_value}
use Rattle.perf_sample_types.specs.Sample.{FieldValue, number_is, task_is, group_is, numbers_are, bytes_are}
use Rattle.perf_sample_types.specs.Sample.{branches_are, registers_are}
use Rattle.perf_words.specs.SetBits.{txn_bits}
use Rattle.perf_words.specs.declared.data_source.Txn.{Txn}
use Rattle.perf_counters.specs.declared.read_group.ReadGroup.{ReadGroup}
use Rattle.perf_sample_types.specs.declared.sample_parts.Task.{Task}
use Rattle.perf_sample_types.specs.declared.sample_parts.Cpu.{Cpu}
use Rattle.perf_sample_types.specs.declared.sample_parts.CallChain.{CallChain}
use Rattle.perf_sample_types.specs.declared.sample_parts.RawData.{RawData}
use Rattle.perf_sample_types.specs.declared.sample_parts.Branches.{Branches}
use Rattle.perf_sample_types.specs.declared.sample_parts.Stack.{Stack}
use Rattle.perf_sample_types.specs.declared.sample_parts.AuxBytes.{AuxBytes}
use Rattle.perf_sample_types.specs.declared.sample_parts.UserRegisters.{UserRegisters}
use Rattle.perf_sample_types.specs.declared.sample_parts.InterruptRegisters.{InterruptRegisters}

-- a process and its thread
abbrev pub task_value : Task → FieldValue
task_value t = task_is t.pid t.tid

-- a processor
abbrev pub cpu_value : Cpu → FieldValue
cpu_value c = number_is c.0

-- what a memory transaction did
abbrev pub transaction_value : Txn → FieldValue
transaction_value t = number_is (txn_bits t)

-- a read of counters
abbrev pub group_value : ReadGroup → FieldValue
group_value g = group_is (group_read g)

-- a call chain
abbrev pub call_chain_value : CallChain → FieldValue
call_chain_value c = numbers_are (cow_items c.0)

-- raw bytes
abbrev pub raw_value : RawData → FieldValue
raw_value r = bytes_are (cow_items r.0)

-- branches
abbrev pub branches_value : Branches → FieldValue
branches_value b = branches_are b.hw_index (option_map cow_items b.entries)

-- a stack
abbrev pub stack_value : Stack → FieldValue
stack_value s = bytes_are (cow_items s.0)

-- bytes of the AUX area
abbrev pub aux_area_value : AuxBytes → FieldValue
aux_area_value a = bytes_are (cow_items a.0)

-- registers of the task's user-space code
abbrev pub user_value : UserRegisters → FieldValue
user_value r = registers_are (registers_value r.0)

-- registers at the interrupt
abbrev pub interrupt_value : InterruptRegisters → FieldValue
interrupt_value r = registers_are (registers_value r.0)
