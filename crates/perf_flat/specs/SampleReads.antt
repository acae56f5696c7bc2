-- The fields of a sample, each read in place: its value, and what is at its span in each frame of the
-- body.
use Rattle.std.specs.Prelude.{ℕ, ◌≡◌, ◌++◌, List, [], ◌∷◌, Option, Some, None, None, option_map}
use Rattle.perf_base.specs.Configuration.{Configuration}
use Rattle.perf_base.specs.Layout.{Parts}
use Rattle.perf_base.specs.Order.{Order}
use Rattle.perf_base.specs.Table.{slot, table}
use Rattle.perf_sample_types.specs.Sample.{Field, FieldValue, SampleValue, task_is, number_is, field_under, fields_under}
use Rattle.perf_sample_types.specs.Sample.{count_fields, state_fields, cost_fields, memory_fields}
use Rattle.perf_sample_types.specs.SampleGetters as getters
use Rattle.perf_flat.specs.CursorReads.{IsBodyOf, ReadsParts, ReadsFor}
use Rattle.perf_base.specs.Attribute.{or_zero}
use Rattle.perf_flat.specs.Samples as samples
use Rattle.perf_flat.specs.declared.cursor.BodyCursor.{BodyCursor}
use Rattle.perf_flat.specs.declared.sample.Moment.{Moment}
use Rattle.perf_flat.specs.declared.sample.Event.{Event}
use Rattle.perf_flat.specs.declared.sample.Counts.{Counts}
use Rattle.perf_flat.specs.declared.sample.State.{State}
use Rattle.perf_flat.specs.declared.sample.Costs.{Costs}
use Rattle.perf_flat.specs.declared.sample.Memory.{Memory}
use Rattle.perf_flat.specs.declared.sample.Branches.{Branches}
use Rattle.perf_flat.specs.declared.sample.Counters.{Counters}
use Rattle.perf_flat.specs.declared.sample.Registers.{Registers}

-- in each frame of a body
abbrev pub InFrames : (body : List ℕ) → (List ℕ → Type 0) → Type 0
InFrames body has = (frame : List ℕ) → IsBodyOf frame body → has frame

-- a field was read
abbrev pub ReadsSlot : Configuration → Order → Field → Option FieldValue → (old new : BodyCursor) → Type 0
ReadsSlot c o field value old new = ReadsParts o (slot (field_under c field)) value old new

-- a field was read, and this is true of its value in each frame of the body
abbrev pub ReadsSlotFor : Configuration → Order → Field → (List ℕ → Option FieldValue → Type 0) →
    (old new : BodyCursor) → Type 0
ReadsSlotFor c o field has old new =
    ReadsFor o (slot (field_under c field)) (λ v. InFrames old.bytes.now (λ frame. has frame v)) old new

-- a process and its thread
abbrev pub task_of : ℕ × ℕ → FieldValue
task_of pair = task_is (Some pair.0) (Some pair.1)

-- ---- counters

-- the numbers of counters, in their order
abbrev pub counters_numbers : Counters → List ℕ
counters_numbers made =
    or_zero made.time_enabled ∷
    or_zero made.time_running ∷
    made.count ∷
    made.value ∷
    or_zero made.id ∷
    or_zero made.lost ∷
    []

-- Counters were read: their numbers, and the entries of a group.
pub record IsCounters (read_format : ℕ) (o : Order) (body : List ℕ) (v : Option FieldValue)
    (made : Counters) : Type 0 where
  pub numbers : counters_numbers made ≡ samples.counter_numbers read_format (getters.group_in v)
  pub entries : InFrames body (λ frame.
      samples.HasCounters read_format o frame made.entries (getters.group_in v))

-- ---- branches and registers

-- branches were read: the hardware's index, and where they are
pub record IsBranches (o : Order) (body : List ℕ) (v : Option FieldValue) (made : Branches) :
    Type 0 where
  pub hw_index : made.hw_index ≡ getters.hw_index_in v
  pub entries : InFrames body (λ frame. samples.HasBranches o frame made.entries (getters.branches_in v))

-- registers were read: their ABI, and where they are
pub record IsRegisters (o : Order) (body : List ℕ) (v : Option FieldValue) (made : Registers) :
    Type 0 where
  pub abi : made.abi ≡ samples.abi_of (getters.registers_in v)
  pub regs : InFrames body (λ frame. samples.HasRegisters o frame made.regs (getters.registers_in v))

-- ---- groups of fields

-- Fields of a table were read one after another: whatever others come after them, these are their
-- values.
pub record ReadsFields (o : Order) (fields : List (Option (Parts FieldValue))) (values : SampleValue)
    (old new : BodyCursor) : Type 0 where
  pub chain : (others : List (Option (Parts FieldValue))) (rest : SampleValue) (end : BodyCursor) →
      ReadsParts o (table others) rest new end → ReadsParts o (table (fields ++ others)) (values ++ rest) old end
  pub bytes : new.bytes.now ≡ old.bytes.now
  pub fresh : new.refusal ≡ None → old.refusal ≡ None

-- when and where it happened: IDENTIFIER, IP, TID, TIME, ADDR
abbrev pub moment_values : Moment → SampleValue
moment_values m =
    option_map number_is m.identifier ∷
    option_map number_is m.ip ∷
    option_map task_of m.task ∷
    option_map number_is m.time ∷
    option_map number_is m.addr ∷
    []

-- which event it was: ID, STREAM_ID, CPU, PERIOD
abbrev pub event_values : Event → SampleValue
event_values e =
    option_map number_is e.id ∷
    option_map number_is e.stream_id ∷
    option_map number_is e.cpu ∷
    option_map number_is e.period ∷
    []

-- the counters that were read, and the call chain
pub record ReadsCounts (c : Configuration) (o : Order) (made : Counts) (old new : BodyCursor) : Type 0 where
  pub values : Option FieldValue
  pub call_chain : Option FieldValue
  pub fields : ReadsFields o (fields_under c count_fields) (values ∷ call_chain ∷ []) old new
  pub counters : new.refusal ≡ None → IsCounters c.read_format o old.bytes.now values made.values
  pub addresses : new.refusal ≡ None → InFrames old.bytes.now (λ frame.
      samples.HasList o frame made.call_chain (getters.numbers_in call_chain))

-- the state of event, processor and task
pub record ReadsState (c : Configuration) (o : Order) (made : State) (old new : BodyCursor) : Type 0 where
  pub raw : Option FieldValue
  pub branches : Option FieldValue
  pub regs_user : Option FieldValue
  pub stack_user : Option FieldValue
  pub fields : ReadsFields o (fields_under c state_fields)
      (raw ∷ branches ∷ regs_user ∷ stack_user ∷ []) old new
  pub raw_bytes : new.refusal ≡ None → InFrames old.bytes.now (λ frame.
      samples.HasString frame made.raw (getters.bytes_of_field raw))
  pub entries : new.refusal ≡ None → IsBranches o old.bytes.now branches made.branches
  pub registers : new.refusal ≡ None → IsRegisters o old.bytes.now regs_user made.regs_user
  pub stack : new.refusal ≡ None → InFrames old.bytes.now (λ frame.
      samples.HasString frame made.stack_user (getters.bytes_of_field stack_user))

-- what it cost
pub record ReadsCosts (c : Configuration) (o : Order) (made : Costs) (old new : BodyCursor) : Type 0 where
  pub regs_intr : Option FieldValue
  pub fields : ReadsFields o (fields_under c cost_fields) (
      option_map number_is made.weight ∷
      option_map number_is made.data_src ∷
      option_map number_is made.transaction ∷
      regs_intr ∷
      []) old new
  pub registers : new.refusal ≡ None → IsRegisters o old.bytes.now regs_intr made.regs_intr

-- in which memory it happened
pub record ReadsMemory (c : Configuration) (o : Order) (made : Memory) (old new : BodyCursor) : Type 0 where
  pub aux : Option FieldValue
  pub fields : ReadsFields o (fields_under c memory_fields) (
      option_map number_is made.phys_addr ∷
      option_map number_is made.cgroup ∷
      option_map number_is made.data_page_size ∷
      option_map number_is made.code_page_size ∷
      aux ∷
      []) old new
  pub bytes : new.refusal ≡ None → InFrames old.bytes.now (λ frame.
      samples.HasString frame made.aux (getters.bytes_of_field aux))
