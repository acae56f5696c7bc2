-- PERF_RECORD_SAMPLE: what was true when an event happened. 24 fields follow one another in the
-- order in which the kernel writes them, each present if the sample type has its flag.
use Rattle.std.specs.Prelude.{ℕ, ◌-◌, ◌*◌, ◌%◌, Bool, false, ◌||◌, nat_le, nat_lt}
use Rattle.std.specs.Prelude.{List, [], ◌∷◌, map, take, Option, Some, unwrap_or, if◌then◌else◌}
use Rattle.perf_base.specs.Configuration.{Configuration}
use Rattle.perf_base.specs.FieldWords.{u32, u64, u64_if, bytes, numbers, gap, require}
use Rattle.perf_base.specs.Layout.{Parts, done, map_parts, ◌>>=◌, ◌>>◌}
use Rattle.perf_base.specs.Table.{present_if, table}
use Rattle.perf_base.specs.declared.error.ErrorKind.TheVariants.{InvalidRecord}
use Rattle.perf_reader.specs.TableRuns.{join_groups}
use Rattle.perf_sample_types.specs.Branches.{branches_of}
use Rattle.perf_counters.specs.ReadFormat.{has_group}
use Rattle.perf_counters.specs.ReadGroup.{GroupRead, read_group, group_of}
use Rattle.perf_counters.specs.ReadValue.{read_value}
use Rattle.perf_sample_types.specs.Registers.{RegistersValue, registers_of}
use Rattle.perf_words.specs.Bits.{has_bit}
use Rattle.perf_words.specs.Branch.{Branch}

-- ---- values

-- the value of a field
pub data FieldValue : Type 0 where
  -- a number
  number_is : ℕ → FieldValue
  -- a process and its thread
  task_is : (pid tid : Option ℕ) → FieldValue
  -- what was read of the event's group of counters
  group_is : GroupRead → FieldValue
  -- a list of numbers
  numbers_are : List ℕ → FieldValue
  -- bytes
  bytes_are : List ℕ → FieldValue
  -- branches, and the position of the newest in the hardware's own list
  branches_are : (hw_index : Option ℕ) → Option (List Branch) → FieldValue
  -- registers
  registers_are : RegistersValue → FieldValue

-- ---- the parts of a field

-- a number of eight bytes
abbrev pub plain_field : Parts FieldValue
plain_field = map_parts number_is u64

-- a process and its thread
abbrev pub task : Parts FieldValue
task = do
  pid ← u32
  tid ← u32
  done (task_is (Some pid) (Some tid))

-- a processor's number, and four unused bytes
abbrev pub cpu : Parts FieldValue
cpu = do
  number ← u32
  gap 4
  done (number_is number)

-- A read of the group, or of one counter, which is a group of one. Like the other fields that
-- depend on the configuration it is opened only when a proof asks for it.
unfoldable pub values : Configuration → Parts FieldValue
values c =
    if has_group c.read_format
    then map_parts group_is (read_group c)
    else map_parts (λ one. group_is (group_of one)) (read_value c)

-- a count, and that many addresses
abbrev pub call_chain : Parts FieldValue
call_chain = do
  count ← u64
  addresses ← numbers count
  done (numbers_are addresses)

-- how many bytes pad raw bytes, with the four of their length, to a multiple of eight
abbrev pub raw_padding : ℕ → ℕ
raw_padding length = (12 - length % 8) % 8

-- a length of four bytes, that many bytes, and the padding
abbrev pub raw : Parts FieldValue
raw = do
  length ← u32
  contents ← bytes length
  gap (raw_padding length)
  done (bytes_are contents)

-- a count, the hardware's index if the configuration has one, and that many branches of three
-- numbers
unfoldable pub branch_stack : Configuration → Parts FieldValue
branch_stack c = do
  count ← u64
  hw_index ← u64_if c.branch_hw_index
  words ← numbers (3 * count)
  done (branches_are hw_index (Some (branches_of words)))

-- the registers of a mask
unfoldable pub registers : ℕ → Parts FieldValue
registers mask = map_parts registers_are (registers_of mask)

-- A size, that many bytes of the stack, and if there are any, how many of them the kernel used: the
-- others do not count. The used size cannot exceed the size.
abbrev pub stack : Parts FieldValue
stack = do
  size ← u64
  contents ← bytes size
  used ← u64_if (nat_lt 0 size)
  require (nat_le (unwrap_or used 0) size) InvalidRecord
  done (bytes_are (take (unwrap_or used 0) contents))

-- a size, and that many bytes
abbrev pub sized_bytes : Parts FieldValue
sized_bytes = do
  size ← u64
  contents ← bytes size
  done (bytes_are contents)

-- ---- fields

-- A field is present if the sample type has one of its flags, PERF_SAMPLE_*, given here as bit
-- numbers. Its parts do not depend on the sample type.
pub record Field : Type 0 where
  pub flags : List ℕ
  pub parts : Configuration → Parts FieldValue

-- a field of one flag, the same under every configuration
abbrev pub at_flag : ℕ → Parts FieldValue → Field
at_flag flag parts = record { flags = flag ∷ []; parts = λ c. parts }

-- a field of one flag, which depends on the configuration
abbrev pub at_flag_under : ℕ → (Configuration → Parts FieldValue) → Field
at_flag_under flag parts = record { flags = flag ∷ []; parts = parts }

-- when and where it happened, and which event it was: IDENTIFIER, IP, TID, TIME, ADDR, ID,
-- STREAM_ID, CPU, PERIOD, each of eight bytes
abbrev pub moment_fields : List Field
moment_fields =
    at_flag 16 plain_field ∷
    at_flag 0 plain_field ∷
    at_flag 1 task ∷
    at_flag 2 plain_field ∷
    at_flag 3 plain_field ∷
    at_flag 6 plain_field ∷
    at_flag 9 plain_field ∷
    at_flag 7 cpu ∷
    at_flag 8 plain_field ∷
    []

-- the counters that were read, and the call chain: READ, CALLCHAIN
abbrev pub count_fields : List Field
count_fields =
    at_flag_under 4 values ∷
    at_flag 5 call_chain ∷
    []

-- the state of event, processor and task: RAW, BRANCH_STACK, REGS_USER, STACK_USER
abbrev pub state_fields : List Field
state_fields =
    at_flag 10 raw ∷
    at_flag_under 11 branch_stack ∷
    at_flag_under 12 (λ c. registers c.regs_user) ∷
    at_flag 13 stack ∷
    []

-- what it cost: WEIGHT or WEIGHT_STRUCT, DATA_SRC, TRANSACTION, REGS_INTR
abbrev pub cost_fields : List Field
cost_fields =
    record { flags = 14 ∷ 24 ∷ []; parts = λ c. plain_field } ∷
    at_flag 15 plain_field ∷
    at_flag 17 plain_field ∷
    at_flag_under 18 (λ c. registers c.regs_intr) ∷
    []

-- in which memory: PHYS_ADDR, CGROUP, DATA_PAGE_SIZE, CODE_PAGE_SIZE, AUX
abbrev pub memory_fields : List Field
memory_fields =
    at_flag 19 plain_field ∷
    at_flag 21 plain_field ∷
    at_flag 22 plain_field ∷
    at_flag 23 plain_field ∷
    at_flag 20 sized_bytes ∷
    []

-- the fields in the groups in which they are read
abbrev pub sample_groups : List (List Field)
sample_groups =
    moment_fields ∷ count_fields ∷ state_fields ∷ cost_fields ∷ memory_fields ∷ []

-- the fields in their order
abbrev pub sample_fields : List Field
sample_fields = join_groups sample_groups

-- ---- the table

-- the sample type has one of these flags
abbrev pub has_one : (sample_type : ℕ) → List ℕ → Bool
has_one sample_type [] = false
has_one sample_type (flag ∷ flags) = has_bit sample_type flag || has_one sample_type flags

-- a field is present
abbrev pub is_present : Configuration → Field → Bool
is_present c field = has_one c.sample_type field.flags

-- what of a configuration a field's parts may depend on: all but the sample type
abbrev pub settings_of : Configuration → Configuration
settings_of c = record c { sample_type = 0 }

-- a field under a configuration
abbrev pub field_under : Configuration → Field → Option (Parts FieldValue)
field_under c field = present_if (is_present c field) (field.parts (settings_of c))

-- fields under a configuration
abbrev pub fields_under : Configuration → List Field → List (Option (Parts FieldValue))
fields_under c fields = map (field_under c) fields

-- groups of fields under a configuration
abbrev pub groups_under : Configuration → List (List Field) →
    List (List (Option (Parts FieldValue)))
groups_under c groups = map (fields_under c) groups

-- A sample is the list of the values of its fields, None for one that is absent.
abbrev pub SampleValue : Type 0
SampleValue = List (Option FieldValue)

-- the body; it is opened only when a proof asks for it
unfoldable pub sample : Configuration → Parts SampleValue
sample c = table (fields_under c sample_fields)
