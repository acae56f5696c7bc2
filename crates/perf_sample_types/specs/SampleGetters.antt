-- What the getters of a sample return, in the order in which they are printed: each is a field of
-- the table, by its place there, and None if that is absent.
use Rattle.std.specs.Prelude.{ℕ, List, get_or, Option, Some, None, option_map, IfSome, IsTrue}
use Rattle.perf_base.specs.Cow.{cow_items, is_borrowed}
use Rattle.perf_counters.specs.ReadGroup.{GroupRead, group_read}
use Rattle.perf_sample_types.specs.Registers.{RegistersValue, registers_value}
use Rattle.perf_sample_types.specs.Sample.{FieldValue, number_is, task_is, group_is, numbers_are, bytes_are}
use Rattle.perf_sample_types.specs.Sample.{branches_are, registers_are, SampleValue}
use Rattle.perf_sample_types.specs.SampleId.{SampleIdValue, first_of}
use Rattle.perf_sample_types.specs.declared.sample_fields.SampleFields.{SampleFields}
use Rattle.perf_words.specs.Branch.{Branch}
use Rattle.perf_words.specs.SetBits.{txn_bits}

-- the results of all getters
pub record Getters : Type 0 where
  pub ip : Option ℕ
  pub pid : Option ℕ
  pub tid : Option ℕ
  pub time : Option ℕ
  pub addr : Option ℕ
  pub id : Option ℕ
  pub stream_id : Option ℕ
  pub cpu : Option ℕ
  pub period : Option ℕ
  pub values : Option GroupRead
  pub callchain : Option (List ℕ)
  pub raw : Option (List ℕ)
  pub lbr_hw_index : Option ℕ
  pub lbr : Option (List Branch)
  pub regs_user : Option RegistersValue
  pub stack_user : Option (List ℕ)
  pub weight : Option ℕ
  pub data_src : Option ℕ
  pub transaction : Option ℕ
  pub regs_intr : Option RegistersValue
  pub phys_addr : Option ℕ
  pub aux : Option (List ℕ)
  pub cgroup : Option ℕ
  pub data_page_size : Option ℕ
  pub code_page_size : Option ℕ

-- ---- the value of a field, as one kind of value

-- its number
abbrev pub number_in : Option FieldValue → Option ℕ
number_in (Some (number_is number)) = Some number
number_in _ = None

-- its process
abbrev pub pid_of_task : Option FieldValue → Option ℕ
pid_of_task (Some (task_is pid tid)) = pid
pid_of_task _ = None

-- its thread
abbrev pub tid_of_task : Option FieldValue → Option ℕ
tid_of_task (Some (task_is pid tid)) = tid
tid_of_task _ = None

-- its read of counters
abbrev pub group_in : Option FieldValue → Option GroupRead
group_in (Some (group_is group)) = Some group
group_in _ = None

-- its list of numbers
abbrev pub numbers_in : Option FieldValue → Option (List ℕ)
numbers_in (Some (numbers_are numbers)) = Some numbers
numbers_in _ = None

-- its bytes
abbrev pub bytes_of_field : Option FieldValue → Option (List ℕ)
bytes_of_field (Some (bytes_are bytes)) = Some bytes
bytes_of_field _ = None

-- the hardware's index of its branches
abbrev pub hw_index_in : Option FieldValue → Option ℕ
hw_index_in (Some (branches_are hw_index branches)) = hw_index
hw_index_in _ = None

-- its branches
abbrev pub branches_in : Option FieldValue → Option (List Branch)
branches_in (Some (branches_are hw_index branches)) = branches
branches_in _ = None

-- its registers
abbrev pub registers_in : Option FieldValue → Option RegistersValue
registers_in (Some (registers_are registers)) = Some registers
registers_in _ = None

-- ---- the getters

-- the value of field i, None if it is absent
abbrev pub field_at : SampleValue → ℕ → Option FieldValue
field_at vs i = get_or vs i None

-- the value of ID, or else of IDENTIFIER
abbrev pub id_of : SampleValue → Option ℕ
id_of vs = first_of (number_in (field_at vs 5)) (number_in (field_at vs 0))

-- what the getters return for a sample
abbrev pub getters_of : SampleValue → Getters
getters_of vs = record {
  ip = number_in (field_at vs 1);
  pid = pid_of_task (field_at vs 2);
  tid = tid_of_task (field_at vs 2);
  time = number_in (field_at vs 3);
  addr = number_in (field_at vs 4);
  id = id_of vs;
  stream_id = number_in (field_at vs 6);
  cpu = number_in (field_at vs 7);
  period = number_in (field_at vs 8);
  values = group_in (field_at vs 9);
  callchain = numbers_in (field_at vs 10);
  raw = bytes_of_field (field_at vs 11);
  lbr_hw_index = hw_index_in (field_at vs 12);
  lbr = branches_in (field_at vs 12);
  regs_user = registers_in (field_at vs 13);
  stack_user = bytes_of_field (field_at vs 14);
  weight = number_in (field_at vs 15);
  data_src = number_in (field_at vs 16);
  transaction = number_in (field_at vs 17);
  regs_intr = registers_in (field_at vs 18);
  phys_addr = number_in (field_at vs 19);
  aux = bytes_of_field (field_at vs 23);
  cgroup = number_in (field_at vs 20);
  data_page_size = number_in (field_at vs 21);
  code_page_size = number_in (field_at vs 22);
}

-- the sample id with the same values
abbrev pub sample_id_of : SampleValue → SampleIdValue
sample_id_of vs = record {
  pid = (getters_of vs).pid;
  tid = (getters_of vs).tid;
  time = (getters_of vs).time;
  id = (getters_of vs).id;
  stream_id = (getters_of vs).stream_id;
  cpu = (getters_of vs).cpu;
}

-- ---- fields of the code

-- what the getters of a sample with these fields return: each its own
abbrev pub fields_getters : SampleFields → Getters
fields_getters f = record {
  ip = f.ip;
  pid = f.pid;
  tid = f.tid;
  time = f.time;
  addr = f.addr;
  id = f.id;
  stream_id = f.stream_id;
  cpu = f.cpu;
  period = f.period;
  values = option_map group_read f.values;
  callchain = option_map cow_items f.callchain;
  raw = option_map cow_items f.raw;
  lbr_hw_index = f.lbr_hw_index;
  lbr = option_map cow_items f.lbr;
  regs_user = option_map registers_value f.regs_user;
  stack_user = option_map cow_items f.stack_user;
  weight = f.weight;
  data_src = f.data_src;
  transaction = option_map txn_bits f.transaction;
  regs_intr = option_map registers_value f.regs_intr;
  phys_addr = f.phys_addr;
  aux = option_map cow_items f.aux;
  cgroup = f.cgroup;
  data_page_size = f.data_page_size;
  code_page_size = f.code_page_size;
}

-- the results if all fields are absent
abbrev pub no_getters : Getters
no_getters = record {
  ip = None;
  pid = None;
  tid = None;
  time = None;
  addr = None;
  id = None;
  stream_id = None;
  cpu = None;
  period = None;
  values = None;
  callchain = None;
  raw = None;
  lbr_hw_index = None;
  lbr = None;
  regs_user = None;
  stack_user = None;
  weight = None;
  data_src = None;
  transaction = None;
  regs_intr = None;
  phys_addr = None;
  aux = None;
  cgroup = None;
  data_page_size = None;
  code_page_size = None;
}

-- no byte of them was copied
abbrev pub IsBorrowedFields : SampleFields → Type 0
IsBorrowedFields f =
    IfSome f.raw (λ bytes. IsTrue (is_borrowed bytes))
    × IfSome f.stack_user (λ bytes. IsTrue (is_borrowed bytes))
    × IfSome f.aux (λ bytes. IsTrue (is_borrowed bytes))
