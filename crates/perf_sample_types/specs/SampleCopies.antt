-- The two halves in which the fields of a sample that may own memory are copied.
use Rattle.std.specs.Prelude.{ℕ, Bool, List, ◌++◌, Option, option_map}
use Rattle.perf_base.specs.Cow.{cow_items, cow_form}
use Rattle.perf_counters.specs.ReadGroup.{GroupRead, group_read, read_group_form}
use Rattle.perf_words.specs.Branch.{Branch}
use Rattle.perf_sample_types.specs.Registers.{RegistersValue, registers_value, registers_form}
use Rattle.perf_sample_types.specs.SampleForms.{form_if}
use Rattle.perf_sample_types.specs.declared.sample_fields.Content.{Content}
use Rattle.perf_sample_types.specs.declared.sample_fields.SampleFields.{SampleFields}
use Rattle.perf_sample_types.specs.declared.sample_fields.Trace.{Trace}

-- ---- the counters, the call chain, raw bytes and branches

-- their values
pub record TraceValue : Type 0 where
  pub values : Option GroupRead
  pub callchain : Option (List ℕ)
  pub raw : Option (List ℕ)
  pub lbr : Option (List Branch)

abbrev pub trace_value : Trace → TraceValue
trace_value t = record {
  values = option_map group_read t.values;
  callchain = option_map cow_items t.callchain;
  raw = option_map cow_items t.raw;
  lbr = option_map cow_items t.lbr;
}

-- which of their lists are borrowed
abbrev pub trace_form : Trace → List Bool
trace_form t =
    form_if read_group_form t.values
    ++ (form_if cow_form t.callchain ++ (form_if cow_form t.raw ++ form_if cow_form t.lbr))

-- those of a sample's fields
abbrev pub trace_of : SampleFields → Trace
trace_of f = record { values = f.values; callchain = f.callchain; raw = f.raw; lbr = f.lbr }

-- ---- registers, the stack and bytes of the AUX area

-- their values
pub record ContentValue : Type 0 where
  pub regs_user : Option RegistersValue
  pub stack_user : Option (List ℕ)
  pub regs_intr : Option RegistersValue
  pub aux : Option (List ℕ)

abbrev pub content_value : Content → ContentValue
content_value h = record {
  regs_user = option_map registers_value h.regs_user;
  stack_user = option_map cow_items h.stack_user;
  regs_intr = option_map registers_value h.regs_intr;
  aux = option_map cow_items h.aux;
}

-- which of their lists are borrowed
abbrev pub content_form : Content → List Bool
content_form h =
    form_if registers_form h.regs_user
    ++ (form_if cow_form h.stack_user
    ++ (form_if registers_form h.regs_intr ++ form_if cow_form h.aux))

-- those of a sample's fields
abbrev pub content_of : SampleFields → Content
content_of f = record {
  regs_user = f.regs_user;
  stack_user = f.stack_user;
  regs_intr = f.regs_intr;
  aux = f.aux;
}
