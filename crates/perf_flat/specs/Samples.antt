-- A SAMPLE in a flat frame: its numbers, in their order, and what is at its spans. Both are stated by
-- what the getters of the sample return. What is absent is 0, or a span of no bytes.
use Rattle.std.specs.Prelude.{ℕ, ◌+◌, ◌*◌, ◌%◌, ◌^◌, ◌≡◌, ◌&&◌, Bool, true, false, List, [], ◌∷◌, length, Option, Some, None, if◌then◌else◌}
use Rattle.perf_base.specs.Configuration.{Configuration}
use Rattle.perf_base.specs.Order.{Order}
use Rattle.perf_counters.specs.GroupEntry.{block_len}
use Rattle.perf_counters.specs.ReadFormat.{has_group}
use Rattle.perf_counters.specs.ReadGroup.{GroupRead, all_entries, only_entry}
use Rattle.perf_counters.specs.declared.group_entry.GroupEntry.{GroupEntry}
use Rattle.perf_sample_types.specs.Branches.{branches_of}
use Rattle.perf_sample_types.specs.Registers.{RegistersValue}
use Rattle.perf_sample_types.specs.Sample.{SampleValue}
use Rattle.perf_sample_types.specs.SampleGetters.{getters_of}
use Rattle.perf_words.specs.Bits.{has_bit}
use Rattle.perf_words.specs.Branch.{Branch}
use Rattle.perf_flat.specs.Arrays.{no_span}
use Rattle.perf_base.specs.Attribute.{or_zero}
use Rattle.perf_flat.specs.Strings.{span_at, HasBytes, HasNumbers}
use Rattle.perf_flat.specs.declared.frame.Span.{Span}

-- ---- numbers

-- the ABI of registers
abbrev pub abi_of : Option RegistersValue → ℕ
abi_of (Some registers) = registers.abi
abi_of None = 0

-- a counter: its value, its id, and how many of its samples were lost
abbrev pub group_entry_numbers : Option GroupEntry → List ℕ
group_entry_numbers (Some entry) = entry.value ∷ or_zero entry.id ∷ or_zero entry.lost ∷ []
group_entry_numbers None = 0 ∷ 0 ∷ 0 ∷ []

-- The counters that were read: how long they were enabled and ran, how many there are, and without
-- GROUP the one counter.
abbrev pub counter_numbers : (read_format : ℕ) → Option GroupRead → List ℕ
counter_numbers read_format (Some read) =
    or_zero read.time_enabled ∷
    or_zero read.time_running ∷
    length read.entries ∷
    group_entry_numbers (if has_group read_format then None else only_entry read.entries)
counter_numbers read_format None = 0 ∷ 0 ∷ 0 ∷ group_entry_numbers None

-- the numbers of a sample
abbrev pub sample_numbers : (read_format : ℕ) → SampleValue → List ℕ
sample_numbers read_format s =
    or_zero (getters_of s).ip ∷
    or_zero (getters_of s).addr ∷
    or_zero (getters_of s).period ∷
    or_zero (getters_of s).weight ∷
    or_zero (getters_of s).data_src ∷
    or_zero (getters_of s).transaction ∷
    or_zero (getters_of s).phys_addr ∷
    or_zero (getters_of s).cgroup ∷
    or_zero (getters_of s).data_page_size ∷
    or_zero (getters_of s).code_page_size ∷
    or_zero (getters_of s).lbr_hw_index ∷
    abi_of (getters_of s).regs_user ∷
    abi_of (getters_of s).regs_intr ∷
    counter_numbers read_format (getters_of s).values

-- ---- spans

-- a list of numbers
abbrev pub HasList : Order → (frame : List ℕ) → Span → Option (List ℕ) → Type 0
HasList o frame s (Some numbers) = HasNumbers o frame s (length numbers) (λ are. are ≡ numbers)
HasList o frame s None = s ≡ no_span

-- bytes
abbrev pub HasString : (frame : List ℕ) → Span → Option (List ℕ) → Type 0
HasString frame s (Some bytes) = HasBytes frame s bytes
HasString frame s None = s ≡ no_span

-- branches, of three numbers each
abbrev pub HasBranches : Order → (frame : List ℕ) → Span → Option (List Branch) → Type 0
HasBranches o frame s (Some branches) =
    HasNumbers o frame s (3 * length branches) (λ are. branches_of are ≡ branches)
HasBranches o frame s None = s ≡ no_span

-- registers
abbrev pub HasRegisters : Order → (frame : List ℕ) → Span → Option RegistersValue → Type 0
HasRegisters o frame s (Some registers) =
    HasNumbers o frame s (length registers.regs) (λ are. are ≡ registers.regs)
HasRegisters o frame s None = s ≡ no_span

-- the entries of a group of counters
abbrev pub HasEntries : Order → (frame : List ℕ) → Span → GroupRead → Type 0
HasEntries o frame s read =
    HasNumbers o frame s (length read.entries * block_len read.with_id read.with_lost)
    (λ are. all_entries read.with_id read.with_lost are ≡ read.entries)

-- the same, or no bytes for a counter by itself
abbrev pub HasEntriesIf : (group : Bool) → Order → (frame : List ℕ) → Span → GroupRead → Type 0
HasEntriesIf true o frame s read = HasEntries o frame s read
HasEntriesIf false o frame s read = s ≡ no_span

-- the entries of the counters that were read: none without GROUP
abbrev pub HasCounters : (read_format : ℕ) → Order → (frame : List ℕ) → Span → Option GroupRead → Type 0
HasCounters read_format o frame s (Some read) = HasEntriesIf (has_group read_format) o frame s read
HasCounters read_format o frame s None = s ≡ no_span

-- what is at the spans of a sample
pub record HasSampleSpans (read_format : ℕ) (o : Order) (frame : List ℕ) (spans : List Span)
    (s : SampleValue) : Type 0 where
  pub callchain : HasList o frame (span_at spans 0) (getters_of s).callchain
  pub lbr : HasBranches o frame (span_at spans 1) (getters_of s).lbr
  pub values : HasCounters read_format o frame (span_at spans 2) (getters_of s).values
  pub regs_user : HasRegisters o frame (span_at spans 3) (getters_of s).regs_user
  pub regs_intr : HasRegisters o frame (span_at spans 4) (getters_of s).regs_intr
  pub raw : HasString frame (span_at spans 5) (getters_of s).raw
  pub stack_user : HasString frame (span_at spans 6) (getters_of s).stack_user
  pub aux : HasString frame (span_at spans 7) (getters_of s).aux

-- ---- which fields are present

-- The flags of the sample type of which the library knows the fields, and bit 32 if branches have the
-- hardware's index.
abbrev pub sample_present : Configuration → ℕ
sample_present c =
    c.sample_type % 2 ^ 25 + (if has_bit c.sample_type 11 && c.branch_hw_index then 2 ^ 32 else 0)
