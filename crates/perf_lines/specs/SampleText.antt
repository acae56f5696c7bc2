-- The words of a sample: its fields by name, in the order of its calls. An absent field has none.
use Rattle.std.specs.Prelude.{ℕ, Bool, true, false, List, [], ◌∷◌, ◌++◌, codes, decimal}
use Rattle.std.specs.Prelude.{Option, Some, None}
use Rattle.std.specs.List.{flat_map}
use Rattle.perf_counters.specs.declared.group_entry.GroupEntry.{GroupEntry}
use Rattle.perf_counters.specs.ReadGroup.{GroupRead}
use Rattle.perf_sample_types.specs.Registers.{RegistersValue}
use Rattle.perf_sample_types.specs.SampleGetters.{Getters}
use Rattle.perf_words.specs.Branch.{Branch, mispred_of, predicted_of, in_tx_of, abort_of}
use Rattle.perf_words.specs.Branch.{cycles_of, branch_type_of}
use Rattle.perf_lines.specs.Fields.{number, field, present, word_as, word_of, words_of_numbers, with_commas}
use Rattle.perf_text.specs.Numbers.{hex_bytes}

-- ---- items of lists

-- numbers, each with a colon before it
abbrev pub after_colons : List ℕ → List ℕ
after_colons numbers = flat_map (λ n. codes ":" ++ decimal n) numbers

-- a number that may be absent, with a colon before it
abbrev pub after_colon : Option ℕ → List ℕ
after_colon n = present (λ there. codes ":" ++ decimal there) n

-- a counter of a group: its value, its id and its lost samples
abbrev pub counter_item : GroupEntry → List ℕ
counter_item e = decimal e.value ++ (after_colon e.id ++ after_colon e.lost)

-- 1 for yes and 0 for no
abbrev pub digit_of : Bool → ℕ
digit_of true = 1
digit_of false = 0

-- a branch: its source and target addresses, and its bit fields
abbrev pub branch_item : Branch → List ℕ
branch_item b =
    decimal b.from
    ++ after_colons (b.to ∷ digit_of (mispred_of b.word) ∷ digit_of (predicted_of b.word)
    ∷ digit_of (in_tx_of b.word) ∷ digit_of (abort_of b.word)
    ∷ cycles_of b.word ∷ branch_type_of b.word ∷ [])

-- ---- fields of more than one number

-- a read of counters: its times, if present, and a list of its counters
abbrev pub group_words : Option GroupRead → List (List ℕ)
group_words (Some g) =
    words_of_numbers ((codes "time_enabled", g.time_enabled) ∷ (codes "time_running", g.time_running) ∷ [])
    ++ (field (codes "values") (with_commas counter_item g.entries) ∷ [])
group_words None = []

-- registers: the ABI under a first name, and the values under a second
abbrev pub register_words : (abi regs : List ℕ) → Option RegistersValue → List (List ℕ)
register_words abi regs (Some r) =
    number abi r.abi ∷ field regs (with_commas decimal r.regs) ∷ []
register_words abi regs None = []

-- ---- groups of fields

-- the instruction pointer, the task, the time, the address and the id
abbrev pub moment_words : Getters → List (List ℕ)
moment_words g =
    words_of_numbers ((codes "ip", g.ip) ∷ (codes "pid", g.pid) ∷ (codes "tid", g.tid)
    ∷ (codes "time", g.time) ∷ (codes "addr", g.addr) ∷ (codes "id", g.id) ∷ [])

-- the stream id, the CPU, the period, the counters and the call chain
abbrev pub count_words : Getters → List (List ℕ)
count_words g =
    words_of_numbers ((codes "stream_id", g.stream_id) ∷ (codes "cpu", g.cpu)
    ∷ (codes "period", g.period) ∷ [])
    ++ (group_words g.values ++ word_as (codes "callchain") (with_commas decimal) g.callchain)

-- the raw bytes, the branches, and the registers and the stack of user space
abbrev pub state_words : Getters → List (List ℕ)
state_words g =
    word_as (codes "raw") hex_bytes g.raw
    ++ (word_of (codes "lbr_hw_index") g.lbr_hw_index
    ++ (word_as (codes "lbr") (with_commas branch_item) g.lbr
    ++ (register_words (codes "regs_user_abi") (codes "regs_user") g.regs_user
    ++ word_as (codes "stack_user") hex_bytes g.stack_user)))

-- the weight, the data source, the transaction, and the registers at the interrupt
abbrev pub cost_words : Getters → List (List ℕ)
cost_words g =
    words_of_numbers ((codes "weight", g.weight) ∷ (codes "data_src", g.data_src)
    ∷ (codes "transaction", g.transaction) ∷ [])
    ++ register_words (codes "regs_intr_abi") (codes "regs_intr") g.regs_intr

-- the physical address, the AUX bytes, the control group and the page sizes
abbrev pub memory_words : Getters → List (List ℕ)
memory_words g =
    word_of (codes "phys_addr") g.phys_addr
    ++ (word_as (codes "aux") hex_bytes g.aux
    ++ words_of_numbers ((codes "cgroup", g.cgroup) ∷ (codes "data_page_size", g.data_page_size)
    ∷ (codes "code_page_size", g.code_page_size) ∷ []))

-- ---- a whole sample

-- the name, and the fields of all groups
abbrev pub sample_words : Getters → List (List ℕ)
sample_words g =
    codes "Sample"
    ∷ (moment_words g
    ++ (count_words g ++ (state_words g ++ (cost_words g ++ memory_words g))))
