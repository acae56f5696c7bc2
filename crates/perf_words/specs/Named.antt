-- The numbers that perf_event.h names: for each kind of number a table with a row per name, without
-- the kernel's prefix. Numbers without a row are valid values too.
use Rattle.std.specs.Prelude.{ℕ, List, [], ◌∷◌, codes}

-- a row per name, with its number
abbrev pub NumberTable : Type 0
NumberTable = List (List ℕ × ℕ)

-- kinds of branches, `PERF_BR_*`
abbrev pub branch_types : NumberTable
branch_types =
    (codes "UNKNOWN", 0) ∷ (codes "COND", 1) ∷ (codes "UNCOND", 2) ∷ (codes "IND", 3) ∷
    (codes "CALL", 4) ∷ (codes "IND_CALL", 5) ∷ (codes "RET", 6) ∷ (codes "SYSCALL", 7) ∷
    (codes "COND_CALL", 9) ∷ (codes "COND_RET", 10) ∷ []

-- trace formats, `PERF_AUX_FLAG_CORESIGHT_FORMAT_*` shifted down by eight bits
abbrev pub aux_pmu_format_types : NumberTable
aux_pmu_format_types = (codes "CORESIGHT", 0) ∷ (codes "CORESIGHT_RAW", 1) ∷ []

-- numbers of memory levels, `PERF_MEM_LVLNUM_*`
abbrev pub mem_level_nums : NumberTable
mem_level_nums =
    (codes "L1", 1) ∷ (codes "L2", 2) ∷ (codes "L3", 3) ∷ (codes "L4", 4) ∷
    (codes "ANY_CACHE", 11) ∷ (codes "LFB", 12) ∷ (codes "RAM", 13) ∷ (codes "PMEM", 14) ∷
    (codes "NA", 15) ∷ []

-- what happened to a BPF program, `PERF_BPF_EVENT_*`
abbrev pub bpf_event_types : NumberTable
bpf_event_types = (codes "UNKNOWN", 0) ∷ (codes "PROG_LOAD", 1) ∷ (codes "PROG_UNLOAD", 2) ∷ []

-- the kind of a kernel symbol, `PERF_RECORD_KSYMBOL_TYPE_*`
abbrev pub ksymbol_types : NumberTable
ksymbol_types = (codes "UNKNOWN", 0) ∷ (codes "BPF", 1) ∷ (codes "OOL", 2) ∷ []

-- ABIs of sampled registers, `PERF_SAMPLE_REGS_ABI_*`
abbrev pub sample_regs_abis : NumberTable
sample_regs_abis = (codes "NONE", 0) ∷ (codes "ABI_32", 1) ∷ (codes "ABI_64", 2) ∷ []
