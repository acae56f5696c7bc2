-- The flags of perf_event_open(2) and of the kernel's perf_event.h: for each set a table with a row
-- per flag, its name without the kernel's prefix and its bits.
use Rattle.std.specs.Prelude.{ℕ, ◌+◌, ◌*◌, ◌^◌, List, [], ◌∷◌, codes, if◌then◌else◌}
use Rattle.perf_words.specs.Bits.{has_bit}

-- a row per flag: its name and its bits
abbrev pub FlagTable : Type 0
FlagTable = List (List ℕ × ℕ)

-- the fields that a sample may have, `PERF_SAMPLE_*`: one bit per flag
abbrev pub sample_flags_table : FlagTable
sample_flags_table =
    (codes "IP", 2 ^ 0) ∷
    (codes "TID", 2 ^ 1) ∷
    (codes "TIME", 2 ^ 2) ∷
    (codes "ADDR", 2 ^ 3) ∷
    (codes "READ", 2 ^ 4) ∷
    (codes "CALLCHAIN", 2 ^ 5) ∷
    (codes "ID", 2 ^ 6) ∷
    (codes "CPU", 2 ^ 7) ∷
    (codes "PERIOD", 2 ^ 8) ∷
    (codes "STREAM_ID", 2 ^ 9) ∷
    (codes "RAW", 2 ^ 10) ∷
    (codes "BRANCH_STACK", 2 ^ 11) ∷
    (codes "REGS_USER", 2 ^ 12) ∷
    (codes "STACK_USER", 2 ^ 13) ∷
    (codes "WEIGHT", 2 ^ 14) ∷
    (codes "DATA_SRC", 2 ^ 15) ∷
    (codes "IDENTIFIER", 2 ^ 16) ∷
    (codes "TRANSACTION", 2 ^ 17) ∷
    (codes "REGS_INTR", 2 ^ 18) ∷
    (codes "PHYS_ADDR", 2 ^ 19) ∷
    (codes "AUX", 2 ^ 20) ∷
    (codes "CGROUP", 2 ^ 21) ∷
    (codes "DATA_PAGE_SIZE", 2 ^ 22) ∷
    (codes "CODE_PAGE_SIZE", 2 ^ 23) ∷
    (codes "WEIGHT_STRUCT", 2 ^ 24) ∷
    []

-- what a read returns besides a counter's value, `PERF_FORMAT_*`
abbrev pub read_format_table : FlagTable
read_format_table =
    (codes "TOTAL_TIME_ENABLED", 1) ∷
    (codes "TOTAL_TIME_RUNNING", 2) ∷
    (codes "ID", 4) ∷
    (codes "GROUP", 8) ∷
    (codes "LOST", 16) ∷
    []

-- the flags of an AUX record, `PERF_AUX_FLAG_*`; the last is the mask of a number
abbrev pub aux_flags_table : FlagTable
aux_flags_table =
    (codes "TRUNCATED", 1) ∷
    (codes "OVERWRITE", 2) ∷
    (codes "PARTIAL", 4) ∷
    (codes "COLLISION", 8) ∷
    (codes "PMU_FORMAT_MASK", 0xff00) ∷
    []

-- the flags of a KSYMBOL record, `PERF_RECORD_KSYMBOL_FLAGS_*`
abbrev pub ksymbol_flags_table : FlagTable
ksymbol_flags_table =
    (codes "UNREGISTER", 1) ∷
    []

-- what a memory instruction did, `PERF_MEM_OP_*`
abbrev pub mem_op_table : FlagTable
mem_op_table =
    (codes "NA", 1) ∷
    (codes "LOAD", 2) ∷
    (codes "STORE", 4) ∷
    (codes "PFETCH", 8) ∷
    (codes "EXEC", 16) ∷
    []

-- where in the memory hierarchy an access ended, `PERF_MEM_LVL_*`
abbrev pub mem_level_table : FlagTable
mem_level_table =
    (codes "NA", 1) ∷
    (codes "HIT", 2) ∷
    (codes "MISS", 4) ∷
    (codes "L1", 8) ∷
    (codes "LFB", 0x10) ∷
    (codes "L2", 0x20) ∷
    (codes "L3", 0x40) ∷
    (codes "LOC_RAM", 0x80) ∷
    (codes "REM_RAM1", 0x100) ∷
    (codes "REM_RAM2", 0x200) ∷
    (codes "REM_CCE1", 0x400) ∷
    (codes "REM_CCE2", 0x800) ∷
    (codes "IO", 0x1000) ∷
    (codes "UNC", 0x2000) ∷
    []

-- whether an access held a lock, `PERF_MEM_LOCK_*`
abbrev pub mem_lock_table : FlagTable
mem_lock_table =
    (codes "NA", 1) ∷
    (codes "LOCKED", 2) ∷
    []

-- how an address was translated, `PERF_MEM_TLB_*`
abbrev pub mem_dtlb_table : FlagTable
mem_dtlb_table =
    (codes "NA", 1) ∷
    (codes "HIT", 2) ∷
    (codes "MISS", 4) ∷
    (codes "L1", 8) ∷
    (codes "L2", 16) ∷
    (codes "WK", 32) ∷
    (codes "OS", 64) ∷
    []

-- more of a snoop, as bits of their own field, `PERF_MEM_SNOOPX_*`
abbrev pub mem_snoop_x_table : FlagTable
mem_snoop_x_table =
    (codes "FWD", 1) ∷
    (codes "PEER", 2) ∷
    []

-- why an access was blocked, `PERF_MEM_BLK_*`
abbrev pub mem_blk_table : FlagTable
mem_blk_table =
    (codes "NA", 1) ∷
    (codes "DATA", 2) ∷
    (codes "ADDR", 4) ∷
    []

-- both snoop fields, at their positions in a data source, `PERF_MEM_SNOOP_*` and
-- `PERF_MEM_SNOOPX_*`
abbrev pub mem_snoop_table : FlagTable
mem_snoop_table =
    (codes "NA", 1 * 2 ^ 19) ∷
    (codes "NONE", 2 * 2 ^ 19) ∷
    (codes "HIT", 4 * 2 ^ 19) ∷
    (codes "MISS", 8 * 2 ^ 19) ∷
    (codes "HITM", 16 * 2 ^ 19) ∷
    (codes "FWD", 1 * 2 ^ 38) ∷
    (codes "PEER", 2 * 2 ^ 38) ∷
    []

-- what a memory transaction did, `PERF_TXN_*`; the last is the mask of a number
abbrev pub txn_table : FlagTable
txn_table =
    (codes "ELISION", 1) ∷
    (codes "TRANSACTION", 2) ∷
    (codes "SYNC", 4) ∷
    (codes "ASYNC", 8) ∷
    (codes "RETRY", 16) ∷
    (codes "CONFLICT", 32) ∷
    (codes "CAPACITY_WRITE", 64) ∷
    (codes "CAPACITY_READ", 128) ∷
    (codes "ABORT_MASK", 0xffffffff * 2 ^ 32) ∷
    []

-- how many numbers each counter of a group has: its value, its id if bit ID is set, and its lost
-- samples if bit LOST is set
abbrev pub element_len : (read_format : ℕ) → ℕ
element_len read_format =
    1 + (if has_bit read_format 2 then 1 else 0) + (if has_bit read_format 4 then 1 else 0)
