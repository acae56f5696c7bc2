-- Where accessed data came from, `union perf_mem_data_src` of perf_event.h: one word of bit fields.
use Rattle.std.specs.Prelude.{ℕ, ◌+◌, ◌*◌, ◌%◌, ◌^◌, Bool}
use Rattle.perf_words.specs.Bits.{bit_field, has_bit}

-- what the instruction did
abbrev pub mem_op_of : ℕ → ℕ
mem_op_of word = bit_field word 0 5

-- where in the memory hierarchy the access ended
abbrev pub mem_lvl_of : ℕ → ℕ
mem_lvl_of word = bit_field word 5 14

-- both snoop fields as one number, each at its position in a data source
abbrev pub snoop_of : (snoop snoopx : ℕ) → ℕ
snoop_of snoop snoopx = (snoop % 32) * 2 ^ 19 + (snoopx % 4) * 2 ^ 38

-- what was found in other caches: the snoop fields, kept at their positions
abbrev pub mem_snoop_of : ℕ → ℕ
mem_snoop_of word = bit_field word 19 5 * 2 ^ 19 + bit_field word 38 2 * 2 ^ 38

-- whether the access held a lock
abbrev pub mem_lock_of : ℕ → ℕ
mem_lock_of word = bit_field word 24 2

-- how the address was translated
abbrev pub mem_dtlb_of : ℕ → ℕ
mem_dtlb_of word = bit_field word 26 7

-- the number of the memory level
abbrev pub mem_lvl_num_of : ℕ → ℕ
mem_lvl_num_of word = bit_field word 33 4

-- whether the access went to another node
abbrev pub mem_remote_of : ℕ → Bool
mem_remote_of word = has_bit word 37

-- why the access was blocked
abbrev pub mem_blk_of : ℕ → ℕ
mem_blk_of word = bit_field word 40 3

-- how far the data came: 0 is not given, and n is PERF_MEM_HOPS_(n - 1)
abbrev pub mem_hops_of : ℕ → ℕ
mem_hops_of word = bit_field word 43 3
