-- Words of the kernel, decoded by hand: the values of their fields.
use Rattle.std.proofs.Common.{◌≡◌, true, false, refl}
use Rattle.perf_words.specs.DataSource.{mem_op_of, mem_lvl_of, mem_snoop_of, mem_lock_of, mem_dtlb_of, mem_lvl_num_of, mem_remote_of, mem_blk_of, mem_hops_of, snoop_of}
use Rattle.perf_words.specs.Branch.{mispred_of, predicted_of, in_tx_of, abort_of, cycles_of, branch_type_of}
use Rattle.perf_words.specs.Sets.{element_len}

-- A load that hit the first cache level: no snoop, a forwarded line, level number 1, from another
-- socket (PERF_MEM_HOPS_2).
record LoadIsRead : Type 0 where
  operation : mem_op_of 0x184200100142 ≡ 2
  level : mem_lvl_of 0x184200100142 ≡ 0xa
  snoop : mem_snoop_of 0x184200100142 ≡ 0x4000100000
  lock : mem_lock_of 0x184200100142 ≡ 0
  translation : mem_dtlb_of 0x184200100142 ≡ 0
  level_number : mem_lvl_num_of 0x184200100142 ≡ 1
  remote : mem_remote_of 0x184200100142 ≡ false
  block : mem_blk_of 0x184200100142 ≡ 0
  hops : mem_hops_of 0x184200100142 ≡ 3

load_is_read : LoadIsRead
load_is_read = record { operation = refl; level = refl; snoop = refl; lock = refl; translation = refl; level_number = refl; remote = refl; block = refl; hops = refl }

-- A branch that was mispredicted, five cycles after the previous one; its kind is unknown.
record BranchIsRead : Type 0 where
  mispredicted : mispred_of 0x51 ≡ true
  predicted : predicted_of 0x51 ≡ false
  in_transaction : in_tx_of 0x51 ≡ false
  aborted : abort_of 0x51 ≡ false
  cycles : cycles_of 0x51 ≡ 5
  kind : branch_type_of 0x51 ≡ 0

branch_is_read : BranchIsRead
branch_is_read = record { mispredicted = refl; predicted = refl; in_transaction = refl; aborted = refl; cycles = refl; kind = refl }

-- the same branch as a return
return_is_read : branch_type_of 0x600051 ≡ 6
return_is_read = refl

-- two fields with every bit set fill their seven bits and no others
snoop_is_cut : snoop_of 0xffffffffffffffff 0xffffffffffffffff ≡ 0xc000f80000
snoop_is_cut = refl

-- a counter with its id and its lost samples has three numbers
element_is_three : element_len 28 ≡ 3
element_is_three = refl
