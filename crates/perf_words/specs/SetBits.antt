-- The bits of a set of flags, as the number that the kernel writes: a set as contracts see it.
use Rattle.std.specs.Prelude.{ℕ}
use Rattle.perf_words.specs.declared.flags.SampleFlags.{SampleFlags}
use Rattle.perf_words.specs.declared.flags.ReadFormat.{ReadFormat}
use Rattle.perf_words.specs.declared.flags.AuxFlags.{AuxFlags}
use Rattle.perf_words.specs.declared.flags.KSymbolFlags.{KSymbolFlags}
use Rattle.perf_words.specs.declared.data_source.MemOp.{MemOp}
use Rattle.perf_words.specs.declared.data_source.MemLevel.{MemLevel}
use Rattle.perf_words.specs.declared.data_source.MemLock.{MemLock}
use Rattle.perf_words.specs.declared.data_source.MemDtlb.{MemDtlb}
use Rattle.perf_words.specs.declared.data_source.MemSnoopX.{MemSnoopX}
use Rattle.perf_words.specs.declared.data_source.MemBlk.{MemBlk}
use Rattle.perf_words.specs.declared.data_source.MemSnoop.{MemSnoop}
use Rattle.perf_words.specs.declared.data_source.Txn.{Txn}

-- the bits of a set of `SampleFlags`
abbrev pub sample_flags_bits : SampleFlags → ℕ
sample_flags_bits set = set.0

-- the bits of a set of `ReadFormat`
abbrev pub read_format_bits : ReadFormat → ℕ
read_format_bits set = set.0

-- the bits of a set of `AuxFlags`
abbrev pub aux_flags_bits : AuxFlags → ℕ
aux_flags_bits set = set.0

-- the bits of a set of `KSymbolFlags`
abbrev pub ksymbol_flags_bits : KSymbolFlags → ℕ
ksymbol_flags_bits set = set.0

-- the bits of a set of `MemOp`
abbrev pub mem_op_bits : MemOp → ℕ
mem_op_bits set = set.0

-- the bits of a set of `MemLevel`
abbrev pub mem_level_bits : MemLevel → ℕ
mem_level_bits set = set.0

-- the bits of a set of `MemLock`
abbrev pub mem_lock_bits : MemLock → ℕ
mem_lock_bits set = set.0

-- the bits of a set of `MemDtlb`
abbrev pub mem_dtlb_bits : MemDtlb → ℕ
mem_dtlb_bits set = set.0

-- the bits of a set of `MemSnoopX`
abbrev pub mem_snoop_x_bits : MemSnoopX → ℕ
mem_snoop_x_bits set = set.0

-- the bits of a set of `MemBlk`
abbrev pub mem_blk_bits : MemBlk → ℕ
mem_blk_bits set = set.0

-- the bits of a set of `MemSnoop`
abbrev pub mem_snoop_bits : MemSnoop → ℕ
mem_snoop_bits set = set.0

-- the bits of a set of `Txn`
abbrev pub txn_bits : Txn → ℕ
txn_bits set = set.0
