-- The definitions used in the contracts of reads of counters.
pub use Rattle.std.specs.List.{flat_map}
pub use Rattle.std.specs.Option.{option_copied}
pub use Rattle.std.specs.Result.{result_ok}
pub use Rattle.perf_words.specs.Bits.{has_bit}
pub use Rattle.perf_words.specs.SetBits.{sample_flags_bits, read_format_bits}
pub use Rattle.perf_words.specs.Sets.{element_len}
pub use Rattle.perf_base.specs.Configured.{configuration_of}
pub use Rattle.perf_base.specs.Copies.{KeepsForm, IsClone, IsOwnedCopy}
pub use Rattle.perf_base.specs.Cow.{cow_items, is_borrowed}
pub use Rattle.perf_base.specs.Errors.{kind_of}
pub use Rattle.perf_reader.specs.Prelude.{Call, Reads, ReadsPlain, ReadsInPlace, ReadsOne}
pub use Rattle.perf_reader.specs.Prelude.{NeedsNoMemory, kinds, words}
pub use Rattle.perf_counters.specs.ReadValue.{single_read}
pub use Rattle.perf_counters.specs.GroupEntry.{entry_with_id}
pub use Rattle.perf_counters.specs.GroupIter.{entries_left}
