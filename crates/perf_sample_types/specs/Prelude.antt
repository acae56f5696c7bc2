-- The names that contracts of samples are written in.
pub use Rattle.perf_base.specs.Layout.{Parts}
pub use Rattle.perf_base.specs.Cow.{cow_items, is_borrowed}
pub use Rattle.perf_reader.specs.TableRuns.{ReadsBorrowed, ReadsField, ReadsTable}
pub use Rattle.perf_counters.specs.Prelude.{Call, IsClone, Reads, kinds}
pub use Rattle.perf_sample_types.specs.Sample.{sample}
pub use Rattle.perf_sample_types.specs.SampleGetters.{getters_of, sample_id_of, fields_getters}
pub use Rattle.perf_sample_types.specs.SampleGetters.{IsBorrowedFields}
pub use Rattle.perf_sample_types.specs.SampleForms.{sample_form, fields_form}
pub use Rattle.perf_sample_types.specs.SampleGroups.{sample_value, IsBorrowedSample}
pub use Rattle.perf_sample_types.specs.SampleBoxed.{boxed_value, IsBorrowedBox}
pub use Rattle.perf_sample_types.specs.Registers.{registers_value}
pub use Rattle.perf_counters.specs.ReadGroup.{group_read}
pub use Rattle.perf_words.specs.SetBits.{txn_bits}
