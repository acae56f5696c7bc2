-- The names that contracts of reading use.
pub use Rattle.perf_base.specs.Cow.{cow_items, is_borrowed}
pub use Rattle.perf_base.specs.Layout.{Parts, number, optional, byte_string, padding, rest, words, w1, w2}
pub use Rattle.perf_base.specs.Layout.{w4, w8}
pub use Rattle.perf_base.specs.LayoutReads.{one_if_any}
pub use Rattle.perf_base.specs.Refusals.{kinds, error_kinds, refusal_kind, kind_if_refused, NeedsNoMemory}
pub use Rattle.perf_base.specs.declared.error.ErrorKind.TheVariants.{OutOfMemory}
pub use Rattle.perf_buffers.specs.Buffer.{BufferInvariant, Refuses}
pub use Rattle.perf_buffers.specs.Cursor.{cursor_left, cursor_is_borrowed, IsAtStart}
pub use Rattle.perf_buffers.specs.Room.{falls_short, is_made_beforehand}
pub use Rattle.perf_buffers.specs.Taking.{Takes, FailsToKeep, CanFail, MovesWithin}
pub use Rattle.perf_reader.specs.AtOnce.{ReadsAtOnce, PassesOver}
pub use Rattle.perf_reader.specs.Calls.{Call}
pub use Rattle.perf_reader.specs.ReaderState.{ReaderState, input_of, buffer_of, config_of, reads_of}
pub use Rattle.perf_reader.specs.ReaderState.{state_of}
pub use Rattle.perf_reader.specs.Reading.{Transition, Reads, ReadsPlain, ReadsInPlace, ReadsOne, ReadsNumber}
pub use Rattle.perf_reader.specs.Reading.{CallInvariant, of_layout}
