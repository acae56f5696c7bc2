-- The definitions used in the contracts of buffers and inputs.
pub use Rattle.std.specs.Borrow.{sem}
pub use Rattle.std.specs.Io.BufRead.{Rests}
pub use Rattle.std.specs.Io.Buffered.{reader_remaining, reader_buffer}
pub use Rattle.perf_base.specs.Cow.{cow_items, is_borrowed}
pub use Rattle.perf_base.specs.Errors.{kind_of}
pub use Rattle.perf_base.specs.Refusals.{refusal_kind, kinds, kind_if_refused, NeedsNoMemory}
pub use Rattle.perf_base.specs.Zeros.{all_zero}
pub use Rattle.perf_base.specs.declared.error.ErrorKind.TheVariants.{Eof, OutOfMemory}
pub use Rattle.perf_buffers.specs.Buffer.{Source, BufferInvariant, Shows, ShowsReady, Refuses, KeepsChunk}
pub use Rattle.perf_buffers.specs.Buffer.{Advances, chunk_bytes, known_bytes, has_known_bytes, RefusesReader}
pub use Rattle.perf_buffers.specs.Buffer.{CallNeedsNoMemory, kind_if_failed, chunk_is_borrowed}
pub use Rattle.perf_buffers.specs.Cursor.{cursor_left, cursor_is_borrowed, IsAtStart, content_left, content_is_borrowed}
pub use Rattle.perf_buffers.specs.Cursor.{ContentIsAtStart}
pub use Rattle.perf_buffers.specs.Room.{falls_short, is_made_beforehand, makes_all_room, first_capacity}
pub use Rattle.perf_buffers.specs.Taking.{Takes, FailsToTake, FailsToKeep, FailsInRest, CanFail}
pub use Rattle.perf_buffers.specs.Taking.{TakesAtOnce}
pub use Rattle.perf_buffers.specs.FrameBytes.{GivesNextBytes}
