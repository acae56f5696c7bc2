-- The names that contracts of parsing use.
pub use Rattle.perf_base.specs.Attribute.{attribute}
pub use Rattle.perf_base.specs.Configuration.{configured_by}
pub use Rattle.perf_base.specs.Layout.{layout}
pub use Rattle.perf_base.specs.Took.{took, took_by_places}
pub use Rattle.perf_base.specs.declared.sys.perf_event_attr.{perf_event_attr}
pub use Rattle.perf_base.specs.Configured.{endian_of, configuration_of}
pub use Rattle.perf_base.specs.Cow.{cow_items, is_borrowed}
pub use Rattle.perf_base.specs.Errors.{kind_of}
pub use Rattle.perf_base.specs.FieldWords.{name}
pub use Rattle.perf_base.specs.Header.{header_of}
pub use Rattle.perf_base.specs.Layout.{Parts, number, optional, byte_string, padding, rest, words, w1, w2}
pub use Rattle.perf_base.specs.Layout.{w4, w8}
pub use Rattle.perf_base.specs.LayoutReads.{one_if_any}
pub use Rattle.perf_base.specs.Refusals.{error_kinds, kind_if_refused, NeedsNoMemory, IsErrorOf}
pub use Rattle.perf_base.specs.declared.refusal.Refusal.TheVariants.{SmallHeader, NoRoomForId}
pub use Rattle.perf_base.specs.declared.sys.perf_event_header.{perf_event_header}
pub use Rattle.perf_buffers.specs.Cursor.{cursor_is_borrowed}
pub use Rattle.perf_buffers.specs.Room.{falls_short, is_made_beforehand}
pub use Rattle.perf_buffers.specs.Taking.{MovesWithin}
pub use Rattle.perf_reader.specs.ReaderState.{ReaderState}
pub use Rattle.perf_reader.specs.Reading.{Transition, Reads, ReadsPlain, ReadsInPlace, ReadsOne, ReadsNumber}
pub use Rattle.perf_reader.specs.Reading.{CallInvariant, of_layout}
pub use Rattle.perf_records.specs.Answers.{ReadsFrameAfter, answers, length_after, LeavesAllOrRest}
pub use Rattle.perf_records.specs.Answers.{RefusesHeader}
pub use Rattle.perf_records.specs.Bodies.{needs_memory}
pub use Rattle.perf_records.specs.Records.{IsBorrowed}
pub use Rattle.perf_records.specs.Gives.{GivesFrameAfter, GivesFrame, BelongsTo}
pub use Rattle.perf_sample_types.specs.Registers.{RegistersValue, registers_of, registers_value}
pub use Rattle.perf_parser.specs.Calls.{BasicInvariant, Counts, KeepsInvariant, Call, CallAs, CallOnly}
pub use Rattle.perf_parser.specs.Frames.{SplitsParser, SplitsFrame}
pub use Rattle.perf_parser.specs.ReaderState.{reader_of, parser_buffer, parser_config, parser_reads, parser_state}
