-- The names that contracts of records of every type are written in.
pub use Rattle.perf_base.specs.Configured.{configuration_of, endian_of}
pub use Rattle.perf_base.specs.Cow.{cow_items, is_borrowed}
pub use Rattle.perf_base.specs.Layout.{value}
pub use Rattle.perf_base.specs.LayoutReads.{layout_reads}
pub use Rattle.perf_base.specs.declared.error.ErrorKind.TheVariants.{InvalidRecord, OutOfMemory}
pub use Rattle.perf_base.specs.declared.refusal.Refusal.TheVariants.{SmallHeader, NoRoomForId}
pub use Rattle.perf_buffers.specs.Cursor.{cursor_left, cursor_is_borrowed}
pub use Rattle.perf_buffers.specs.Room.{falls_short, is_made_beforehand}
pub use Rattle.perf_buffers.specs.Taking.{MovesWithin}
pub use Rattle.perf_reader.specs.Reading.{is_external, one_if_refused}
pub use Rattle.perf_reader.specs.Prelude.{Call, kinds, error_kinds, NeedsNoMemory, input_of, config_of}
pub use Rattle.perf_reader.specs.Prelude.{reads_of, kind_if_refused, refusal_kind}
pub use Rattle.perf_records.specs.Answers.{SplitsAfter, ReadsFrameAfter, ReadsFrame}
pub use Rattle.perf_records.specs.Answers.{length_after, answered_parts, frame_parts, parts_of, id_reads}
pub use Rattle.perf_records.specs.Answers.{LeavesAllOrRest, RefusesHeader, ReadsRecord}
pub use Rattle.perf_records.specs.Bodies.{body, needs_memory}
pub use Rattle.perf_records.specs.Metadata.{MetadataValue, carries_sample_id, id_of_type, id_length}
pub use Rattle.perf_records.specs.Records.{record_value, IsBorrowed, aux_is, aux_output_hw_id_is}
pub use Rattle.perf_records.specs.Records.{bpf_event_is, cgroup_is, comm_is, exit_is, fork_is}
pub use Rattle.perf_records.specs.Records.{itrace_start_is, ksymbol_is, lost_is, lost_samples_is}
pub use Rattle.perf_records.specs.Records.{mmap2_is, mmap_is, namespaces_is, read_is, sample_is}
pub use Rattle.perf_records.specs.Records.{switch_is, switch_cpu_wide_is, text_poke_is, throttle_is}
pub use Rattle.perf_records.specs.Records.{unthrottle_is, unknown_is, aux_value, bpf_event_value}
pub use Rattle.perf_records.specs.Records.{cgroup_value, comm_value, ksymbol_value, mmap2_value}
pub use Rattle.perf_records.specs.Records.{mmap_value, namespaces_value, sample_value, task_read}
pub use Rattle.perf_records.specs.Records.{text_poke_value}
pub use Rattle.perf_records.specs.Gives.{Event, event, is_borrowed_sample, is_borrowed_text_poke}
pub use Rattle.perf_records.specs.Gives.{GivesRecord, IsRecordOf, IsSampleOf, IsSampleIn}
pub use Rattle.perf_records.specs.Gives.{MakesRecord, MakesNoSample}
pub use Rattle.perf_records.specs.Gives.{GivesType, GivesUnknown, GivesBody}
pub use Rattle.perf_records.specs.Gives.{GivesWholeBody, GivesFrameAfter, GivesFrame, BelongsTo}
pub use Rattle.perf_records.specs.Gives.{GivesOrLeavesOut}
pub use Rattle.perf_records.specs.Shown.{GivesFrameBytes}
pub use Rattle.perf_sample_types.specs.SampleGroups.{IsBorrowedSample}
