-- The names that the contracts of a run of the program use.
pub use Rattle.std.specs.List.{list_any}
pub use Rattle.perf_base.specs.Configuration.{plain}
pub use Rattle.perf_base.specs.Configured.{configuration_of, endian_of}
pub use Rattle.perf_base.specs.Errors.{kind_of}
pub use Rattle.perf_parser.specs.ReaderState.{parser_buffer, parser_config}
pub use Rattle.perf_reader.specs.Reading.{of_layout}
pub use Rattle.perf_run.specs.Outcomes.{IsWritten, Writes, ending_line, ending_outcome}
