use Rattle.std.proofs.Common.{◌≡◌, ◌++◌, string_bytes}
use Rattle.std.specs.Str.Chunks.{utf8_chunks_rest}
use Rattle.perf_reports.specs.TaskLines.{escape_name}
use Rattle.perf_reports.proofs.names.push_name.Given as goal

abbrev pub invariant-loop-chunk : goal.invariant-loop-chunk
invariant-loop-chunk l = string_bytes l.text ++ escape_name (utf8_chunks_rest l.chunk-iterator) ≡ string_bytes l.initial.text ++ escape_name l.bytes
