-- What is at the spans of a flat frame, by its record.
use Rattle.std.specs.Prelude.{ℕ, ◌*◌, ◌≡◌, List, length}
use Rattle.perf_base.specs.Order.{Order}
use Rattle.perf_types.specs.Namespaces.{namespace_entries}
use Rattle.perf_records.specs.Records.{RecordValue, namespaces_is, sample_is}
use Rattle.perf_flat.specs.Samples.{HasSampleSpans}
use Rattle.perf_flat.specs.Strings.{span_at, strings_of, HasNumbers, HasStrings, NoSpansFrom}
use Rattle.perf_flat.specs.declared.frame.Span.{Span}

-- The spans of a record: those of its byte strings, or of its lists.
abbrev pub HasSpans : (read_format : ℕ) → Order → (frame : List ℕ) → List Span → RecordValue → Type 0
HasSpans read_format o frame spans (namespaces_is r) =
    HasNumbers o frame (span_at spans 0) (2 * length r.namespaces)
    (λ words. namespace_entries words ≡ r.namespaces)
    × NoSpansFrom spans 1
HasSpans read_format o frame spans (sample_is s) = HasSampleSpans read_format o frame spans s
HasSpans read_format o frame spans value = HasStrings frame spans 0 (strings_of value)
