-- A span: a record of a program's own, with a check and a length.
use Rattle.std.specs.Prelude.{ℕ, List, IsTrue, ◌==◌}
use Rattle.perf_base.specs.Cow.{cow_items, is_borrowed}
use Rattle.perf_base.specs.FieldWords.{u16, u64, bytes, require}
use Rattle.perf_base.specs.Layout.{Parts, done, ◌>>=◌, ◌>>◌}
use Rattle.perf_base.specs.declared.error.ErrorKind.TheVariants.{InvalidRecord}
use Rattle.perf_uses.specs.declared.own_span.Span.{Span}

-- a span in plain numbers and bytes
pub record SpanValue : Type 0 where
  pub start : ℕ
  pub duration : ℕ
  pub label : List ℕ

-- the value of a span
abbrev pub span_value : Span → SpanValue
span_value s = record { start = s.start; duration = s.duration; label = cow_items s.label }

-- the layout of a body: a version, which is 2; two times; and a label after its length
abbrev pub span_parts : Parts SpanValue
span_parts = do
  version ← u16
  require (version == 2) InvalidRecord
  start ← u64
  duration ← u64
  len ← u16
  label ← bytes len
  done (record { start = start; duration = duration; label = label })

-- no byte of it was copied
abbrev pub IsBorrowedSpan : Span → Type 0
IsBorrowedSpan s = IsTrue (is_borrowed s.label)
