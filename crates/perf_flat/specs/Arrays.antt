-- The numbers and the spans of a flat frame: 24 and eight.
use Rattle.std.specs.Prelude.{ℕ, ◌%◌, ◌^◌, List, ◌++◌, length, drop, replicate}
use Rattle.perf_flat.specs.declared.frame.Span.{Span}

-- the lowest 32 bits of a number
abbrev pub low_u32 : ℕ → ℕ
low_u32 n = n % 2 ^ 32

-- a span: its offset in the frame, and its length
abbrev pub span : (place length : ℕ) → Span
span place length = record { at = place; len = length }

-- a byte string at that offset
abbrev pub span_of_bytes : (place : ℕ) → List ℕ → Span
span_of_bytes place bytes = span (low_u32 place) (low_u32 (length bytes))

-- a span of no bytes, of what is absent
abbrev pub no_span : Span
no_span = span 0 0

-- these numbers, and zeros after them, 24 in all
unfoldable pub filled : List ℕ → List ℕ
filled numbers = numbers ++ drop (length numbers) (replicate 24 0)

-- these spans, and spans of no bytes after them, eight in all
unfoldable pub filled_spans : List Span → List Span
filled_spans spans = spans ++ drop (length spans) (replicate 8 no_span)
