-- The text that the program writes: a line for each frame, and a last one that states how reading ended.
use Rattle.std.specs.Prelude.{ℕ, Bool, true, false, List, [], ◌++◌, length, take, drop}
use Rattle.std.specs.Prelude.{nat_le, codes, Result, Ok, Err, if◌then◌else◌}
use Rattle.std.specs.List.{flat_map, enumerate_from}
use Rattle.perf_base.specs.Order.{Order}
use Rattle.perf_base.specs.Configuration.{Configuration, plain, configured_by}
use Rattle.perf_base.specs.Attribute.{attribute}
use Rattle.perf_base.specs.Layout.{layout}
use Rattle.perf_base.specs.declared.sys.perf_event_header.{perf_event_header}
use Rattle.perf_base.specs.declared.error.ErrorKind.{ErrorKind}
use Rattle.perf_records.specs.Records.{RecordValue}
use Rattle.perf_records.specs.Frames.{StreamEnd, done, cut_header, stream_end}
use Rattle.perf_records.specs.Answers.{answers}
use Rattle.perf_lines.specs.Text.{kind_name, line, with_line_feed}

-- the lines of results, numbered from a first number
abbrev pub lines_from : ℕ → List (perf_event_header × Result RecordValue ErrorKind) → List ℕ
lines_from first pairs =
    flat_map (λ numbered. with_line_feed (line numbered.0 numbered.1.0 numbered.1.1))
    (enumerate_from first pairs)

-- the line that states how reading ended
abbrev pub end_line : List ℕ → List ℕ
end_line how = with_line_feed (codes "end " ++ how)

-- ---- the text

-- the results that are printed: the first ones, at most limit of them
abbrev pub first_answers : Configuration → Order → ℕ → List ℕ →
    List (perf_event_header × Result RecordValue ErrorKind)
first_answers c o limit bytes = take limit (answers c o bytes)

-- whether the text ends because of the limit
abbrev pub is_at_limit : Configuration → Order → ℕ → List ℕ → Bool
is_at_limit c o limit bytes = nat_le limit (length (answers c o bytes))

-- how the frames of a stream end: after one, or inside a header
abbrev pub end_name : StreamEnd → List ℕ
end_name done = codes "done"
end_name cut_header = codes "cut"

-- The text of a stream for a limit: a line for each printed result, and then the end.
abbrev pub text : Configuration → Order → ℕ → List ℕ → List ℕ
text c o limit bytes =
    lines_from 0 (first_answers c o limit bytes)
    ++ end_line
    (if is_at_limit c o limit bytes then codes "limit" else end_name (stream_end o bytes))

-- ---- a stream that may begin with an attribute

-- What a stream is read as: frames under a configuration, or none, if its attribute is refused.
pub data Stream : Type 0 where
  framed : Configuration → List ℕ → Stream
  without_frames : ErrorKind → Stream

-- A stream with an attribute at its start: if that is accepted, its configuration applies to the
-- bytes after it, which begin where its size specifies. It is unfolded only if a proof asks for it.
unfoldable pub stream_after_attribute : Order → List ℕ → Stream
stream_after_attribute o bytes =
    elim (layout o attribute bytes) [
      | Ok a ↦ framed (configured_by a) (drop a.size bytes)
      | Err kind ↦ without_frames kind
    ]

-- Without an attribute the plain configuration applies to all bytes.
abbrev pub stream_of : (with_attr : Bool) → Order → List ℕ → Stream
stream_of false o bytes = framed plain bytes
stream_of true o bytes = stream_after_attribute o bytes

-- the line of a refused attribute
abbrev pub attr_line : ErrorKind → List ℕ
attr_line kind = with_line_feed (codes "attr refused " ++ kind_name kind)

-- the results of the frames of a stream
abbrev pub stream_answers : Order → Stream → List (perf_event_header × Result RecordValue ErrorKind)
stream_answers o (framed c bytes) = answers c o bytes
stream_answers o (without_frames kind) = []

-- The text of a stream: that of its frames, or the line that states why its attribute is refused.
abbrev pub stream_text : Order → ℕ → Stream → List ℕ
stream_text o limit (framed c bytes) = text c o limit bytes
stream_text o limit (without_frames kind) = attr_line kind
