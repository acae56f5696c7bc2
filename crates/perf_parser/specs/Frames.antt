-- How a frame is split into its metadata and a parser of its body.
use Rattle.std.specs.Prelude.{◌≡◌, false}
use Rattle.perf_base.specs.Refusals.{kind_if_refused}
use Rattle.perf_base.specs.declared.sys.perf_event_header.{perf_event_header}
use Rattle.perf_buffers.specs.Cursor.{cursor_left}
use Rattle.perf_buffers.specs.declared.cursor.ParseBufCursor.{ParseBufCursor}
use Rattle.perf_buffers.specs.Taking.{MovesWithin}
use Rattle.perf_reader.specs.Reading.{Transition, is_external}
use Rattle.perf_records.specs.Answers.{FrameParts, AnswersExactly, split_after, split_of_frame}
use Rattle.perf_records.specs.Answers.{split_reads, frame_reads, length_after}
use Rattle.perf_records.specs.Frames.{frame_length}
use Rattle.perf_records.specs.Metadata.{MetadataValue}
use Rattle.perf_parser.specs.ReaderState.{parser_buffer}
use Rattle.perf_parser.specs.declared.parser.Parser.{Parser}

-- the parts of a frame that a call returns: a parser of the body, and the metadata
abbrev pub parsed_parts : {E : Type 0} → Parser ParseBufCursor E × MetadataValue → FrameParts
parsed_parts pair = record { metadata = pair.1; body = cursor_left (parser_buffer pair.0) }

-- how a frame is split after its header; exactly its body and its sample id are taken
abbrev pub SplitsParser : {E : Type 0} → perf_event_header →
    Transition (Parser ParseBufCursor E × MetadataValue)
SplitsParser h old outcome new =
    let c = old.settings in let o = old.order in let bytes = old.source.left in
    AnswersExactly parsed_parts (split_after c o h bytes) (length_after h) (split_reads c o h bytes)
    old outcome new

-- The same of a frame with its header, which is three elementary reads. If it is refused, except by
-- a fault, a prefix of the frame is taken.
abbrev pub SplitsFrame : {E : Type 0} → Transition (Parser ParseBufCursor E × MetadataValue)
SplitsFrame old outcome new =
    let c = old.settings in let o = old.order in let bytes = old.source.left in
    AnswersExactly parsed_parts (split_of_frame c o bytes) (frame_length o bytes)
    (frame_reads (split_reads c o) o bytes) old outcome new
    × (is_external (kind_if_refused outcome) ≡ false →
    MovesWithin old.source (frame_length o bytes) new.source)
