-- A frame that was split, and a parser of its body.
use Rattle.std.proofs.Common.{◌≡◌, Ok, Err, None, Some, arith, sym, ◌∙◌, ap}
use Rattle.perf_base.specs.declared.error.ErrorKind.TheVariants.{OutOfMemory}
use Rattle.perf_base.specs.declared.sys.perf_event_header.{perf_event_header}
use Rattle.perf_buffers.specs.Cursor.{cursor_left}
use Rattle.perf_buffers.specs.declared.cursor.ParseBufCursor.{ParseBufCursor}
use Rattle.perf_reader.specs.ReaderState.{ReaderState}
use Rattle.perf_reader.specs.Reading.{CallInvariant}
use Rattle.perf_records.specs.Answers.{SplitsAfter}
use Rattle.perf_records.specs.Metadata.{MetadataValue}
use Rattle.perf_parser.specs.Frames.{SplitsParser}
use Rattle.perf_parser.specs.ReaderState.{parser_buffer}
use Rattle.perf_parser.specs.declared.parser.Parser.{Parser}

-- with a parser of it
pub split_parsed : {E : Type 0} (h : perf_event_header) (old new : ReaderState) (body : ParseBufCursor) (metadata : MetadataValue) (parser : Parser ParseBufCursor E) →
    parser_buffer parser ≡ body → SplitsAfter h old (Ok (body, metadata)) new → SplitsParser h old (Ok (parser, metadata)) new
split_parsed h old new body metadata parser same p =
    (p.0 ∙ ap (λ (b : ParseBufCursor). Ok (record { metadata = metadata; body = cursor_left b })) (sym same), p.1, p.2)

-- without one, of which nothing is stated
pub split_unparsed : (E : Type 0) (h : perf_event_header) (old new : ReaderState) → SplitsParser {E = E} h old (Err OutOfMemory) new
split_unparsed E h old new = λ layout. cc

pub keeps_unparsed : (start new : ReaderState) → CallInvariant start None new → CallInvariant start (Some OutOfMemory) new
keeps_unparsed start new k = record {
  buffer = k.buffer;
  fault = λ x. cc;
  cost = λ t. let m = k.cost t in (m.0, omega (arith, m.1));
  place = k.place;
}
