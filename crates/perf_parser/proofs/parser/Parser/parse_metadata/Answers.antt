use Rattle.std.proofs.Common.{Ok, Err, ◌∙◌, subst}
use Rattle.std.specs.Prelude.{Result}
use Rattle.perf_base.specs.Configured.{configuration_of, endian_of}
use Rattle.perf_base.specs.Errors.{kind_of}
use Rattle.perf_base.specs.Header.{header as header_parts}
use Rattle.perf_base.specs.declared.config.ParseConfig.{ParseConfig}
use Rattle.perf_base.specs.declared.error.ErrorKind.{ErrorKind}
use Rattle.perf_buffers.specs.declared.cursor.ParseBufCursor.{ParseBufCursor}
use Rattle.perf_reader.specs.ReaderState.{ReaderState}
use Rattle.perf_records.specs.Answers.{AnswersExactly, length_after, split_after, split_reads}
use Rattle.perf_records.specs.Metadata.{MetadataValue}
use Rattle.perf_records.proofs.Headers.{header_read, header_unread, tells_frame, tells_no_header, no_header_within, frame_within, refuses_read, refuses_unread}
use Rattle.perf_records.proofs.LayoutResults.{took_ran, quit_stopped}
use Rattle.perf_parser.specs.Frames.{parsed_parts}
use Rattle.perf_parser.specs.ReaderState.{parser_state}
use Rattle.perf_parser.specs.declared.parser.Parser.{Parser}
use Rattle.perf_parser.proofs.parser.Parser.parse_metadata.Goals as goal

-- the header was refused
pub returns-in-Err-clause-call : goal.returns-in-Err-clause-call
returns-in-Err-clause-call g c =
    let old : ReaderState = parser_state g.B.ParseBuf.source g.E.Endian.order c.args.self.now in
    let new : ReaderState = parser_state g.B.ParseBuf.source g.E.Endian.order c.parse.new.self in
    let kind : ErrorKind = kind_of c.in-Err.error in
    let read = c.in-Err.ensures.call in record {
      config = read.config;
      whole = read.whole;
      told = read.told;
      answer = λ told.
          let transition = read.answer told in (
            (λ layout.
                let q = quit_stopped old.order header_parts old.source.left new.source.left old.reads new.reads kind (transition.0 layout) in
                let h = header_unread old.order old.source.left new.source.left kind q.0 in
                tells_no_header (parsed_parts {E = g.row.E.Denot}) (split_after old.settings old.order) (split_reads old.settings old.order) old new kind h.0 h.1 h.2 q.1 layout),
            (λ inside. no_header_within old.order old.source new.source kind
                (λ layout. header_unread old.order old.source.left new.source.left kind (quit_stopped old.order header_parts old.source.left new.source.left old.reads new.reads kind (transition.0 layout)).0)
                transition.1 inside),
          );
      counted = read.counted;
      follows = read.follows;
    }

-- the header was read, and the rest too
pub returns-in-Ok-parse_metadata_with_header-clause-call : goal.returns-in-Ok-parse_metadata_with_header-clause-call
returns-in-Ok-parse_metadata_with_header-clause-call g c =
    let old : ReaderState = parser_state g.B.ParseBuf.source g.E.Endian.order c.args.self.now in
    let mid : ReaderState = parser_state g.B.ParseBuf.source g.E.Endian.order c.parse.new.self in
    let new : ReaderState = parser_state g.B.ParseBuf.source g.E.Endian.order c.parse_metadata_with_header.new.self in
    let header = c.in-Ok.header in
    let outcome : Result (Parser ParseBufCursor g.row.E.Denot × MetadataValue) ErrorKind = Ok c.in-Ok-parse_metadata_with_header.parts in
    let read = c.in-Ok.ensures.call in
    let after = c.in-Ok-parse_metadata_with_header.ensures in
    let rest = after.call in
    let P : ParseConfig g.row.E.Denot → Type 0 = λ k. AnswersExactly parsed_parts (split_after (configuration_of k) (g.E.Endian.order (endian_of k)) header mid.source.left) (length_after header)
    (split_reads (configuration_of k) (g.E.Endian.order (endian_of k)) header mid.source.left) mid outcome new in record {
      config = rest.config ∙ read.config;
      whole = rest.whole ∙ read.whole;
      told = λ told. rest.told (read.told told);
      answer = λ told.
          let q = took_ran old.order header_parts old.source.left mid.source.left old.reads mid.reads header (read.answer told).0 in
          let h = header_read old.order old.source.left mid.source.left header q.0 in (
            tells_frame parsed_parts (split_after old.settings old.order) (split_reads old.settings old.order) old mid new header outcome h.0 h.1 h.2 q.1 (subst P read.config (rest.answer (read.told told))),
            (λ inside. frame_within old.order old.source mid.source new.source header h.0 h.1 h.2 (after.within (read.told told))),
          );
      counted = λ start p. rest.counted start (read.counted start p);
      follows = λ start p. rest.follows start (read.follows start p);
    }

-- the header was read, and the rest refused
pub returns-in-Err-parse_metadata_with_header-clause-call : goal.returns-in-Err-parse_metadata_with_header-clause-call
returns-in-Err-parse_metadata_with_header-clause-call g c =
    let old : ReaderState = parser_state g.B.ParseBuf.source g.E.Endian.order c.args.self.now in
    let mid : ReaderState = parser_state g.B.ParseBuf.source g.E.Endian.order c.parse.new.self in
    let new : ReaderState = parser_state g.B.ParseBuf.source g.E.Endian.order c.parse_metadata_with_header.new.self in
    let header = c.in-Ok.header in
    let outcome : Result (Parser ParseBufCursor g.row.E.Denot × MetadataValue) ErrorKind = Err (kind_of c.in-Err-parse_metadata_with_header.error) in
    let read = c.in-Ok.ensures.call in
    let after = c.in-Err-parse_metadata_with_header.ensures in
    let rest = after.call in
    let P : ParseConfig g.row.E.Denot → Type 0 = λ k. AnswersExactly parsed_parts (split_after (configuration_of k) (g.E.Endian.order (endian_of k)) header mid.source.left) (length_after header)
    (split_reads (configuration_of k) (g.E.Endian.order (endian_of k)) header mid.source.left) mid outcome new in record {
      config = rest.config ∙ read.config;
      whole = rest.whole ∙ read.whole;
      told = λ told. rest.told (read.told told);
      answer = λ told.
          let q = took_ran old.order header_parts old.source.left mid.source.left old.reads mid.reads header (read.answer told).0 in
          let h = header_read old.order old.source.left mid.source.left header q.0 in (
            tells_frame parsed_parts (split_after old.settings old.order) (split_reads old.settings old.order) old mid new header outcome h.0 h.1 h.2 q.1 (subst P read.config (rest.answer (read.told told))),
            (λ inside. frame_within old.order old.source mid.source new.source header h.0 h.1 h.2 (after.within (read.told told))),
          );
      counted = λ start p. rest.counted start (read.counted start p);
      follows = λ start p. rest.follows start (read.follows start p);
    }

-- ---- what its header refuses

pub returns-in-Err-clause-small : goal.returns-in-Err-clause-small
returns-in-Err-clause-small g c = λ told.
    let old : ReaderState = parser_state g.B.ParseBuf.source g.E.Endian.order c.args.self.now in
    let new : ReaderState = parser_state g.B.ParseBuf.source g.E.Endian.order c.parse.new.self in
    let kind : ErrorKind = kind_of c.in-Err.error in
    let transition = c.in-Err.ensures.call.answer told in
    refuses_unread old.order old.source.left new.source.left kind
    (λ layout. header_unread old.order old.source.left new.source.left kind (quit_stopped old.order header_parts old.source.left new.source.left old.reads new.reads kind (transition.0 layout)).0)
    transition.1

pub returns-in-Ok-parse_metadata_with_header-clause-small : goal.returns-in-Ok-parse_metadata_with_header-clause-small
returns-in-Ok-parse_metadata_with_header-clause-small g c = λ told.
    let old : ReaderState = parser_state g.B.ParseBuf.source g.E.Endian.order c.args.self.now in
    let mid : ReaderState = parser_state g.B.ParseBuf.source g.E.Endian.order c.parse.new.self in
    let header = c.in-Ok.header in
    let q = took_ran old.order header_parts old.source.left mid.source.left old.reads mid.reads header (c.in-Ok.ensures.call.answer told).0 in
    let h = header_read old.order old.source.left mid.source.left header q.0 in
    refuses_read old.order old.source.left header _ h.0 h.1 (λ small. (c.in-Ok-parse_metadata_with_header.ensures.small small).0)

pub returns-in-Err-parse_metadata_with_header-clause-small : goal.returns-in-Err-parse_metadata_with_header-clause-small
returns-in-Err-parse_metadata_with_header-clause-small g c = λ told.
    let old : ReaderState = parser_state g.B.ParseBuf.source g.E.Endian.order c.args.self.now in
    let mid : ReaderState = parser_state g.B.ParseBuf.source g.E.Endian.order c.parse.new.self in
    let header = c.in-Ok.header in
    let q = took_ran old.order header_parts old.source.left mid.source.left old.reads mid.reads header (c.in-Ok.ensures.call.answer told).0 in
    let h = header_read old.order old.source.left mid.source.left header q.0 in
    refuses_read old.order old.source.left header _ h.0 h.1 (λ small. (c.in-Err-parse_metadata_with_header.ensures.small small).0)
