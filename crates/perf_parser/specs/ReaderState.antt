-- The state of a parser: that of its reader, which reads a caller's buffer.
use Rattle.std.specs.Prelude.{ℕ}
use Rattle.perf_base.specs.Order.{Order}
use Rattle.perf_base.specs.declared.config.ParseConfig.{ParseConfig}
use Rattle.perf_buffers.specs.Buffer.{Source}
use Rattle.perf_buffers.specs.declared.outer.Outer.{Outer}
use Rattle.perf_reader.specs.ReaderState as reader
use Rattle.perf_reader.specs.ReaderState.{ReaderState}
use Rattle.perf_reader.specs.declared.reader.Reader.{Reader}
use Rattle.perf_parser.specs.declared.parser.Parser.{Parser}

-- the reader of a parser
abbrev pub reader_of : {B E : Type 0} → Parser B E → Reader (Outer B) E
reader_of p = p.reader

-- the buffer that it parses
abbrev pub parser_buffer : {B E : Type 0} → Parser B E → B
parser_buffer p = reader.buffer_of p.reader

-- its configuration
abbrev pub parser_config : {B E : Type 0} → Parser B E → ParseConfig E
parser_config p = reader.config_of p.reader

-- how many elementary reads it made
abbrev pub parser_reads : {B E : Type 0} → Parser B E → ℕ
parser_reads p = reader.reads_of p.reader

-- the state of a parser, by what its buffer contains and its order
abbrev pub parser_state : {B E : Type 0} → (B → Source) → (E → Order) → Parser B E → ReaderState
parser_state source order p = reader.state_of (λ o. source o.buf) order p.reader
