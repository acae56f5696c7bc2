use Rattle.std.proofs.Common.{◌≡◌, Err, None, sym, subst}
use Rattle.perf_base.specs.Errors.{kind_of}
use Rattle.perf_base.specs.declared.error.ErrorKind.TheVariants.{OutOfMemory}
use Rattle.perf_reader.specs.ReaderState.{ReaderState}
use Rattle.perf_reader.proofs.Calls.{keeps_none}
use Rattle.perf_parser.specs.Calls.{Call}
use Rattle.perf_parser.specs.Frames.{SplitsParser}
use Rattle.perf_parser.specs.ReaderState.{parser_state}
use Rattle.perf_parser.proofs.ParserCalls.{answered, keeps_follows}
use Rattle.perf_parser.proofs.Metadata.{split_parsed, split_unparsed, keeps_unparsed}
use Rattle.perf_parser.proofs.Calls.{follows_more}
use Rattle.perf_parser.proofs.parser.Parser.parse_metadata_with_header.Goals as goal

-- the frame cannot be split
pub returns-in-Err-clause-call : goal.returns-in-Err-clause-call
returns-in-Err-clause-call g c =
    let same = c.error_of.ensures in
    let read = c.in-Err.ensures.call in
    answered g.B.ParseBuf.source g.E.Endian.order (SplitsParser c.args.header) c.args.self.now (record { reader = c.error_of.new.self }) c.split.new.reader _ _
    (record {
      config = read.config;
      whole = read.whole;
      told = read.told;
      answer = λ told. read.answer told;
      keeps = read.keeps;
    }) same.error.kind_is same.buf same.config same.reads

-- it is split, and the order has a duplicate
pub returns-in-Ok-duplicate-clause-call : goal.returns-in-Ok-duplicate-clause-call
returns-in-Ok-duplicate-clause-call g c =
    let read = c.in-Ok.ensures.call in
    let old : ReaderState = parser_state g.B.ParseBuf.source g.E.Endian.order c.args.self.now in
    let new : ReaderState = parser_state g.B.ParseBuf.source g.E.Endian.order (record { reader = c.split.new.reader }) in record {
      config = read.config;
      whole = read.whole;
      told = read.told;
      answer = λ told. split_parsed c.args.header old new c.in-Ok.parts.0 c.in-Ok.parts.1 c.new.result c.new.ensures.buf (read.answer told);
      counted = λ start p. read.keeps start p;
      follows = λ start p. follows_more start old new p (keeps_follows old new None (read.keeps old (keeps_none old)));
    }

-- it is split, and the order has none
pub returns-clause-call : goal.returns-clause-call
returns-clause-call g c =
    let read = c.in-Ok.ensures.call in
    let old : ReaderState = parser_state g.B.ParseBuf.source g.E.Endian.order c.args.self.now in
    let new : ReaderState = parser_state g.B.ParseBuf.source g.E.Endian.order (record { reader = c.split.new.reader }) in
    let why : kind_of c.in-Err-duplicate.error ≡ OutOfMemory = c.in-Err-duplicate.ensures.refused.0 in
    subst (λ k. Call g.B.ParseBuf.source g.E.Endian.order (SplitsParser c.args.header) c.args.self.now (Err k) (record { reader = c.split.new.reader })) (sym why) (record {
      config = read.config;
      whole = read.whole;
      told = read.told;
      answer = λ told. split_unparsed g.row.E.Denot c.args.header old new;
      counted = λ start p. keeps_unparsed start new (read.keeps start p);
      follows = λ start p. follows_more start old new p (keeps_follows old new None (read.keeps old (keeps_none old)));
    })

-- how much it takes

-- with what message it is refused
