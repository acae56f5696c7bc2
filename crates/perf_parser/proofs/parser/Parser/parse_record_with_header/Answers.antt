use Rattle.perf_parser.proofs.ParserCalls.{lifted, answered}
use Rattle.perf_parser.proofs.parser.Parser.parse_record_with_header.Goals as goal

-- if it is `Ok`, each clause is that of the reader

pub returns-in-Ok-clause-call : goal.returns-in-Ok-clause-call
returns-in-Ok-clause-call g c = lifted _ _ _ _ _ _ c.in-Ok.ensures.call

-- a refusal that becomes an error leaves the buffer as it is, and keeps its kind

pub returns-in-Err-clause-call : goal.returns-in-Err-clause-call
returns-in-Err-clause-call g c =
    let same = c.error_of.ensures in
    answered _ _ _ _ _ c.read_after.new.reader _ _ c.in-Err.ensures.call same.error.kind_is same.buf same.config same.reads
