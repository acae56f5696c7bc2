use Rattle.perf_parser.proofs.ParserCalls.{lifted, answered}
use Rattle.perf_parser.proofs.parser.Parser.parse_u64.Goals as goal

pub returns-in-Ok-clause-call : goal.returns-in-Ok-clause-call
returns-in-Ok-clause-call g c = lifted _ _ _ _ _ _ c.in-Ok.ensures.call

pub returns-in-Err-clause-call : goal.returns-in-Err-clause-call
returns-in-Err-clause-call g c =
    let same = c.error_of.ensures in
    answered _ _ _ _ _ c.read_u64.new.self _ _ c.in-Err.ensures.call same.error.kind_is same.buf same.config same.reads
