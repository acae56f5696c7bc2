use Rattle.perf_parser.proofs.ParserCalls.{lifted, answered}
use Rattle.perf_parser.proofs.parse.AnyParse.parse.Goals as goal

pub returns-in-Ok : goal.returns-in-Ok
returns-in-Ok g c = record { call = lifted _ _ _ _ _ _ c.in-Ok.ensures.call }

pub returns-in-Err : goal.returns-in-Err
returns-in-Err g c =
    let same = c.error_of.ensures in
    record { call = answered _ _ _ _ _ c.read.new.reader _ _ c.in-Err.ensures.call same.error.kind_is same.buf same.config same.reads }
