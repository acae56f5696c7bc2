use Rattle.std.proofs.Common.{sym, subst, refl, true}
use Rattle.perf_parser.specs.ReaderState.{parser_state}
use Rattle.perf_parser.specs.Steps.{ListsFirst}
use Rattle.perf_parser.proofs.Lists.{lists_none, listed_first}
use Rattle.perf_parser.proofs.RunSteps.{steps_all}
use Rattle.perf_parser.proofs.runs.read_records.Goals as goal

pub run_steps-run-requires : goal.run_steps-run-requires
run_steps-run-requires g c =
    λ lifetimes. ((refl, tt), subst (ListsFirst (parser_state g.B.ParseBuf.source g.E.Endian.order c.args.parser.now) 0 true) (sym c.new-frames.ensures.items) (lists_none _))

pub returns-clause-answers : goal.returns-clause-answers
returns-clause-answers g c = λ told. let run = c.run_steps-run.ensures.run in listed_first told (run.there told) run.so_far

pub returns-clause-count : goal.returns-clause-count
returns-clause-count g c = let run = c.run_steps-run.ensures.run in (steps_all run.so_far.count run.so_far.goes c.unwrap_or.ensures run).within

pub returns-clause-end : goal.returns-clause-end
returns-clause-end g c = let run = c.run_steps-run.ensures.run in (steps_all run.so_far.count run.so_far.goes c.unwrap_or.ensures run).ends

pub returns-clause-between : goal.returns-clause-between
returns-clause-between g c = λ told whole refused. let run = c.run_steps-run.ensures.run in ((steps_all run.so_far.count run.so_far.goes c.unwrap_or.ensures run).memory told whole refused).1

pub returns-clause-reads : goal.returns-clause-reads
returns-clause-reads g c = let run = c.run_steps-run.ensures.run in (steps_all run.so_far.count run.so_far.goes c.unwrap_or.ensures run).reads

pub returns-clause-keeps : goal.returns-clause-keeps
returns-clause-keeps g c = let run = c.run_steps-run.ensures.run in (steps_all run.so_far.count run.so_far.goes c.unwrap_or.ensures run).keeps
