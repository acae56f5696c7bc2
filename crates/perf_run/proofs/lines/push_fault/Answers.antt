use Rattle.perf_run.proofs.lines.push_fault.Goals as goal

pub returns : goal.returns
returns c = c.push_kind.ensures
