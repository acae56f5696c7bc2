use Rattle.perf_lines.proofs.records.push_lost.Goals as goal

pub returns : goal.returns
returns c = c.push_fields.ensures
