use Rattle.perf_summary.proofs.text.push_frames.Goals as goal

pub returns : goal.returns
returns c = c.write.ensures.bytes
