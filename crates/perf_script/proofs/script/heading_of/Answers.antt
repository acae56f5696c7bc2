use Rattle.perf_script.proofs.Naming.{label_found, label_absent}
use Rattle.perf_script.proofs.script.heading_of.Goals as goal

pub returns-in-Some : goal.returns-in-Some
returns-in-Some c = label_found c.args.list.now c.args.event c.in-Some.label.now c.deref.result.now c.in-Some.ensures.0 c.in-Some.ensures.1 c.deref.ensures.value

pub returns-in-None : goal.returns-in-None
returns-in-None c = label_absent c.args.list.now c.args.event c.in-None.ensures
