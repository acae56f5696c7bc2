use Rattle.std.proofs.Common.{rules}
use Rattle.perf_lines.proofs.records.push_record.Goals as goal

pub returns-in-Unthrottle : goal.returns-in-Unthrottle
returns-in-Unthrottle c = rw c.in-Unthrottle.is c.push_throttle-in-Unthrottle.ensures

pub returns-in-Fork : goal.returns-in-Fork
returns-in-Fork c = rw c.in-Fork.is c.push_exit-in-Fork.ensures

pub returns-in-Switch : goal.returns-in-Switch
returns-in-Switch c = search rules steps 200000
