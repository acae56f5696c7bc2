use Rattle.std.proofs.Common.{map, arith}
use Rattle.perf_flame.specs.FoldedLines.{entry_line}
use Rattle.perf_flame.proofs.Ascending.{run_fits}
use Rattle.perf_flame.proofs.boxes.push_ending.Goals as goal

pub overflow_add-worth : goal.overflow_add-worth
overflow_add-worth c = omega (arith, c.run.ensures, c.requires, run_fits c.args.place c.args.shares.now (map entry_line c.args.rest.now))
