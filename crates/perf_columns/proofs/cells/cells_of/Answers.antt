use Rattle.std.specs.Fmt.{digits}
use Rattle.std.proofs.Common.{false}
use Rattle.perf_columns.proofs.Digits.{cells_are}
use Rattle.perf_columns.proofs.cells.cells_of.Goals as goal

pub returns : goal.returns
returns c =
    let n = c.put_number in
    cells_are n.new.cells (digits 16 false c.args.address) n.result n.array_long n.ensures.start.0 n.ensures.start.1 n.ensures.before n.ensures.after
