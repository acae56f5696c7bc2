use Rattle.perf_flat.proofs.CursorRuns.{optional_there, optional_absent}
use Rattle.perf_flat.proofs.cursor.BodyCursor.read_u64_if.Goals as goal

pub returns-then-present : goal.returns-then-present
returns-then-present g c = optional_there c.args.present c.if-present.true c.read_u64.ensures

pub returns-else-present : goal.returns-else-present
returns-else-present g c = optional_absent c.args.present c.if-present.false
