use Rattle.std.proofs.Common.{arith}
use Rattle.perf_sections.proofs.Rising.{found_first}
use Rattle.perf_sections.proofs.Tables.{pair}
use Rattle.perf_sections.proofs.ids.event_in_row.Goals as goal

pub returns-then-are_less_before : goal.returns-then-are_less_before
returns-then-are_less_before c sorted =
    found_first c.args.table.now _ c.args.id (pair 0 0) (c.are_less_before.ensures sorted c.if-are_less_before.true) (omega arith) c.if-entry-id.true
