use Rattle.std.proofs.Common.{arith}
use Rattle.perf_sections.proofs.Tables.{pair}
use Rattle.perf_sections.proofs.Rising.{is_function, least_at}
use Rattle.perf_sections.proofs.ids.least_shared.Goals as goal

pub returns-then-before-here-2-clause-least : goal.returns-then-before-here-2-clause-least
returns-then-before-here-2-clause-least c = least_at c.args.table.now c.loop-index.index (pair 0 0) c.requires (λ k d up lt. c.loop-index.invariant.same k d up lt) c.loop-index-test.true

pub returns-clause-none : goal.returns-clause-none
returns-clause-none c = is_function c.args.table.now c.requires (λ k d up lt. c.loop-index.invariant.same k d (omega arith) lt)
