use Rattle.perf_outlines.specs.Outlines.{parts_in}
use Rattle.perf_outlines.proofs.Stepping.{filled_again}
use Rattle.perf_outlines.proofs.parts.read_parts.Goals as goal

pub returns-clause-nothing : goal.returns-clause-nothing
returns-clause-nothing c = filled_again c.fill_parts-2.result (parts_in c.args.bytes.now c.args.head) c.fill_parts.new.parts c.fill_parts-2.new.parts c.in_ok-fill_parts.ensures.exact c.fill_parts-2.ensures.exact c.if-not-parts_are_apart.ensures.nothing
