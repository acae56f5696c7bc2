use Rattle.std.proofs.Common.{rules}
use Rattle.std.specs.Prelude.{IsTrue}
use Rattle.perf_reader.specs.Reading.{of_layout}
use Rattle.perf_reports.proofs.counting.FrameCounter.refuse.Goals as goal

pub returns-then-is_of_layout : goal.returns-then-is_of_layout
returns-then-is_of_layout c =
    let kind : IsTrue (of_layout c.args.kind) = search rules in
    (kind, (λ h. c.add_refused.ensures h c.args.kind))
