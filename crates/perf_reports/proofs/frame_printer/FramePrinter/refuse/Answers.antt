use Rattle.std.proofs.Common.{refl}
use Rattle.perf_reports.proofs.FramePrinted.{stops_early}
use Rattle.perf_reports.proofs.frame_printer.FramePrinter.refuse.Goals as goal

pub returns-else-is_of_layout : goal.returns-else-is_of_layout
returns-else-is_of_layout g c = λ h answer same.
    stops_early g.W.Write.contents g.E.Write.contents c.args.self.now _ (h, answer) c.stop.result c.stop.ensures.part (λ memory. (c.stop.ensures.refused memory, refl))
