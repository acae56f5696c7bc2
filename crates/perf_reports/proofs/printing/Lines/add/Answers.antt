use Rattle.std.proofs.Common.{string_bytes}
use Rattle.perf_reports.specs.Printing.{found_value, text_of_record}
use Rattle.perf_reports.proofs.Printed.{within}
use Rattle.perf_reports.proofs.printing.Lines.add.Goals as goal

pub returns-in-Err-clause-part : goal.returns-in-Err-clause-part
returns-in-Err-clause-part g c =
    let contents = g.W.Write.contents in
    within (contents c.args.output.now) (contents c.stop.new.output) (string_bytes c.args.self.now.gathered) (text_of_record c.args.report (found_value c.args.found)) c.stop.ensures.part
