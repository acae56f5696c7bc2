use Rattle.std.proofs.Common.{subst}
use Rattle.perf_base.specs.Configured.{configuration_of, endian_of}
use Rattle.perf_reports.specs.FramePrinting.{Answered, PrintsAnswer}
use Rattle.perf_reports.proofs.FramePrinted.{same_answer}
use Rattle.perf_reports.proofs.frame_printer.FramePrinter.print_frame.Goals as goal

pub returns-then-header-eq-PERF_RECORD_SAMPLE : goal.returns-then-header-eq-PERF_RECORD_SAMPLE
returns-then-header-eq-PERF_RECORD_SAMPLE g c =
    let settings = configuration_of c.args.config.now in
    let order = g.O.Endian.order (endian_of c.args.config.now) in
    let shown = c.borrowed-shown in
    subst (λ (x : Answered). PrintsAnswer g.W.Write.contents g.E.Write.contents c.args.self.now x c.print_sample.result c.print_sample.new.self)
    (same_answer settings order c.args.frame.now shown.result shown.ensures.header shown.ensures.rest) c.print_sample.ensures

pub returns-else-header-eq-PERF_RECORD_SAMPLE : goal.returns-else-header-eq-PERF_RECORD_SAMPLE
returns-else-header-eq-PERF_RECORD_SAMPLE g c =
    let settings = configuration_of c.args.config.now in
    let order = g.O.Endian.order (endian_of c.args.config.now) in
    let shown = c.borrowed-shown in
    subst (λ (x : Answered). PrintsAnswer g.W.Write.contents g.E.Write.contents c.args.self.now x c.print_record.result c.print_record.new.self)
    (same_answer settings order c.args.frame.now shown.result shown.ensures.header shown.ensures.rest) c.print_record.ensures
