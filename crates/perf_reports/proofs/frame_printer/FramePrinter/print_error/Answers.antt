use Rattle.std.proofs.Common.{◌++◌, subst, Err}
use Rattle.std.specs.Io.KnownBytes.{Appends}
use Rattle.std.specs.Prelude.{codes}
use Rattle.perf_base.specs.Errors.{kind_of, error_text}
use Rattle.perf_reports.proofs.FramePrinted.{prints_error, stops_failed}
use Rattle.perf_reports.proofs.frame_printer.FramePrinter.print_error.Goals as goal

pub returns-in-Err : goal.returns-in-Err
returns-in-Err g c = λ h.
    stops_failed g.W.Write.contents g.E.Write.contents c.args.self.now c.send.new.self (h, Err (kind_of c.args.error.now)) c.in-Err.stopped c.in-Err.ensures.part c.in-Err.ensures.failed

pub returns-in_ok-write-in-Ok : goal.returns-in_ok-write-in-Ok
returns-in_ok-write-in-Ok g c = λ h.
    let err = g.E.Write.contents in
    let text = subst (λ (e : g.row.E.Denot). Appends (err e) (err c.write.new.self) (error_text c.args.error.now ++ codes "\n")) c.send.ensures.same.1 c.in_ok-write-in-Ok.ensures.bytes in
    prints_error g.W.Write.contents err c.args.self.now _ h c.args.error.now c.send.ensures.same.0 c.send.ensures.same.2 c.in-Ok.ensures.sent c.in-Ok.ensures.none text
