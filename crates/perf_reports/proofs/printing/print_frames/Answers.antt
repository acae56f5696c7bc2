use Rattle.std.proofs.Common.{◌≡◌, ℕ, ◌≤◌, List, length, take, ◌∙◌, arith, subst}
use Rattle.std.proofs.lemmas.List.{length-take}
use Rattle.std.specs.Prelude.{Option, IsTrue}
use Rattle.perf_parser.specs.FrameRuns.{EndsFrames}
use Rattle.perf_parser.specs.ReaderState.{parser_buffer, parser_state}
use Rattle.perf_parser.specs.declared.run.RunEnd.{RunEnd}
use Rattle.perf_reader.specs.ReaderState.{ReaderState}
use Rattle.perf_reports.specs.FramePrinting.{PrintsFirst, answers_left}
use Rattle.perf_reports.specs.Printing.{is_memory}
use Rattle.perf_reports.specs.declared.printing.TheConstants.{BATCH}
use Rattle.perf_reports.specs.declared.printing.Stopped.{Stopped}
use Rattle.perf_reports.proofs.FramePrinted.{went_on_prints, stopped_prints, there, run_sent, run_part, run_stopped_part, run_refused, ok_of_none, err_of_one}
use Rattle.perf_reports.proofs.Printed.{not_both}
use Rattle.perf_reports.proofs.printing.print_frames.Goals as goal

take_fits : {X : Type 0} (k : ℕ) (xs : List X) → length (take k xs) ≡ k → k ≤ length xs
take_fits k xs all = omega (arith, all, length-take k xs)

pub returns-in-Ok-clause-sent : goal.returns-in-Ok-clause-sent
returns-in-Ok-clause-sent g c = λ told.
    let out = g.W.Write.contents in let err = g.E.Write.contents in
    let old : ReaderState = parser_state g.B.ParseBuf.source g.O.Endian.order c.args.parser.now in
    let run = c.each_frame-run in
    let left : List ℕ = (g.B.ParseBuf.source (parser_buffer run.new.parser)).left in
    let p = went_on_prints out err old run.result.count run.result.end c.in-Some.end c.args.printer.now run.new.handler c.in-Some.is (run.ensures.handed told) in
    let same = c.send.ensures.same in (
      run.result.count,
      run_sent out err c.args.printer.now run.new.handler c.send.new.self (answers_left old) run.result.count p c.in-Ok.ensures.sent same.1,
      same.0 ∙ p.report,
      same.2 ∙ p.clean,
      subst (λ (e : Option RunEnd). EndsFrames old.order BATCH old.source.left run.result.count e left) c.in-Some.is (run.ensures.end told),
      take_fits run.result.count (answers_left old) (there out err old run.result.count run.result.end c.args.printer.now run.new.handler (run.ensures.handed told)),
    )

pub returns-in-Ok-clause-part : goal.returns-in-Ok-clause-part
returns-in-Ok-clause-part g c = λ told.
    let out = g.W.Write.contents in let err = g.E.Write.contents in
    let old : ReaderState = parser_state g.B.ParseBuf.source g.O.Endian.order c.args.parser.now in
    let run = c.each_frame-run in
    let p = went_on_prints out err old run.result.count run.result.end c.in-Some.end c.args.printer.now run.new.handler c.in-Some.is (run.ensures.handed told) in
    run_part out err c.args.printer.now run.new.handler c.send.new.self (answers_left old) run.result.count BATCH run.ensures.count p c.send.ensures.part

pub returns-in-Err-clause-part : goal.returns-in-Err-clause-part
returns-in-Err-clause-part g c = λ told.
    let out = g.W.Write.contents in let err = g.E.Write.contents in
    let old : ReaderState = parser_state g.B.ParseBuf.source g.O.Endian.order c.args.parser.now in
    let run = c.each_frame-run in
    let p = went_on_prints out err old run.result.count run.result.end c.in-Some.end c.args.printer.now run.new.handler c.in-Some.is (run.ensures.handed told) in
    run_part out err c.args.printer.now run.new.handler c.send.new.self (answers_left old) run.result.count BATCH run.ensures.count p c.send.ensures.part

pub returns-in-Err-clause-refused : goal.returns-in-Err-clause-refused
returns-in-Err-clause-refused g c = λ told memory. not_both (is_memory c.in-Err.stopped) memory c.in-Err.ensures.failed

pub returns-in-None-clause-sent : goal.returns-in-None-clause-sent
returns-in-None-clause-sent g c = λ told.
    let out = g.W.Write.contents in let err = g.E.Write.contents in
    let old : ReaderState = parser_state g.B.ParseBuf.source g.O.Endian.order c.args.parser.now in
    let run = c.each_frame-run in
    let s = stopped_prints out err old run.result.count run.result.end c.args.printer.now run.new.handler c.in-None.is (run.ensures.handed told) in
    ok_of_none c.end.result s.why _ (c.end.ensures.stopped s.why s.kept).0

pub returns-in-None-clause-part : goal.returns-in-None-clause-part
returns-in-None-clause-part g c = λ told.
    let out = g.W.Write.contents in let err = g.E.Write.contents in
    let old : ReaderState = parser_state g.B.ParseBuf.source g.O.Endian.order c.args.parser.now in
    let run = c.each_frame-run in
    let s = stopped_prints out err old run.result.count run.result.end c.args.printer.now run.new.handler c.in-None.is (run.ensures.handed told) in
    run_stopped_part out err c.args.printer.now run.new.handler c.end.new.self (answers_left old) run.result.count BATCH run.ensures.count s (c.end.ensures.stopped s.why s.kept).1

pub returns-in-None-clause-refused : goal.returns-in-None-clause-refused
returns-in-None-clause-refused g c = λ told.
    let out = g.W.Write.contents in let err = g.E.Write.contents in
    let old : ReaderState = parser_state g.B.ParseBuf.source g.O.Endian.order c.args.parser.now in
    let run = c.each_frame-run in
    let was = c.args.printer.now in
    let handed = run.ensures.handed told in
    let s = stopped_prints out err old run.result.count run.result.end was run.new.handler c.in-None.is handed in
    let e = c.end.ensures.stopped s.why s.kept in
    let all = there out err old run.result.count run.result.end was run.new.handler handed in
    let refused = run_refused out err was run.new.handler c.end.new.self (answers_left old) run.result.count all s e.1 e.2 in
    err_of_one c.end.result s.why (λ (stopped : Stopped). IsTrue (is_memory stopped) → (k : ℕ) × PrintsFirst out err was (answers_left old) k c.end.new.self) e.0 refused
