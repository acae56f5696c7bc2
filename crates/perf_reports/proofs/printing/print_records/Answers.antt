use Rattle.std.proofs.Common.{◌≡◌, ◌+◌, Bool, true, false, ap, refl, subst, ◌∙◌, if◌then◌else◌}
use Rattle.perf_base.specs.Configured.{configuration_of, endian_of}
use Rattle.perf_parser.specs.ReaderState.{parser_state}
use Rattle.perf_parser.specs.declared.run.RunEnd.{RunEnd}
use Rattle.perf_parser.specs.declared.run.RunEnd.TheVariants as end
use Rattle.perf_reader.specs.ReaderState.{ReaderState}
use Rattle.perf_reports.specs.FramePrinting.{PrintsRun}
use Rattle.perf_reports.specs.declared.printing.TheConstants.{BATCH}
use Rattle.perf_reports.proofs.RecordsPrinted.{has_none, has_more, has_limit, has_all, part_so_far, part_more}
use Rattle.perf_reports.proofs.printing.print_records.Goals as goal

-- how the last run ended, by whether frames may follow
is_limit : (more : Bool) (e : RunEnd) → e ≡ (if more then end.Limit else end.Done) → more ≡ true → e ≡ end.Limit
is_limit more e is true_is = is ∙ ap (λ b. if b then end.Limit else end.Done) true_is

is_done : (more : Bool) (e : RunEnd) → e ≡ (if more then end.Limit else end.Done) → more ≡ false → e ≡ end.Done
is_done more e is false_is = is ∙ ap (λ b. if b then end.Limit else end.Done) false_is

pub loop-init : goal.loop-init
loop-init g c = record {
  config = refl;
  told = λ told. told;
  printed = λ told. (0, has_none g.W.Write.contents g.E.Write.contents c.args.printer.now (parser_state g.B.ParseBuf.source g.O.Endian.order c.args.parser.now));
}

pub returns-in-Err-Frame-clause-part : goal.returns-in-Err-Frame-clause-part
returns-in-Err-Frame-clause-part g c = λ told.
    let out = g.W.Write.contents in let err = g.E.Write.contents in
    let i = c.loop.invariant in
    let old : ReaderState = parser_state g.B.ParseBuf.source g.O.Endian.order c.args.parser.now in
    let mid : ReaderState = parser_state g.B.ParseBuf.source g.O.Endian.order c.loop.parser in
    let has = i.printed told in
    part_more out err c.args.printer.now c.loop.printer c.print_frames.new.printer old mid has.0 BATCH
    (ap (λ k. configuration_of k) i.config) (ap (λ k. g.O.Endian.order (endian_of k)) i.config) has.1 (c.in-Err-Frame.ensures.part (i.told told))

pub returns-in-Err : goal.returns-in-Err
returns-in-Err g c = record {
  all = λ told. tt;
  part = λ told.
      let out = g.W.Write.contents in let err = g.E.Write.contents in
      let i = c.loop.invariant in
      let old : ReaderState = parser_state g.B.ParseBuf.source g.O.Endian.order c.args.parser.now in
      let mid : ReaderState = parser_state g.B.ParseBuf.source g.O.Endian.order c.loop.parser in
      let has = i.printed told in
      part_more out err c.args.printer.now c.loop.printer c.print_frames.new.printer old mid has.0 BATCH
      (ap (λ k. configuration_of k) i.config) (ap (λ k. g.O.Endian.order (endian_of k)) i.config) has.1 (c.in-Err.ensures.part (i.told told));
}

pub returns-in_err-goes_on-clause-part : goal.returns-in_err-goes_on-clause-part
returns-in_err-goes_on-clause-part g c = λ told.
    let out = g.W.Write.contents in let err = g.E.Write.contents in
    let i = c.loop.invariant in
    let old : ReaderState = parser_state g.B.ParseBuf.source g.O.Endian.order c.args.parser.now in
    let mid : ReaderState = parser_state g.B.ParseBuf.source g.O.Endian.order c.loop.parser in
    let has = i.printed told in
    let run = c.in-Ok.ensures.sent (i.told told) in
    part_so_far out err c.args.printer.now c.print_frames.new.printer old (has.0 + run.0)
    (has_more out err c.args.printer.now c.loop.printer c.print_frames.new.printer old mid has.0 _ c.in-Ok.end BATCH
    (ap (λ k. configuration_of k) i.config) (ap (λ k. g.O.Endian.order (endian_of k)) i.config) has.1 run c.in-Ok.ensures.none)

pub returns-then-not-branch-clause-all : goal.returns-then-not-branch-clause-all
returns-then-not-branch-clause-all g c = λ told.
    let out = g.W.Write.contents in let err = g.E.Write.contents in
    let i = c.loop.invariant in
    let old : ReaderState = parser_state g.B.ParseBuf.source g.O.Endian.order c.args.parser.now in
    let mid : ReaderState = parser_state g.B.ParseBuf.source g.O.Endian.order c.loop.parser in
    let has = i.printed told in
    let left = (g.B.ParseBuf.source c.print_frames.new.parser.reader.input.buf).left in
    let is : c.in-Ok.end ≡ end.Done = is_done c.in_ok-goes_on.field-0 c.in-Ok.end c.in_ok-goes_on.ensures.more c.if-not-branch.true in
    let run = subst (λ (e : RunEnd). PrintsRun out err c.loop.printer mid BATCH e left c.print_frames.new.printer) is (c.in-Ok.ensures.sent (i.told told)) in
    has_all out err c.args.printer.now c.loop.printer c.print_frames.new.printer old mid has.0 left BATCH c.is_clean.result
    (ap (λ k. configuration_of k) i.config) (ap (λ k. g.O.Endian.order (endian_of k)) i.config) has.1 run c.in-Ok.ensures.none c.is_clean.ensures

pub returns-then-not-branch-clause-part : goal.returns-then-not-branch-clause-part
returns-then-not-branch-clause-part g c = λ told.
    let out = g.W.Write.contents in let err = g.E.Write.contents in
    let i = c.loop.invariant in
    let old : ReaderState = parser_state g.B.ParseBuf.source g.O.Endian.order c.args.parser.now in
    let mid : ReaderState = parser_state g.B.ParseBuf.source g.O.Endian.order c.loop.parser in
    let has = i.printed told in
    let run = c.in-Ok.ensures.sent (i.told told) in
    part_so_far out err c.args.printer.now c.print_frames.new.printer old (has.0 + run.0)
    (has_more out err c.args.printer.now c.loop.printer c.print_frames.new.printer old mid has.0 _ c.in-Ok.end BATCH
    (ap (λ k. configuration_of k) i.config) (ap (λ k. g.O.Endian.order (endian_of k)) i.config) has.1 run c.in-Ok.ensures.none)

pub loop-preserved : goal.loop-preserved
loop-preserved g c = record {
  config = c.in-Ok.ensures.config ∙ c.loop.invariant.config;
  told = λ told. c.in-Ok.ensures.told (c.loop.invariant.told told);
  printed = λ told.
      let out = g.W.Write.contents in let err = g.E.Write.contents in
      let i = c.loop.invariant in
      let old : ReaderState = parser_state g.B.ParseBuf.source g.O.Endian.order c.args.parser.now in
      let mid : ReaderState = parser_state g.B.ParseBuf.source g.O.Endian.order c.loop.parser in
      let has = i.printed told in
      let left = (g.B.ParseBuf.source c.print_frames.new.parser.reader.input.buf).left in
      let is : c.in-Ok.end ≡ end.Limit = is_limit c.in_ok-goes_on.field-0 c.in-Ok.end c.in_ok-goes_on.ensures.more c.if-not-branch.false in
      let run = subst (λ (e : RunEnd). PrintsRun out err c.loop.printer mid BATCH e left c.print_frames.new.printer) is (c.in-Ok.ensures.sent (i.told told)) in (
        has.0 + run.0,
        has_limit out err c.args.printer.now c.loop.printer c.print_frames.new.printer old mid has.0 left BATCH
            (ap (λ k. configuration_of k) i.config) (ap (λ k. g.O.Endian.order (endian_of k)) i.config) has.1 run c.in-Ok.ensures.none,
      );
}

pub returns-clause-part : goal.returns-clause-part
returns-clause-part g c = λ told.
    let has = c.loop.invariant.printed told in
    part_so_far g.W.Write.contents g.E.Write.contents c.args.printer.now c.loop.printer (parser_state g.B.ParseBuf.source g.O.Endian.order c.args.parser.now) has.0 has.1.prints
