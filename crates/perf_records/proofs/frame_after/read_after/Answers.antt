use Rattle.std.proofs.Common.{◌≤◌, arith}
use Rattle.std.proofs.lemmas.Bool.Decides.{nat_tests}
use Rattle.perf_base.specs.Refusals.{refusal_kind}
use Rattle.perf_buffers.specs.Buffer.{Source}
use Rattle.perf_buffers.specs.declared.outer.Outer.{Outer}
use Rattle.perf_buffers.proofs.Takes.{takes_moves}
use Rattle.perf_records.specs.Answers.{length_after}
use Rattle.perf_records.specs.Gives.{Event}
use Rattle.perf_records.proofs.Preservation.{taken_within}
use Rattle.perf_records.proofs.Shown.{Read, frame_call, unread_call}
use Rattle.perf_records.proofs.frame_after.read_after.Goals as goal

pub returns-in-Ok-clause-within : goal.returns-in-Ok-clause-within
returns-in-Ok-clause-within g c = λ told.
    let old : Source = g.B.ParseBuf.source c.args.reader.now.input.buf in
    let new : Source = g.B.ParseBuf.source c.with_frame.new.self.input.buf in
    let n = length_after c.args.header in
    let t = (c.in-Ok.ensures.ok.2.4 told).0 in
    let m = takes_moves old new n t in
    (taken_within old new n t, m)

pub returns-in-Ok-clause-call : goal.returns-in-Ok-clause-call
returns-in-Ok-clause-call g c =
    let gives : Event → _ → Type 0 = λ outcome x. g.M.OfBody.gives outcome c.args.state.now x c.with_frame.new.state in
    let source = λ (o : Outer g.row.B.Denot). g.B.ParseBuf.source o.buf in
    let h = c.args.header in
    let old = c.args.reader.now in let new = c.with_frame.new.self in
    let sized : 8 ≤ h.size = grind (arith, nat_tests) in
    let e = c.in-Ok.ensures in
    let frame : Read source g.E.Endian.order gives h old new c.in-Ok.output = (e.ok.0, e.ok.1, (e.ok.2.0, e.ok.2.1, e.ok.2.2 c.requires.reads, e.ok.2.3, e.ok.2.4, e.ok.2.5)) in
    frame_call source g.E.Endian.order gives h old new c.in-Ok.output sized frame e.config e.stays

pub returns-in-Err-clause-call : goal.returns-in-Err-clause-call
returns-in-Err-clause-call g c =
    let gives : Event → _ → Type 0 = λ outcome x. g.M.OfBody.gives outcome c.args.state.now x c.with_frame.new.state in
    let source = λ (o : Outer g.row.B.Denot). g.B.ParseBuf.source o.buf in
    let sized : 8 ≤ c.args.header.size = grind (arith, nat_tests) in
    let e = c.in-Err.ensures in
    unread_call source g.E.Endian.order gives c.args.header c.args.reader.now c.with_frame.new.self (refusal_kind c.in-Err.refusal) sized e.err e.config e.stays e.can_fail
