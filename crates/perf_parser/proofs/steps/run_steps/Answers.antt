use Rattle.std.proofs.Common.{Bool, true, false, sym, ◌∙◌, ap, subst, refl, Some, Ok}
use Rattle.perf_base.specs.Configured.{configuration_of, endian_of}
use Rattle.perf_base.specs.declared.config.ParseConfig.{ParseConfig}
use Rattle.perf_buffers.specs.declared.outer.Outer.{Outer}
use Rattle.perf_reader.specs.ReaderState.{ReaderState, state_of}
use Rattle.perf_parser.specs.Steps.{TakesStep, TakesSteps}
use Rattle.perf_parser.proofs.RunEnds.{same_state}
use Rattle.perf_parser.proofs.RunSteps.{taken_none, taken_more, steps_stop, steps_end}
use Rattle.perf_parser.proofs.steps.run_steps.Goals as goal

pub loop-count-init : goal.loop-count-init
loop-count-init g c =
    let source = λ (o : Outer g.row.B.Denot). g.B.ParseBuf.source o.buf in
    (refl, taken_none g.T.Step.kind (state_of source g.E.Endian.order c.args.reader.now) c.args.state.now, c.requires)

pub loop-count-preserved : goal.loop-count-preserved
loop-count-preserved g c =
    let source = λ (o : Outer g.row.B.Denot). g.B.ParseBuf.source o.buf in
    let start : ReaderState = state_of source g.E.Endian.order c.args.reader.now in
    let here : ReaderState = state_of source g.E.Endian.order c.loop-count.reader in
    let new : ReaderState = state_of source g.E.Endian.order c.step.new.reader in
    let i = c.loop-count.invariant in
    let config = c.in-Ok-true.ensures.config ∙ i.0 in
    let P : Bool → Type 0 = λ b. TakesStep g.T.Step.kind here c.loop-count.state (Ok b) new c.step.new.state in
    let step : P true = subst P c.in-Ok-true.field-0-test c.in-Ok-true.ensures.step in (
      config,
      taken_more g.T.Step.kind start here new c.loop-count.state c.step.new.state c.loop-count.count true i.1 step (ap configuration_of config) (ap (λ (k : ParseConfig g.row.E.Denot). g.E.Endian.order (endian_of k)) config),
      step.so_far start c.args.state.now c.loop-count.count i.1 i.2,
    )

pub returns-in-Ok-false-clause-run : goal.returns-in-Ok-false-clause-run
returns-in-Ok-false-clause-run g c =
    let source = λ (o : Outer g.row.B.Denot). g.B.ParseBuf.source o.buf in
    let start : ReaderState = state_of source g.E.Endian.order c.args.reader.now in
    let here : ReaderState = state_of source g.E.Endian.order c.loop-count.reader in
    let new : ReaderState = state_of source g.E.Endian.order c.step.new.reader in
    let i = c.loop-count.invariant in
    let config = c.in-Ok-false.ensures.config ∙ i.0 in
    let P : Bool → Type 0 = λ b. TakesStep g.T.Step.kind here c.loop-count.state (Ok b) new c.step.new.state in
    let step : P false = subst P c.in-Ok-false.field-0-test c.in-Ok-false.ensures.step in
    steps_end g.T.Step.kind start c.args.state.now c.args.limit new c.step.new.state c.loop-count.count c.loop-count-test.true
    (taken_more g.T.Step.kind start here new c.loop-count.state c.step.new.state c.loop-count.count false i.1 step (ap configuration_of config) (ap (λ (k : ParseConfig g.row.E.Denot). g.E.Endian.order (endian_of k)) config))
    (step.so_far start c.args.state.now c.loop-count.count i.1 i.2)

pub returns-in-Err-clause-run : goal.returns-in-Err-clause-run
returns-in-Err-clause-run g c =
    let source = λ (o : Outer g.row.B.Denot). g.B.ParseBuf.source o.buf in
    let start : ReaderState = state_of source g.E.Endian.order c.args.reader.now in
    let here : ReaderState = state_of source g.E.Endian.order c.loop-count.reader in
    let new : ReaderState = state_of source g.E.Endian.order c.step.new.reader in
    let i = c.loop-count.invariant in let after = c.end_of-end.ensures in
    subst (λ (m : ReaderState). TakesSteps g.T.Step.kind start c.args.state.now c.args.limit c.loop-count.count (Some c.end_of-end.result) m c.step.new.state)
    (sym (same_state g.B.ParseBuf.source g.E.Endian.order c.end_of-end.new.reader c.step.new.reader after.buf after.config after.reads))
    (steps_stop g.T.Step.kind start c.args.state.now c.args.limit here new c.loop-count.state c.step.new.state c.loop-count.count c.in-Err.stop c.end_of-end.result c.loop-count-test.true i.1 i.2 c.in-Err.ensures.step after.end)
