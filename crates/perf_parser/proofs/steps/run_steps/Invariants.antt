use Rattle.std.proofs.Common.{◌≡◌, true}
use Rattle.perf_buffers.specs.declared.outer.Outer.{Outer}
use Rattle.perf_reader.specs.ReaderState.{ReaderState, state_of}
use Rattle.perf_parser.specs.Steps.{HasTaken}
use Rattle.perf_parser.proofs.steps.run_steps.Given as goal

abbrev pub invariant-loop-count : goal.invariant-loop-count
invariant-loop-count g l =
    let source = λ (o : Outer g.row.B.Denot). g.B.ParseBuf.source o.buf in
    let start : ReaderState = state_of source g.E.Endian.order l.fn.reader in
    (l.reader.config ≡ l.fn.reader.config)
    × HasTaken g.T.Step.kind start l.count (state_of source g.E.Endian.order l.reader) l.state
    × g.T.Step.kind.so_far start l.fn.state l.count true l.state
