use Rattle.perf_base.specs.Configured.{configuration_of, endian_of}
use Rattle.perf_flat.proofs.ManyFrames.{ReadSoFar}
use Rattle.perf_flat.proofs.read.read_many.Given as goal

abbrev pub invariant-loop-count : goal.invariant-loop-count
invariant-loop-count g l =
    ReadSoFar (configuration_of l.fn.config) (g.E.Endian.order (endian_of l.fn.config)) l.fn.bytes l.fn.frames l.count l.left l.frames
