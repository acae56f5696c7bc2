use Rattle.std.proofs.Common.{ℕ, ◌*◌, ◌+◌, ◌≡◌, ◌∙◌, ap, subst, refl, arith}
use Rattle.perf_buffers.specs.declared.outer.Outer.{Outer}
use Rattle.perf_reader.specs.ReaderState.{state_of}
use Rattle.perf_parser.specs.FrameRuns.{CountsRunReads, frames_refusal, one_if_run_ended}
use Rattle.perf_parser.specs.Runs.{RunInvariant}
use Rattle.perf_parser.proofs.FrameHandovers.{twice}
use Rattle.perf_parser.proofs.frame_runs.each_frame.Goals as goal

pub run_steps-requires : goal.run_steps-requires
run_steps-requires g c = λ lifetimes. ((refl, tt), (λ told. (refl, refl)))

pub returns-clause-count : goal.returns-clause-count
returns-clause-count g c = c.run_steps.ensures.run.within

pub returns-clause-handed : goal.returns-clause-handed
returns-clause-handed g c = λ told. let run = c.run_steps.ensures.run in (run.there told, run.so_far told)

pub returns-clause-end : goal.returns-clause-end
returns-clause-end g c = c.run_steps.ensures.run.ends

pub returns-clause-whole_memory : goal.returns-clause-whole_memory
returns-clause-whole_memory g c = λ told whole refused. (c.run_steps.ensures.run.memory told whole refused).0

pub returns-clause-reads : goal.returns-clause-reads
returns-clause-reads g c = λ told.
    let run = c.run_steps.ensures.run in
    subst (λ (n : ℕ). CountsRunReads n c.run_steps.result.end c.args.parser.now.reader.reads c.run_steps.new.reader.reads) (twice _ ∙ ap (λ (n : ℕ). 2 * n) (run.there told)) (run.reads told)

pub returns-clause-keeps : goal.returns-clause-keeps
returns-clause-keeps g c =
    let source = λ (o : Outer g.row.B.Denot). g.B.ParseBuf.source o.buf in let e = c.run_steps.result.end in
    let none : 0 + one_if_run_ended e ≡ one_if_run_ended e = omega arith in
    subst (λ (n : ℕ). RunInvariant (state_of source g.E.Endian.order c.args.parser.now.reader) n (frames_refusal e) (state_of source g.E.Endian.order c.run_steps.new.reader)) none c.run_steps.ensures.run.keeps
