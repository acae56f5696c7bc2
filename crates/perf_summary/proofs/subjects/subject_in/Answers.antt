use Rattle.std.proofs.Common.{ap, ◌∙◌}
use Rattle.std.specs.Prelude.{Some}
use Rattle.perf_summary.proofs.Stated.{of_sample, of_comm, of_exit, of_fork, of_other}
use Rattle.perf_summary.proofs.subjects.subject_in.Goals as goal

pub returns-then-frame-eq-PERF_RECORD_SAMPLE : goal.returns-then-frame-eq-PERF_RECORD_SAMPLE
returns-then-frame-eq-PERF_RECORD_SAMPLE c = λ config o bytes is. of_sample config o bytes c.args.frame.now is c.if-frame-eq-PERF_RECORD_SAMPLE.true

pub returns-then-frame-eq-PERF_RECORD_COMM : goal.returns-then-frame-eq-PERF_RECORD_COMM
returns-then-frame-eq-PERF_RECORD_COMM c = λ config o bytes is.
    ap (λ s. Some s) c.subject_at.ensures ∙ of_comm config o bytes c.args.frame.now is c.if-frame-eq-PERF_RECORD_COMM.true

pub returns-then-frame-eq-PERF_RECORD_EXIT : goal.returns-then-frame-eq-PERF_RECORD_EXIT
returns-then-frame-eq-PERF_RECORD_EXIT c = λ config o bytes is.
    ap (λ s. Some s) c.subject_at-then-frame-eq-PERF_RECORD_EXIT.ensures ∙ of_exit config o bytes c.args.frame.now is c.if-frame-eq-PERF_RECORD_EXIT.true

pub returns-then-frame-eq-PERF_RECORD_FORK : goal.returns-then-frame-eq-PERF_RECORD_FORK
returns-then-frame-eq-PERF_RECORD_FORK c = λ config o bytes is.
    ap (λ s. Some s) c.subject_at-then-frame-eq-PERF_RECORD_FORK.ensures ∙ of_fork config o bytes c.args.frame.now is c.if-frame-eq-PERF_RECORD_FORK.true

pub returns : goal.returns
returns c = λ config o bytes is.
    of_other config o bytes c.args.frame.now is (record {
      sample = c.if-frame-eq-PERF_RECORD_SAMPLE.false;
      comm = c.if-frame-eq-PERF_RECORD_COMM.false;
      exit = c.if-frame-eq-PERF_RECORD_EXIT.false;
      fork = c.if-frame-eq-PERF_RECORD_FORK.false;
    })
