use Rattle.std.proofs.Common.{ℕ, [], ◌∷◌, subst, sym, ◌∙◌, ap}
use Rattle.std.specs.Prelude.{Result}
use Rattle.perf_base.specs.declared.error.ErrorKind.{ErrorKind}
use Rattle.perf_records.specs.Answers.{answer_after}
use Rattle.perf_reports.specs.Counting.{SumsAnswer, plus, counts_of}
use Rattle.perf_reports.proofs.Counted.{refuses_seen}
use Rattle.perf_reports.proofs.counting.FrameCounter.add.Goals as goal

pub returns-in-Ok : goal.returns-in-Ok
returns-in-Ok c = λ settings order bytes borrowed says.
    let summed = subst (λ (r : Result ℕ ErrorKind). SumsAnswer (answer_after settings order c.args.header bytes) r) c.in-Ok.is says in
    c.add_record.ensures summed.0 summed.2 ∙ ap (λ a. plus c.args.self.now.counts (counts_of ((c.args.header, a) ∷ []))) (sym summed.1)

pub returns-in-Err : goal.returns-in-Err
returns-in-Err c = λ settings order bytes borrowed says.
    let refused = subst (λ (r : Result ℕ ErrorKind). SumsAnswer (answer_after settings order c.args.header bytes) r) c.in-Err.is says in
    refuses_seen c.args.header settings order bytes borrowed c.in-Err.kind c.args.self.now c.refuse.new.self c.refuse.result refused c.refuse.ensures
