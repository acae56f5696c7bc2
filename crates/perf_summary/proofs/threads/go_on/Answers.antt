use Rattle.std.proofs.Common.{ap, subst}
use Rattle.std.specs.Prelude.{Option}
use Rattle.perf_file.specs.Views.{view}
use Rattle.perf_walk.specs.Moments.{moment_at, known_after}
use Rattle.perf_walk.specs.Plain.{IsPast}
use Rattle.perf_walk.specs.Steps.{Finds}
use Rattle.perf_walk.specs.declared.walk.Found.{Found}
use Rattle.perf_summary.proofs.Found.{gone, gone_nowhere}
use Rattle.perf_summary.proofs.threads.go_on.Goals as goal

pub returns-in-Some-clause-gone : goal.returns-in-Some-clause-gone
returns-in-Some-clause-gone c = λ known past.
    let f = view c.args.walk.now.recording.now in
    let e = c.args.entry.now in
    let after = c.step.new.self in
    let step = subst (λ (x : Option Found). Finds f (moment_at f e known) x after.frame × IsPast after.history (known_after f e known)) c.in-Some.is (c.in_ok-found.ensures.steps known past) in
    gone c.add_found.result f (view after.recording.now) e known c.in-Some._found after.frame after.history c.args.threads.now c.add_found.new.threads
    (ap view c.in_ok-found.ensures.recording) step (λ m found is then. c.add_found.ensures.added m found is then)

pub returns-in-None-clause-gone : goal.returns-in-None-clause-gone
returns-in-None-clause-gone c = λ known past.
    let f = view c.args.walk.now.recording.now in
    let e = c.args.entry.now in
    let after = c.step.new.self in
    let step = subst (λ (x : Option Found). Finds f (moment_at f e known) x after.frame × IsPast after.history (known_after f e known)) c.in-None.is (c.in_ok-found.ensures.steps known past) in
    gone_nowhere f e known after.frame after.history c.args.threads.now step
