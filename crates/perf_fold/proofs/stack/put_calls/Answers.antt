use Rattle.std.proofs.Common.{◌++◌, List, ap, ◌∙◌}
use Rattle.std.proofs.lemmas.Result.{on_ok_weaker}
use Rattle.perf_walk.specs.Calls.{call, calls_of}
use Rattle.perf_walk.specs.declared.calls.Call.{Call}
use Rattle.perf_walk.specs.declared.sampling.Sample.{Sample}
use Rattle.perf_fold.specs.SampleStacks.{or_call}
use Rattle.perf_fold.proofs.stack.put_calls.Goals as goal

pub returns : goal.returns
returns c = λ m s is sampled view.
    let own = c.args.sample.now in
    let pushed = c.in_ok-push_found.ensures m s is sampled ∙ ap (λ (xs : List Call). xs ++ calls_of s) c.clear.ensures.items in
    on_ok_weaker c.push_if_empty.result
    (λ is. is ∙ ap (λ (xs : List Call). or_call xs (call own.mode own.ip)) pushed ∙ ap (λ (x : Sample). or_call (calls_of s) (call x.mode x.ip)) view)
    c.push_if_empty.ensures
