use Rattle.std.proofs.Common.{refl, ◌≡◌, vec_len, arith}
use Rattle.std.proofs.lemmas.Result.{on_ok_weaker, on_err_weaker}
use Rattle.perf_history.proofs.Recording.{pushed_sets, pushed_same}
use Rattle.perf_history.proofs.histories.History.map.Goals as goal

pub returns-clause-ok : goal.returns-clause-ok
returns-clause-ok c =
    let at : c.in-Ok.index ≡ vec_len c.args.self.now.mappings = omega (arith, c.in-Ok.ensures, c.len.ensures) in
    on_ok_weaker c.assign.result (λ h. pushed_sets c.args.self.now _ c.in-Ok.index c.args.space c.args.start c.args.len c.args.mapping at refl c.in_ok-push.ensures.items h) c.assign.ensures.ok

pub returns-clause-err : goal.returns-clause-err
returns-clause-err c =
    on_err_weaker c.assign.result (λ h. pushed_same c.args.self.now _ c.args.mapping refl c.in_ok-push.ensures.items h) c.assign.ensures.err
