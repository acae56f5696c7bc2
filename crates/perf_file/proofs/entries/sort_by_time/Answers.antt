use Rattle.std.proofs.Common.{rules}
use Rattle.std.proofs.lemmas.Cmp.{then_total, on_total, nat_cmp_total}
use Rattle.std.proofs.lemmas.List.Sorted.{ranks_by, answers_always}
use Rattle.perf_file.proofs.entries.sort_by_time.Goals as goal

pub returns-clause-sorted : goal.returns-clause-sorted
returns-clause-sorted g c =
    c.sort_unstable_by.ensures.sorted _ (ranks_by (then_total (on_total (λ t. t.0) nat_cmp_total) (on_total (λ t. t.1) nat_cmp_total)) g.T.Timed.time_and_place)
    (answers_always _ _ _ (λ f a r f' h. search rules))
