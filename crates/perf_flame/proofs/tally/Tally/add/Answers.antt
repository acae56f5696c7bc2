use Rattle.std.proofs.Common.{ap, ◌∙◌}
use Rattle.perf_flame.specs.Lines.{add_count}
use Rattle.perf_flame.specs.Tallies.{tally_lines}
use Rattle.perf_flame.specs.declared.tally.Counted.{Counted}
use Rattle.perf_flame.proofs.tally.Tally.add.Goals as goal

pub returns-in-Some-clause-added : goal.returns-in-Some-clause-added
returns-in-Some-clause-added c =
    let own = c.args.self.now in
    let any : Counted = record { number = 0; stack = own.slots; count = 0 } in
    c.add_at.ensures any ∙ ap (λ s. add_count (tally_lines own) s c.args.count) (c.in-Some.ensures.found any)
