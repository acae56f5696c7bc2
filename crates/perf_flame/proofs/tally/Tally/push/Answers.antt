use Rattle.std.proofs.Common.{map, ap, ◌∙◌}
use Rattle.std.proofs.lemmas.Result.{on_ok_weaker}
use Rattle.perf_flame.specs.FoldedLines.{folded_lines}
use Rattle.perf_flame.specs.Lines.{add_count, add_lines}
use Rattle.perf_flame.specs.Tallies.{counted_line}
use Rattle.perf_flame.proofs.Merging.{past}
use Rattle.perf_flame.proofs.tally.Tally.push.Goals as goal

pub returns-in-None-clause-added : goal.returns-in-None-clause-added
returns-in-None-clause-added c =
    let own = c.args.self.now in
    let made = c.make_slots.ensures in
    let stack = c.args.stack.now in
    on_ok_weaker c.add.result
    (λ added.
    let grown = added ∙ ap (λ r. add_count (folded_lines r) stack c.args.count) made.rest in
    (λ i. add_lines (grown i) (map counted_line (made.entries i).items))
    ∙ past (map counted_line own.entries.items) (folded_lines own.rest) stack c.args.count)
    c.add.ensures.added
