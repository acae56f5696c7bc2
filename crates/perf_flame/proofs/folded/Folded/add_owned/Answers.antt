use Rattle.std.proofs.Common.{◌≡◌, ◌+◌, ◌%◌, ◌^◌, ◌<◌, ℕ, map, unwrap_or, ap, ◌∙◌, arith}
use Rattle.std.specs.Prelude.{Option}
use Rattle.std.specs.Map.{lookup}
use Rattle.perf_flame.specs.FoldedLines.{entry_line}
use Rattle.perf_flame.proofs.Adding.{is_stack, adds}
use Rattle.perf_flame.proofs.folded.Folded.add_owned.Goals as goal

pub returns-clause-added : goal.returns-clause-added
returns-clause-added c =
    let owned = c.args.stack in
    let before = c.args.self.now.counts.entries in
    let count : ℕ = c.args.count in
    let old : ℕ = c.or_insert-sum.result.now in
    let small : count < 2 ^ 64 = omega (arith, c.ranges.count) in
    let was : old ≡ unwrap_or (lookup (is_stack owned.items) before) 0 = c.or_insert-sum.ensures.value ∙ ap (λ (o : Option ℕ). unwrap_or o 0) c.in_ok-self.ensures.value in
    let lines =
    ap (map entry_line) (c.in_ok-self.ensures.update.1 ((old + count) % 2 ^ 64))
    ∙ adds owned before old count c.in_ok-self.ensures.ordered small was in
    grind (arith, lines)
