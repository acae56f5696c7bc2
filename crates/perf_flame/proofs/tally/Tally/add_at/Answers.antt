use Rattle.std.proofs.Common.{ap, ◌∙◌}
use Rattle.std.proofs.lemmas.List.{get_or_default}
use Rattle.perf_flame.specs.FoldedLines.{folded_lines}
use Rattle.perf_flame.specs.declared.tally.Counted.{Counted}
use Rattle.perf_flame.proofs.Merging.{added}
use Rattle.perf_flame.proofs.Tallies.{one_more}
use Rattle.perf_flame.proofs.tally.Tally.add_at.Goals as goal

pub returns : goal.returns
returns c = λ d.
    let es = c.args.self.now.entries.items in
    let e = c.index_mut-entry in
    let here = e.ensures.value ∙ get_or_default es c.args.index e.result.now d c.requires in
    one_more es c.args.index d _ c.args.count (folded_lines c.args.self.now.rest) c.requires (ap (λ (x : Counted). x.stack.items) here) (ap (λ (x : Counted). added x.count c.args.count) here)
