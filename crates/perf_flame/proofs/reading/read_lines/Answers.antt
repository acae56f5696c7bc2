use Rattle.std.proofs.Common.{◌≡◌, ◌<◌, ◌+◌, ◌≤◌, ◌∷◌, ℕ, List, length, sym, arith}
use Rattle.std.proofs.lemmas.Bool.Decides.{nat_tests}
use Rattle.perf_flame.specs.FoldedLines.{folded_lines}
use Rattle.perf_flame.specs.Lines.{stack_line}
use Rattle.perf_flame.specs.Reading.{text_lines}
use Rattle.perf_flame.proofs.Feeds.{lines_from_first, rest_shorter}
use Rattle.perf_flame.proofs.UnderWay.{way_bad, way_more}
use Rattle.perf_flame.proofs.reading.read_lines.Goals as goal

pub returns-in_default : goal.returns-in_default
returns-in_default c =
    let rest : List ℕ = c.loop-number.rest.now in
    let first : List ℕ = c.first_line.result.0.now in
    let after : List ℕ = c.first_line.result.1.now in
    let some : 0 < length rest = grind (arith, nat_tests) in
    let is : text_lines rest ≡ first ∷ text_lines after = lines_from_first rest first after some c.first_line.ensures.first c.first_line.ensures.rest in
    way_bad (folded_lines c.args.folded.now) (folded_lines c.loop-number.folded) c.args.text.now rest first c.loop-number.number (text_lines after)
    c.loop-number.invariant.way is (sym c.in_default.ensures)

pub loop-number-preserved : goal.loop-number-preserved
loop-number-preserved c =
    let rest : List ℕ = c.loop-number.rest.now in
    let first : List ℕ = c.first_line.result.0.now in
    let after : List ℕ = c.first_line.result.1.now in
    let some : 0 < length rest = grind (arith, nat_tests) in
    let is : text_lines rest ≡ first ∷ text_lines after = lines_from_first rest first after some c.first_line.ensures.first c.first_line.ensures.rest in
    let shorter : length after + 1 ≤ length rest = rest_shorter rest after some c.first_line.ensures.rest in
    record {
      most = c.loop-number.invariant.most;
      short = omega (arith, c.loop-number.invariant.short, shorter);
      way = way_more (folded_lines c.args.folded.now) (folded_lines c.loop-number.folded) (folded_lines c.add.new.self) c.args.text.now rest after first c.loop-number.number
          (stack_line c.in-Some.stack.now c.in-Some.count) c.loop-number.invariant.way is (sym c.in-Some.ensures) c.in_ok-add.ensures.added;
    }
