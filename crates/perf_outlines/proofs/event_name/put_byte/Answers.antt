use Rattle.std.proofs.Common.{◌≡◌, ◌∷◌, [], ◌<◌, ◌≤◌, List, ℕ, length, set, ap, ◌∙◌, arith}
use Rattle.std.proofs.lemmas.List.{length-append}
use Rattle.perf_outlines.specs.FlatNames.{over}
use Rattle.perf_outlines.proofs.NameLaws.{length_over, over_set, over_full}
use Rattle.perf_outlines.proofs.event_name.put_byte.Goals as goal

pub returns-then-at-out : goal.returns-then-at-out
returns-then-at-out c = λ done old is at.
    let out = c.args.out.now in
    let n : length out ≡ length old = ap (λ (xs : List ℕ). length xs) is ∙ length_over done old in
    let lt : length done < length old = omega (arith, n, at, c.if-at-out.true) in
    let place : c.args.at ≡ length done = omega (arith, n, at, lt) in (
      ap (λ (xs : List ℕ). set xs c.args.at c.args.byte) is ∙ ap (λ k. set (over done old) k c.args.byte) place ∙ over_set done old c.args.byte lt,
      omega (arith, place, lt, length-append done (c.args.byte ∷ [])),
    )

pub returns-else-at-out : goal.returns-else-at-out
returns-else-at-out c = λ done old is at.
    let out = c.args.out.now in
    let n : length out ≡ length old = ap (λ (xs : List ℕ). length xs) is ∙ length_over done old in
    let le : length old ≤ length done = omega (arith, n, at, c.if-at-out.false) in
    (is ∙ over_full done (c.args.byte ∷ []) old le, omega (arith, at, le, length-append done (c.args.byte ∷ [])))
