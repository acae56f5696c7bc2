use Rattle.std.proofs.Common.{◌≡◌, [], ℕ, List, length, min, refl, ap, ◌∙◌, arith}
use Rattle.perf_outlines.specs.FlatNames.{over}
use Rattle.perf_outlines.proofs.event_name.put_text.Goals as goal

pub returns-clause-text : goal.returns-clause-text
returns-clause-text c =
    let start : 0 ≡ min 0 (length c.args.out.now) = omega arith in
    (c.put.ensures [] c.args.out.now refl start).0 ∙ ap (λ (t : List ℕ). over t c.args.out.now) c.as_bytes.ensures.value

pub returns-clause-count : goal.returns-clause-count
returns-clause-count c =
    let start : 0 ≡ min 0 (length c.args.out.now) = omega arith in
    (c.put.ensures [] c.args.out.now refl start).1 ∙ ap (λ (t : List ℕ). min (length t) (length c.args.out.now)) c.as_bytes.ensures.value
