use Rattle.std.proofs.Common.{ℕ, List, Bool, Some, None, drop, ap, ◌∙◌}
use Rattle.std.specs.Prelude.{if◌then◌else◌}
use Rattle.perf_outlines.proofs.NotePlacing.{after_number}
use Rattle.perf_outlines.proofs.feature_places.own_section.Goals as goal

pub returns-then-has_number-clause-value : goal.returns-then-has_number-clause-value
returns-then-has_number-clause-value c =
    let body = c.args.note.now.body.now in
    ap (λ (xs : List ℕ). Some xs) (after_number c.args.bytes.now body c.args.note.now.at c.if-has_number.ensures.long c.requires.there)
    ∙ ap (λ (b : Bool). if b then Some (drop 8 body) else None) c.if-has_number.ensures.value
