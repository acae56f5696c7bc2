use Rattle.std.proofs.Common.{ℕ, List, Option, Ok, drop, ap, sym, ◌∙◌}
use Rattle.perf_base.specs.Dynamic.{order_of}
use Rattle.perf_file.specs.Pipes.{all_frames, noted_feature}
use Rattle.perf_outlines.proofs.NotePlacing.{pipe_feature}
use Rattle.perf_outlines.proofs.feature_places.feature_section.Goals as goal

pub returns-in-Some-noted_section-clause-value : goal.returns-in-Some-noted_section-clause-value
returns-in-Some-noted_section-clause-value c =
    ap (λ (found : Option (List ℕ)). Ok found) (c.in-Some-noted_section.ensures.value ∙ ap (λ n. noted_feature (order_of c.in-Some.order) n (all_frames c.in-Some.order (drop 16 c.args.bytes.now))) c.from.ensures)
    ∙ sym (pipe_feature c.args.bytes.now c.in-Some.order c.args.feature (sym c.in-Some.ensures.value))

pub returns-in-None-noted_section-clause-value : goal.returns-in-None-noted_section-clause-value
returns-in-None-noted_section-clause-value c =
    ap (λ (found : Option (List ℕ)). Ok found) (c.in-None-noted_section.ensures.value ∙ ap (λ n. noted_feature (order_of c.in-Some.order) n (all_frames c.in-Some.order (drop 16 c.args.bytes.now))) c.from.ensures)
    ∙ sym (pipe_feature c.args.bytes.now c.in-Some.order c.args.feature (sym c.in-Some.ensures.value))
