use Rattle.std.proofs.Common.{◌≡◌, true, false, None, Some, sym, ap, ◌∙◌}
use Rattle.std.specs.Prelude.{if◌then◌else◌}
use Rattle.perf_base.specs.Configuration.{Configuration, configured_by}
use Rattle.perf_base.specs.declared.sys.perf_event_attr.{perf_event_attr}
use Rattle.perf_words.specs.Bits.{has_bit}
use Rattle.perf_words.proofs.Contained.{contains_bit}
use Rattle.perf_summary.proofs.contents.fixed_period_of.Goals as goal

pub returns-then-contains : goal.returns-then-contains
returns-then-contains c =
    let has : has_bit (configured_by c.args.event.now.attr).sample_type 8 ≡ true =
    ap (λ (k : Configuration). has_bit k.sample_type 8) (sym c.config.ensures.value)
    ∙ ap (λ w. has_bit w 8) (sym c.sample_type.ensures) ∙ sym (contains_bit c.sample_type.result.0 8) ∙ sym (c.contains.ensures tt) ∙ c.if-contains.true in
    ap (λ b. if b then None else Some c.args.event.now.attr.sample_period) (sym has)

pub returns-else-contains : goal.returns-else-contains
returns-else-contains c =
    let has : has_bit (configured_by c.args.event.now.attr).sample_type 8 ≡ false =
    ap (λ (k : Configuration). has_bit k.sample_type 8) (sym c.config.ensures.value)
    ∙ ap (λ w. has_bit w 8) (sym c.sample_type.ensures) ∙ sym (contains_bit c.sample_type.result.0 8) ∙ sym (c.contains.ensures tt) ∙ c.if-contains.false in
    ap (λ (a : perf_event_attr). Some a.sample_period) c.attr.ensures
    ∙ ap (λ b. if b then None else Some c.args.event.now.attr.sample_period) (sym has)
