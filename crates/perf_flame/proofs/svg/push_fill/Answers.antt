use Rattle.std.proofs.Common.{ℕ, List, ◌++◌, decimal, ap, ◌∙◌}
use Rattle.std.specs.Prelude.{codes}
use Rattle.perf_flame.specs.Svg.{fill_text}
use Rattle.perf_flame.proofs.Appending.{appended}
use Rattle.perf_flame.proofs.svg.push_fill.Goals as goal

pub returns : goal.returns
unfolding fill_text
returns c =
    let first : List ℕ = codes " fill=\"rgb(" in
    let comma : List ℕ = codes "," in
    let last : List ℕ = codes ")\"/>" in
    let h : ℕ = c.args.hash in
    appended c.extend_from_slice.result c.args.text.now.items c.extend_from_slice.new.self.items c.as_bytes.result.now (fill_text h) c.extend_from_slice.ensures.items
    (c.as_bytes.ensures.value ∙ c.text.ensures
    ∙ c.put-4.ensures.text ∙ ap (λ t. first ++ t)
    (c.put_number-3.ensures.text ∙ (λ i. decimal (c.from-3.ensures i) ++ (c.put-3.ensures.text ∙ ap (λ t. comma ++ t)
    (c.put_number-2.ensures.text ∙ (λ i. decimal (c.from-2.ensures i) ++ (c.put-2.ensures.text ∙ ap (λ t. comma ++ t)
    (c.put_number.ensures.text ∙ (λ i. decimal (c.from.ensures i) ++ (c.put.ensures.text ∙ ap (λ t. last ++ t) c.new-strip.ensures.text) i))) i))) i)))
