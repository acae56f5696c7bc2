use Rattle.std.proofs.Common.{ℕ, List, ◌++◌, decimal, ap, refl, ◌∙◌}
use Rattle.std.specs.Prelude.{codes}
use Rattle.perf_flame.specs.Svg.{label_head, label_text, escaped, thousandths}
use Rattle.perf_flame.proofs.Appending.{appended_third}
use Rattle.perf_flame.proofs.svg.push_letters.Goals as goal

pub returns : goal.returns
unfolding label_head label_text
returns c =
    let first : List ℕ = codes "<text x=\"" in
    let second : List ℕ = codes "\" y=\"" in
    let third : List ℕ = codes "\" dx=\"2\" dy=\"12\">" in
    let old : List ℕ = c.args.text.now.items in
    appended_third c.extend_from_slice-2.result old _ _ c.extend_from_slice-2.new.self.items (label_head c.args.x c.args.y) (escaped c.args.label.now) _ (codes "</text>")
    (c.in_ok-extend_from_slice.ensures.items ∙ ap (λ t. old ++ t)
    (c.as_bytes.ensures.value ∙ c.text.ensures
    ∙ c.put-3.ensures.text ∙ ap (λ t. first ++ t)
    (c.put_thousandths.ensures.text ∙ ap (λ t. thousandths c.args.x ++ t)
    (c.put-2.ensures.text ∙ ap (λ t. second ++ t)
    (c.put_number.ensures.text ∙ ap (λ t. decimal c.args.y ++ t)
    (c.put.ensures.text ∙ ap (λ t. third ++ t) c.new-strip.ensures.text))))))
    c.in_ok-push_escaped.ensures c.extend_from_slice-2.ensures.items refl
