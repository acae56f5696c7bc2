use Rattle.std.proofs.Common.{ℕ, List, ◌++◌, decimal, ap, ◌∙◌}
use Rattle.std.specs.Prelude.{codes}
use Rattle.perf_flame.specs.Svg.{place_text, thousandths}
use Rattle.perf_flame.proofs.Appending.{appended}
use Rattle.perf_flame.proofs.svg.push_place.Goals as goal

pub returns : goal.returns
unfolding place_text
returns c =
    let first : List ℕ = codes "<rect x=\"" in
    let second : List ℕ = codes "\" y=\"" in
    let third : List ℕ = codes "\" width=\"" in
    let fourth : List ℕ = codes "\" height=\"15\"" in
    appended c.extend_from_slice.result c.args.text.now.items c.extend_from_slice.new.self.items c.as_bytes.result.now (place_text c.args.x c.args.y c.args.width) c.extend_from_slice.ensures.items
    (c.as_bytes.ensures.value ∙ c.text.ensures
    ∙ c.put-4.ensures.text ∙ ap (λ t. first ++ t)
    (c.put_thousandths-2.ensures.text ∙ ap (λ t. thousandths c.args.x ++ t)
    (c.put-3.ensures.text ∙ ap (λ t. second ++ t)
    (c.put_number.ensures.text ∙ ap (λ t. decimal c.args.y ++ t)
    (c.put-2.ensures.text ∙ ap (λ t. third ++ t)
    (c.put_thousandths.ensures.text ∙ ap (λ t. thousandths c.args.width ++ t)
    (c.put.ensures.text ∙ ap (λ t. fourth ++ t) c.new-strip.ensures.text)))))))
