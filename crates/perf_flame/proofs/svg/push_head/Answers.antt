use Rattle.std.proofs.Common.{ℕ, List, ◌++◌, decimal, ap, ◌∙◌}
use Rattle.std.specs.Prelude.{codes}
use Rattle.perf_flame.specs.Svg.{head_text}
use Rattle.perf_flame.proofs.Appending.{appended}
use Rattle.perf_flame.proofs.svg.push_head.Goals as goal

pub returns : goal.returns
unfolding head_text
returns c =
    let number : List ℕ = decimal c.args.height in
    let first : List ℕ = codes "<svg xmlns=\"http://www.w3.org/2000/svg\" width=\"1200\" height=\"" in
    let second : List ℕ = codes "\" viewBox=\"0 0 1200 " in
    let third : List ℕ = codes "\" font-family=\"monospace\" font-size=\"12\">\n" in
    appended c.extend_from_slice.result c.args.text.now.items c.extend_from_slice.new.self.items c.as_bytes.result.now (head_text c.args.height) c.extend_from_slice.ensures.items
    (c.as_bytes.ensures.value ∙ c.text.ensures
    ∙ c.put-3.ensures.text ∙ ap (λ t. first ++ t)
    (c.put_number-2.ensures.text ∙ ap (λ t. number ++ t)
    (c.put-2.ensures.text ∙ ap (λ t. second ++ t)
    (c.put_number.ensures.text ∙ ap (λ t. number ++ t)
    (c.put.ensures.text ∙ ap (λ t. third ++ t) c.new-strip.ensures.text)))))
