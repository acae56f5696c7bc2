use Rattle.std.proofs.Common.{ℕ, List, ◌++◌, decimal, ap, ◌∙◌}
use Rattle.std.specs.Prelude.{codes}
use Rattle.perf_flame.specs.Svg.{title_of, escaped, hundredths}
use Rattle.perf_flame.proofs.Appending.{appended_third}
use Rattle.perf_flame.proofs.svg.push_title.Goals as goal

pub returns : goal.returns
unfolding title_of
returns c =
    let opened : List ℕ = codes " (" in
    let comma : List ℕ = codes ", " in
    let closed : List ℕ = codes "%)</title>" in
    let name : List ℕ = escaped c.args.name.now in
    appended_third c.extend_from_slice-2.result c.args.text.now.items _ _ c.extend_from_slice-2.new.self.items (codes "<g><title>") name c.as_bytes.result.now
    (opened ++ (decimal c.args.worth ++ (comma ++ (hundredths c.args.percent ++ closed))))
    c.in_ok-extend_from_slice.ensures.items c.in_ok-push_escaped.ensures c.extend_from_slice-2.ensures.items
    (c.as_bytes.ensures.value ∙ c.text.ensures
    ∙ c.put-3.ensures.text ∙ ap (λ t. opened ++ t)
    (c.put_number.ensures.text ∙ ap (λ t. decimal c.args.worth ++ t)
    (c.put-2.ensures.text ∙ ap (λ t. comma ++ t)
    (c.put_hundredths.ensures.text ∙ ap (λ t. hundredths c.args.percent ++ t)
    (c.put.ensures.text ∙ ap (λ t. closed ++ t) c.new-strip.ensures.text)))))
