use Rattle.std.proofs.Common.{ℕ, List, ◌++◌, codes, string_bytes, ap, ◌∙◌, append_assoc}
use Rattle.perf_file.specs.FeatureTexts.{words_left}
use Rattle.perf_data_text.specs.HeaderText as headers
use Rattle.perf_data_text.proofs.header.push_words_line.Goals as goal

pub returns : goal.returns
returns c =
    let old : List ℕ = string_bytes c.args.text.now in
    let name : List ℕ = codes "# cmdline :" in
    let words : List ℕ = headers.spaced (words_left c.args.line) in
    let end : List ℕ = codes "\n" in
    c.in_ok-push_str-2.ensures.bytes
    ∙ ap (λ text. text ++ end) (c.in_ok-push_words.ensures ∙ ap (λ text. text ++ words) c.in_ok-push_str.ensures.bytes)
    ∙ ap (λ text. text ++ end) (append_assoc old name words)
    ∙ append_assoc old (name ++ words) end
