use Rattle.std.proofs.Common.{◌≡◌, ◌++◌, ◌∙◌, ◌∷◌, [], List, ℕ, Option, codes, decimal, string_bytes, ap}
use Rattle.std.proofs.lemmas.Result.{on_ok_weaker}
use Rattle.perf_sample_types.specs.SampleGetters.{Getters, getters_of}
use Rattle.perf_sample_types.specs.SampleGroups.{sample_value}
use Rattle.perf_lines.specs.Fields.{with_spaces, present, words_of_numbers, word_as, with_commas}
use Rattle.perf_lines.specs.SampleText.{group_words}
use Rattle.perf_lines.proofs.Spaced.{words_more, spaced-words_of, spaced-word_as}
use Rattle.perf_lines.proofs.sample.push_counts.Goals as goal

pub returns : goal.returns
returns c =
    let g : Getters = getters_of (sample_value c.args.sample.now) in
    let fields : List (List ℕ × Option ℕ) = (codes "stream_id", g.stream_id) ∷ (codes "cpu", g.cpu) ∷ (codes "period", g.period) ∷ [] in
    let chain : List (List ℕ) = word_as (codes "callchain") (with_commas decimal) g.callchain in
    let first : string_bytes c.push_numbers.new.text ≡ string_bytes c.args.text.now ++ with_spaces (words_of_numbers fields) =
    c.in_ok-push_numbers.ensures
    ∙ rw (c.stream_id.ensures, c.wide.ensures, c.cpu.ensures, c.period.ensures)
    (ap (λ rest. string_bytes c.args.text.now ++ rest) (spaced-words_of fields)) in
    let second : string_bytes c.push_group.new.text ≡ string_bytes c.push_numbers.new.text ++ with_spaces (group_words g.values) =
    c.in_ok-push_group.ensures ∙ ap (λ v. string_bytes c.push_numbers.new.text ++ with_spaces (group_words v)) c.values.ensures in
    on_ok_weaker c.push_list.result
    (λ last. words_more (words_of_numbers fields) (group_words g.values ++ chain) _ _ _ first (words_more (group_words g.values) chain _ _ _ second (last
    ∙ ap (λ v. string_bytes c.push_group.new.text ++ present (λ items. codes " callchain=" ++ with_commas decimal items) v) c.callchain.ensures
    ∙ ap (λ rest. string_bytes c.push_group.new.text ++ rest) (spaced-word_as (codes "callchain") (with_commas decimal) g.callchain))))
    c.push_list.ensures
