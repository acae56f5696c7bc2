use Rattle.std.proofs.Common.{◌≡◌, ◌++◌, ◌∙◌, ◌∷◌, [], List, ℕ, Option, codes, decimal, string_bytes, ap}
use Rattle.std.proofs.lemmas.Result.{on_ok_weaker}
use Rattle.perf_sample_types.specs.SampleGetters.{Getters, getters_of}
use Rattle.perf_sample_types.specs.SampleGroups.{sample_value}
use Rattle.perf_lines.specs.Fields.{with_spaces, present, words_of_numbers, word_as, word_of}
use Rattle.perf_text.specs.Numbers.{hex_bytes}
use Rattle.perf_lines.proofs.Spaced.{words_more, spaced-words_of, spaced-word_as}
use Rattle.perf_lines.proofs.sample.push_memory.Goals as goal

pub returns : goal.returns
returns c =
    let g : Getters = getters_of (sample_value c.args.sample.now) in
    let address : List (List ℕ) = word_of (codes "phys_addr") g.phys_addr in
    let aux : List (List ℕ) = word_as (codes "aux") hex_bytes g.aux in
    let fields : List (List ℕ × Option ℕ) = (codes "cgroup", g.cgroup) ∷ (codes "data_page_size", g.data_page_size) ∷ (codes "code_page_size", g.code_page_size) ∷ [] in
    let first : string_bytes c.push_present.new.text ≡ string_bytes c.args.text.now ++ with_spaces address =
    c.in_ok-push_present.ensures
    ∙ ap (λ v. string_bytes c.args.text.now ++ present (λ n. codes " phys_addr=" ++ decimal n) v) c.phys_addr.ensures
    ∙ ap (λ rest. string_bytes c.args.text.now ++ rest) (spaced-word_as (codes "phys_addr") decimal g.phys_addr) in
    let second : string_bytes c.push_bytes.new.text ≡ string_bytes c.push_present.new.text ++ with_spaces aux =
    c.in_ok-push_bytes.ensures
    ∙ ap (λ v. string_bytes c.push_present.new.text ++ present (λ items. codes " aux=" ++ hex_bytes items) v) c.aux.ensures
    ∙ ap (λ rest. string_bytes c.push_present.new.text ++ rest) (spaced-word_as (codes "aux") hex_bytes g.aux) in
    on_ok_weaker c.push_numbers.result
    (λ last. words_more address (aux ++ words_of_numbers fields) _ _ _ first (words_more aux (words_of_numbers fields) _ _ _ second (last
    ∙ rw (c.cgroup.ensures, c.data_page_size.ensures, c.code_page_size.ensures)
    (ap (λ rest. string_bytes c.push_bytes.new.text ++ rest) (spaced-words_of fields)))))
    c.push_numbers.ensures
