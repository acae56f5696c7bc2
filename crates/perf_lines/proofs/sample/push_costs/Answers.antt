use Rattle.std.proofs.Common.{◌≡◌, ◌++◌, ◌∙◌, ◌∷◌, [], List, ℕ, Option, codes, decimal, string_bytes, ap}
use Rattle.std.proofs.lemmas.Result.{on_ok_weaker}
use Rattle.perf_sample_types.specs.Registers.{RegistersValue}
use Rattle.perf_sample_types.specs.SampleGetters.{Getters, getters_of}
use Rattle.perf_sample_types.specs.SampleGroups.{sample_value}
use Rattle.perf_lines.specs.Fields.{with_spaces, present, words_of_numbers, with_commas}
use Rattle.perf_lines.specs.SampleText.{register_words}
use Rattle.perf_lines.proofs.Spaced.{words_more, spaced-words_of, spaced-registers}
use Rattle.perf_lines.proofs.sample.push_costs.Goals as goal

pub returns : goal.returns
returns c =
    let g : Getters = getters_of (sample_value c.args.sample.now) in
    let fields : List (List ℕ × Option ℕ) = (codes "weight", g.weight) ∷ (codes "data_src", g.data_src) ∷ (codes "transaction", g.transaction) ∷ [] in
    let regs : List (List ℕ) = register_words (codes "regs_intr_abi") (codes "regs_intr") g.regs_intr in
    let first : string_bytes c.push_numbers.new.text ≡ string_bytes c.args.text.now ++ with_spaces (words_of_numbers fields) =
    c.in_ok-push_numbers.ensures
    ∙ rw (c.weight.ensures, c.source_bits.ensures, c.data_src.ensures, c.transaction_bits.ensures, c.transaction.ensures)
    (ap (λ rest. string_bytes c.args.text.now ++ rest) (spaced-words_of fields)) in
    on_ok_weaker c.push_registers.result
    (λ last. words_more (words_of_numbers fields) regs _ _ _ first (last
    ∙ ap (λ (v : Option RegistersValue). string_bytes c.push_numbers.new.text ++ present (λ r. codes " regs_intr_abi=" ++ (decimal r.abi ++ (codes " regs_intr=" ++ with_commas decimal r.regs))) v) c.regs_intr.ensures
    ∙ ap (λ rest. string_bytes c.push_numbers.new.text ++ rest) (spaced-registers (codes "regs_intr_abi") (codes "regs_intr") g.regs_intr)))
    c.push_registers.ensures
