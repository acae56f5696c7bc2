use Rattle.std.proofs.Common.{◌≡◌, ◌++◌, ◌∙◌, List, ℕ, Option, codes, decimal, string_bytes, ap}
use Rattle.std.proofs.lemmas.Result.{on_ok_weaker}
use Rattle.perf_sample_types.specs.Registers.{RegistersValue}
use Rattle.perf_sample_types.specs.SampleGetters.{Getters, getters_of}
use Rattle.perf_sample_types.specs.SampleGroups.{sample_value}
use Rattle.perf_lines.specs.Fields.{with_spaces, present, word_as, word_of, with_commas}
use Rattle.perf_text.specs.Numbers.{hex_bytes}
use Rattle.perf_lines.specs.SampleText.{branch_item, register_words}
use Rattle.perf_lines.proofs.Spaced.{words_more, spaced-word_as, spaced-registers}
use Rattle.perf_lines.proofs.sample.push_state.Goals as goal

pub returns : goal.returns
returns c =
    let g : Getters = getters_of (sample_value c.args.sample.now) in
    let raw : List (List ℕ) = word_as (codes "raw") hex_bytes g.raw in
    let index : List (List ℕ) = word_of (codes "lbr_hw_index") g.lbr_hw_index in
    let branches : List (List ℕ) = word_as (codes "lbr") (with_commas branch_item) g.lbr in
    let regs : List (List ℕ) = register_words (codes "regs_user_abi") (codes "regs_user") g.regs_user in
    let stack : List (List ℕ) = word_as (codes "stack_user") hex_bytes g.stack_user in
    let first : string_bytes c.push_bytes.new.text ≡ string_bytes c.args.text.now ++ with_spaces raw =
    c.in_ok-push_bytes.ensures
    ∙ ap (λ v. string_bytes c.args.text.now ++ present (λ items. codes " raw=" ++ hex_bytes items) v) c.raw.ensures
    ∙ ap (λ rest. string_bytes c.args.text.now ++ rest) (spaced-word_as (codes "raw") hex_bytes g.raw) in
    let second : string_bytes c.push_present.new.text ≡ string_bytes c.push_bytes.new.text ++ with_spaces index =
    c.in_ok-push_present.ensures
    ∙ ap (λ v. string_bytes c.push_bytes.new.text ++ present (λ n. codes " lbr_hw_index=" ++ decimal n) v) c.lbr_hw_index.ensures
    ∙ ap (λ rest. string_bytes c.push_bytes.new.text ++ rest) (spaced-word_as (codes "lbr_hw_index") decimal g.lbr_hw_index) in
    let third : string_bytes c.push_branches.new.text ≡ string_bytes c.push_present.new.text ++ with_spaces branches =
    c.in_ok-push_branches.ensures
    ∙ ap (λ v. string_bytes c.push_present.new.text ++ present (λ items. codes " lbr=" ++ with_commas branch_item items) v) c.lbr.ensures
    ∙ ap (λ rest. string_bytes c.push_present.new.text ++ rest) (spaced-word_as (codes "lbr") (with_commas branch_item) g.lbr) in
    let fourth : string_bytes c.push_registers.new.text ≡ string_bytes c.push_branches.new.text ++ with_spaces regs =
    c.in_ok-push_registers.ensures
    ∙ ap (λ (v : Option RegistersValue). string_bytes c.push_branches.new.text ++ present (λ r. codes " regs_user_abi=" ++ (decimal r.abi ++ (codes " regs_user=" ++ with_commas decimal r.regs))) v) c.regs_user.ensures
    ∙ ap (λ rest. string_bytes c.push_branches.new.text ++ rest) (spaced-registers (codes "regs_user_abi") (codes "regs_user") g.regs_user) in
    on_ok_weaker c.push_bytes-2.result
    (λ last. words_more raw (index ++ (branches ++ (regs ++ stack))) _ _ _ first
    (words_more index (branches ++ (regs ++ stack)) _ _ _ second
    (words_more branches (regs ++ stack) _ _ _ third
    (words_more regs stack _ _ _ fourth (last
    ∙ ap (λ v. string_bytes c.push_registers.new.text ++ present (λ items. codes " stack_user=" ++ hex_bytes items) v) c.stack_user.ensures
    ∙ ap (λ rest. string_bytes c.push_registers.new.text ++ rest) (spaced-word_as (codes "stack_user") hex_bytes g.stack_user))))))
    c.push_bytes-2.ensures
