use Rattle.std.proofs.Common.{◌++◌, ◌∷◌, [], codes}
use Rattle.std.proofs.lemmas.Result.{on_ok_weaker}
use Rattle.perf_sample_types.specs.SampleGetters.{Getters, getters_of}
use Rattle.perf_sample_types.specs.SampleGroups.{sample_value}
use Rattle.perf_lines.specs.SampleText.{moment_words, count_words, state_words, cost_words, memory_words}
use Rattle.perf_lines.proofs.Spaced.{words_more}
use Rattle.perf_lines.proofs.sample.push_sample.Goals as goal

pub returns : goal.returns
returns c =
    let g : Getters = getters_of (sample_value c.args.sample.now) in
    on_ok_weaker c.push_memory.result
    (λ last. words_more (codes "Sample" ∷ []) (moment_words g ++ (count_words g ++ (state_words g ++ (cost_words g ++ memory_words g)))) _ _ _ c.in_ok-push_str.ensures.bytes
    (words_more (moment_words g) (count_words g ++ (state_words g ++ (cost_words g ++ memory_words g))) _ _ _ c.in_ok-push_moment.ensures
    (words_more (count_words g) (state_words g ++ (cost_words g ++ memory_words g)) _ _ _ c.in_ok-push_counts.ensures
    (words_more (state_words g) (cost_words g ++ memory_words g) _ _ _ c.in_ok-push_state.ensures
    (words_more (cost_words g) (memory_words g) _ _ _ c.in_ok-push_costs.ensures last)))))
    c.push_memory.ensures
