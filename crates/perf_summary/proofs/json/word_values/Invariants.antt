use Rattle.std.proofs.Common.{◌≡◌, ◌++◌, map}
use Rattle.serde_json.specs.View.{view}
use Rattle.perf_file.specs.FeatureTexts.{words_left}
use Rattle.perf_summary.specs.SummaryJson.{printed_data}
use Rattle.perf_summary.proofs.json.word_values.Given as goal

abbrev pub invariant-loop-word : goal.invariant-loop-word
invariant-loop-word l = map view l.values.items ++ map printed_data (words_left l.word-iterator) ≡ map printed_data (words_left l.fn.line)
