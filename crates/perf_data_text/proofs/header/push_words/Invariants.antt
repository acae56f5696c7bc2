use Rattle.std.proofs.Common.{◌≡◌, ◌++◌, string_bytes}
use Rattle.perf_file.specs.FeatureTexts.{words_left}
use Rattle.perf_data_text.specs.HeaderText.{spaced}
use Rattle.perf_data_text.proofs.header.push_words.Given as goal

abbrev pub invariant-loop-word : goal.invariant-loop-word
invariant-loop-word l = string_bytes l.text ++ spaced (words_left l.word-iterator) ≡ string_bytes l.initial.text ++ spaced (words_left l.fn.line)
