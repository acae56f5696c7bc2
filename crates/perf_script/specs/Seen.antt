-- What the code shows of a sample.
use Rattle.perf_script.specs.SampleText.{Shown}
use Rattle.perf_script.specs.declared.samples.Sampled.{Sampled}

-- what is shown
abbrev pub shown_in : Sampled → Shown
shown_in s = record { chosen = s.chosen; fields = s.fields; hidden = s.hidden; sample = s.sample; calls = s.calls.now }
