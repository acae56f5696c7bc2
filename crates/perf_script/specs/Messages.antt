-- What a refusal says.
use Rattle.std.specs.Prelude.{ℕ, List, codes}
use Rattle.perf_sections.specs.Messages as files
use Rattle.perf_script.specs.declared.error.ScriptError.{ScriptError}
use Rattle.perf_script.specs.declared.error.ScriptError.TheVariants as errors

-- of a file, or of its events
abbrev pub message : ScriptError → List ℕ
message (errors.Open e) = files.message e
message errors.NoEvent = codes "no event has this name: `perf_data events` prints the names"
