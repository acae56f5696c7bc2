-- What a refusal says.
use Rattle.std.specs.Prelude.{ℕ, List, codes}
use Rattle.perf_flame.specs.Messages.{folded_message, flame_message}
use Rattle.perf_flame.specs.declared.error.FlameError.TheVariants as flames
use Rattle.perf_flame.specs.declared.error.FoldedError.TheVariants as folded
use Rattle.perf_sections.specs.Messages as files
use Rattle.perf_fold.specs.declared.error.FoldError.{FoldError}
use Rattle.perf_fold.specs.declared.error.FoldError.TheVariants as errors
use Rattle.perf_fold.specs.declared.error.TextError.{TextError}
use Rattle.perf_fold.specs.declared.error.TextError.TheVariants as texts

-- of texts, or of a flame graph
abbrev pub text_message : TextError → List ℕ
text_message (texts.BadLine text line) = folded_message (folded.BadLine line)
text_message texts.TooMany = flame_message flames.TooMany
text_message texts.OutOfMemory = flame_message flames.OutOfMemory

-- of a file, of its events, or of its text
abbrev pub message : FoldError → List ℕ
message (errors.Open e) = files.message e
message errors.NoEvent = codes "no event has this name: `perf_data events` prints the names"
message (errors.Text e) = text_message e
