-- What is written of the folded stacks of a file.
use Rattle.std.specs.Prelude.{◌≡◌, ℕ, true, false, List, Option, Result, Ok, Err}
use Rattle.perf_flame.specs.Lines.{Line}
use Rattle.perf_lines.specs.Outcomes.{status_of}
use Rattle.perf_lines.specs.declared.outcome.Outcome.{Outcome}
use Rattle.perf_file.specs.Forms.{opened, event_name}
use Rattle.perf_sections.specs.Opened.{File}
use Rattle.perf_sections.specs.Opens.{Fails}
use Rattle.perf_sections.specs.declared.error.OpenError.TheVariants as opens
use Rattle.perf_fold.specs.EventLabels.{EventLabel, any_counts, labels_by}
use Rattle.perf_fold.specs.Folds.{IsFoldOf}
use Rattle.perf_fold.specs.WrittenForms.{WritesForm}
use Rattle.perf_fold.specs.declared.error.FoldError.{FoldError}
use Rattle.perf_fold.specs.declared.error.FoldError.TheVariants as errors
use Rattle.perf_fold.specs.declared.error.TextError.{TextError}
use Rattle.perf_fold.specs.declared.error.TextError.TheVariants as texts
use Rattle.perf_fold.specs.declared.folding.Choice.{Choice}
use Rattle.perf_fold.specs.declared.form.Form.{Form}

-- the labels of the events of the bytes of a file, which contain that
abbrev pub labels_in : Choice → (bytes : List ℕ) → File → List EventLabel
labels_in how bytes f = labels_by how.filter (event_name bytes f) 0 f.events

-- these are the lines of what the bytes of a file contain, an event of which counts
abbrev pub AreLinesOf : Choice → (bytes : List ℕ) → List Line → Type 0
AreLinesOf how bytes lines =
    (f : File) × (opened bytes ≡ Ok f) × (any_counts (labels_in how bytes f) ≡ true) × IsFoldOf how (labels_in how bytes f) f lines

-- no event of a file counts
abbrev pub LacksEvent : Choice → (bytes : List ℕ) → Type 0
LacksEvent how bytes = (f : File) × (opened bytes ≡ Ok f) × (any_counts (labels_in how bytes f) ≡ false)

-- what was written of the lines of a file
abbrev pub WritesLines : Choice → Form → (bytes : List ℕ) → Result Outcome TextError → (old new : Option (List ℕ)) → Type 0
WritesLines how form bytes ended old new = (lines : List Line) × AreLinesOf how bytes lines × WritesForm form lines ended old new

-- What was written of the folded stacks of the bytes of a file: nothing, if it cannot be opened, no
-- event has the name that counts, there is no such text, or memory ran out.
abbrev pub WritesFold : Choice → Form → (bytes : List ℕ) → Result Outcome FoldError → (old new : Option (List ℕ)) → Type 0
WritesFold how form bytes (Ok ended) old new = WritesLines how form bytes (Ok ended) old new
WritesFold how form bytes (Err (errors.Open e)) old new = Fails e (opened bytes) × (new ≡ old)
WritesFold how form bytes (Err errors.NoEvent) old new = LacksEvent how bytes × (new ≡ old)
WritesFold how form bytes (Err (errors.Text texts.OutOfMemory)) old new = new ≡ old
WritesFold how form bytes (Err (errors.Text e)) old new = WritesLines how form bytes (Err e) old new

-- the exit status: 2 if there is no text, 3 if memory runs out
abbrev pub status_after : Result Outcome FoldError → ℕ
status_after (Ok ended) = status_of ended
status_after (Err (errors.Open opens.OutOfMemory)) = 3
status_after (Err (errors.Text texts.OutOfMemory)) = 3
status_after (Err e) = 2
