-- What is written of folded stacks in a form.
use Rattle.std.specs.Prelude.{◌≡◌, ℕ, List, take, Option, Result, Ok, Err}
use Rattle.std.specs.Io.KnownBytes.{Appends}
use Rattle.perf_flame.specs.Lines.{Line}
use Rattle.perf_lines.specs.Outcomes.{status_of}
use Rattle.perf_lines.specs.declared.outcome.Outcome.{Outcome}
use Rattle.perf_lines.specs.declared.outcome.Outcome.TheVariants as outcome
use Rattle.perf_fold.specs.Forms.{IsText, Fails}
use Rattle.perf_fold.specs.Sums.{AreRead, IsRefusedIn, sums_of_all}
use Rattle.perf_fold.specs.declared.error.TextError.{TextError}
use Rattle.perf_fold.specs.declared.error.TextError.TheVariants as errors
use Rattle.perf_fold.specs.declared.form.Form.{Form}

-- what was written of a text: all of it, or its beginning if writing failed
abbrev pub Writes : Outcome → (text : List ℕ) → (old new : Option (List ℕ)) → Type 0
Writes outcome.Clean text old new = Appends old new text
Writes outcome.Refused text old new = ⊥
Writes outcome.BadAttr text old new = ⊥
Writes outcome.Faulted text old new = ⊥
Writes outcome.Stopped text old new = (n : ℕ) × Appends old new (take n text)

-- what was written of lines in a form: nothing, if there is no such text of them
abbrev pub WritesForm : Form → List Line → Result Outcome TextError → (old new : Option (List ℕ)) → Type 0
WritesForm form lines (Ok how) old new = (text : List ℕ) × IsText form lines text × Writes how text old new
WritesForm form lines (Err e) old new = Fails form lines e × (new ≡ old)

-- what was written of the sums of texts: nothing, if one of them is refused
abbrev pub WritesSum : Form → List (List ℕ) → Result Outcome TextError → (old new : Option (List ℕ)) → Type 0
WritesSum form texts (Ok how) old new = AreRead texts × WritesForm form (sums_of_all texts) (Ok how) old new
WritesSum form texts (Err (errors.BadLine i line)) old new = IsRefusedIn texts i line × (new ≡ old)
WritesSum form texts (Err errors.TooMany) old new = AreRead texts × WritesForm form (sums_of_all texts) (Err errors.TooMany) old new
WritesSum form texts (Err errors.OutOfMemory) old new = new ≡ old

-- the exit status: 2 for what is refused, 3 if memory runs out
abbrev pub status_after_sum : Result Outcome TextError → ℕ
status_after_sum (Ok how) = status_of how
status_after_sum (Err (errors.BadLine i line)) = 2
status_after_sum (Err errors.TooMany) = 2
status_after_sum (Err errors.OutOfMemory) = 3
