-- What is written of a file.
use Rattle.std.specs.Prelude.{◌≡◌, ◌⊎◌, ℕ, Bool, true, false, List, Option, Result, Ok, Err}
use Rattle.perf_lines.specs.declared.outcome.Outcome.{Outcome}
use Rattle.std.specs.declared.alloc.AllocError.{AllocError}
use Rattle.perf_file.specs.Forms.{opened, event_name}
use Rattle.perf_sections.specs.Opened.{File}
use Rattle.perf_sections.specs.Opens.{Fails}
use Rattle.perf_sections.specs.declared.error.OpenError.TheVariants as opens
use Rattle.perf_lines.specs.Outcomes.{status_of}
use Rattle.perf_walk.specs.declared.filtering.Filter.{Filter}
use Rattle.perf_script.specs.Labels.{any_counts, labels_by}
use Rattle.perf_script.specs.ScriptText.{IsText}
use Rattle.perf_script.specs.Writing.{Writes, WritesFront}
use Rattle.perf_script.specs.declared.error.ScriptError.{ScriptError}
use Rattle.perf_script.specs.declared.fields.Style.{Style}
use Rattle.perf_script.specs.declared.error.ScriptError.TheVariants as errors

-- what was written of a file that could be opened, by a filter that takes one of its events
abbrev pub WritesOf : Style → Filter → File → (bytes : List ℕ) → Outcome → (old new : Option (List ℕ)) → Type 0
WritesOf style w f bytes how old new =
    (any_counts (labels_by w (event_name bytes f) f.events) ≡ true) × (refused : Bool) × (text : List ℕ) × IsText style w f (event_name bytes f) refused text × Writes how refused text old new

-- a file has no event that a filter takes
abbrev pub LacksEvent : Filter → (bytes : List ℕ) → Type 0
LacksEvent w bytes = (f : File) × (opened bytes ≡ Ok f) × (any_counts (labels_by w (event_name bytes f) f.events) ≡ false)

-- what was written of a file as memory ran out: nothing, or a beginning of the text
abbrev pub WritesSome : Style → Filter → (bytes : List ℕ) → (old new : Option (List ℕ)) → Type 0
WritesSome style w bytes old new =
    (new ≡ old) ⊎ ((f : File) × (opened bytes ≡ Ok f) × (refused : Bool) × (text : List ℕ) × IsText style w f (event_name bytes f) refused text × WritesFront text old new)

-- What was written of the bytes of a file: the text of its samples that a filter takes and, if they are
-- chosen, of its other records, or nothing, if it cannot be opened, or no event has the name that counts.
abbrev pub WritesScript : Style → Filter → List ℕ → Result Outcome ScriptError → (old new : Option (List ℕ)) → Type 0
WritesScript style w bytes (Ok how) old new = (f : File) × (opened bytes ≡ Ok f) × WritesOf style w f bytes how old new
WritesScript style w bytes (Err (errors.Open opens.OutOfMemory)) old new = WritesSome style w bytes old new
WritesScript style w bytes (Err (errors.Open e)) old new = Fails e (opened bytes) × (new ≡ old)
WritesScript style w bytes (Err errors.NoEvent) old new = LacksEvent w bytes × (new ≡ old)

-- what writing the frames returns, as the whole call does
abbrev pub script_result : Result Outcome AllocError → Result Outcome ScriptError
script_result (Ok how) = Ok how
script_result (Err e) = Err (errors.Open opens.OutOfMemory)

-- the exit status: 2 if there is no text, 3 if memory runs out
abbrev pub status_after : Result Outcome ScriptError → ℕ
status_after (Ok how) = status_of how
status_after (Err (errors.Open opens.OutOfMemory)) = 3
status_after (Err e) = 2
