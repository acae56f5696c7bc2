-- What is written of a file.
use Rattle.std.specs.Prelude.{◌≡◌, ℕ, List, Option, Result, Ok, Err}
use Rattle.perf_file.specs.Forms.{opened, event_name}
use Rattle.perf_sections.specs.Names.{Name}
use Rattle.perf_sections.specs.Opened.{File, FileEvent}
use Rattle.perf_sections.specs.Opens.{Fails}
use Rattle.perf_sections.specs.declared.error.OpenError.{OpenError}
use Rattle.perf_lines.specs.declared.outcome.Outcome.{Outcome}
use Rattle.perf_data_text.specs.Shown.{Writes}
use Rattle.perf_summary.specs.Threads.{AreThreadsOf}
use Rattle.perf_summary.specs.declared.threads.Thread.{Thread}
use Rattle.perf_summary.specs.SummaryJson.{json_text}
use Rattle.perf_summary.specs.SummaryText.{summary_text, is_any_refused}
use Rattle.perf_summary.specs.declared.run.Form.{Form}
use Rattle.perf_summary.specs.declared.run.Form.TheVariants as form

-- the summary of a file in a form
abbrev pub text_in : Form → File → (bytes : List ℕ) → (naming : ℕ → FileEvent → Name) → List ((ℕ × ℕ) × Thread) → List ℕ
text_in form.Text f bytes naming threads = summary_text f bytes naming threads
text_in form.Json f bytes naming threads = json_text f bytes naming threads

-- what was written of a file that could be opened: its summary, or the beginning of that if writing failed
abbrev pub WritesOf : Form → File → (bytes : List ℕ) → Outcome → (old new : Option (List ℕ)) → Type 0
WritesOf form f bytes how old new =
    (threads : List ((ℕ × ℕ) × Thread)) × AreThreadsOf f threads
    × Writes how (is_any_refused f bytes) (text_in form f bytes (event_name bytes f) threads) old new

-- What was written of the bytes of a file: the summary of what it contains in a form, or nothing, if it
-- cannot be opened or memory runs out.
abbrev pub Shows : Form → List ℕ → Result Outcome OpenError → (old new : Option (List ℕ)) → Type 0
Shows form bytes (Ok how) old new = (f : File) × (opened bytes ≡ Ok f) × WritesOf form f bytes how old new
Shows form bytes (Err e) old new = Fails e (opened bytes) × (new ≡ old)
