-- The lines of the bytes of a file.
use Rattle.std.proofs.Common.{◌≡◌, ℕ, ◌<◌, true, false, List, length, get_or, sym, ◌∙◌, ap, subst}
use Rattle.std.specs.Prelude.{Option, Ok, Err}
use Rattle.perf_file.specs.Forms.{opened, event_name}
use Rattle.perf_sections.specs.Names.{name_view}
use Rattle.perf_sections.specs.Opened.{event_view}
use Rattle.perf_file.specs.Views.{view}
use Rattle.perf_sections.specs.declared.events.Event.{Event}
use Rattle.perf_file.specs.declared.opening.Recording.{Recording}
use Rattle.perf_flame.specs.Lines.{Line}
use Rattle.perf_fold.specs.EventLabels.{EventLabel, any_counts, own_labels}
use Rattle.perf_fold.specs.Folds.{IsFoldOf}
use Rattle.perf_fold.specs.Written.{AreLinesOf, LacksEvent, WritesFold, labels_in}
use Rattle.perf_fold.specs.WrittenForms.{WritesForm}
use Rattle.perf_fold.specs.declared.error.FoldError.TheVariants as errors
use Rattle.perf_fold.specs.declared.error.TextError.{TextError}
use Rattle.perf_fold.specs.declared.error.TextError.TheVariants as texts
use Rattle.perf_fold.specs.declared.folding.Choice.{Choice}
use Rattle.perf_fold.specs.declared.form.Form.{Form}
use Rattle.perf_fold.proofs.LabelsAlike.{labelled_by}

-- each event has the name that the file states
abbrev pub IsNamed : List ℕ → Recording → Type 0
IsNamed bytes r = (n : ℕ) (d : Event) → n < length r.events.items → name_view (get_or r.events.items n d).name ≡ event_name bytes (view r) n (event_view (get_or r.events.items n d))

-- labels of the code are those that the file states
same_labels : (how : Choice) (bytes : List ℕ) (r : Recording) (labels : List EventLabel) → IsNamed bytes r → labels ≡ own_labels how.filter r.events.items → labels ≡ labels_in how bytes (view r)
same_labels how bytes r labels named own = own ∙ labelled_by how.filter (event_name bytes (view r)) r.events.items named

pub lines_of : (how : Choice) (bytes : List ℕ) (r : Recording) (labels : List EventLabel) (lines : List Line) → opened bytes ≡ Ok (view r) → IsNamed bytes r → labels ≡ own_labels how.filter r.events.items → any_counts labels ≡ true
    → IsFoldOf how labels (view r) lines → AreLinesOf how bytes lines
lines_of how bytes r labels lines found named own any fold =
    let same = same_labels how bytes r labels named own in
    (view r, found, sym (ap any_counts same) ∙ any, subst (λ (ls : List EventLabel). IsFoldOf how ls (view r) lines) same fold)

pub lacks_event : (how : Choice) (bytes : List ℕ) (r : Recording) (labels : List EventLabel) → opened bytes ≡ Ok (view r) → IsNamed bytes r → labels ≡ own_labels how.filter r.events.items → any_counts labels ≡ false → LacksEvent how bytes
lacks_event how bytes r labels found named own none = (view r, found, sym (ap any_counts (same_labels how bytes r labels named own)) ∙ none)

-- there is no text of them, or memory ran out
pub failed : (how : Choice) (form : Form) (bytes : List ℕ) (lines : List Line) (e : TextError) (old new : Option (List ℕ)) → AreLinesOf how bytes lines → WritesForm form lines (Err e) old new
    → WritesFold how form bytes (Err (errors.Text e)) old new
failed how form bytes lines (texts.BadLine text line) old new are writes = (lines, are, writes)
failed how form bytes lines texts.TooMany old new are writes = (lines, are, writes)
failed how form bytes lines texts.OutOfMemory old new are writes = writes.1
