-- The lines of the frames of entries, one entry after another.
use Rattle.std.proofs.Common.{◌≡◌, ℕ, Bool, true, false, cond, suc, ◌+◌, ◌<◌, ◌≤◌, List, fold, [], ◌∷◌, length, drop, get_or, refl, sym, ◌∙◌, ap, subst, drop-cons, arith}
use Rattle.std.specs.Prelude.{Option, Some, None}
use Rattle.std.specs.List.{cons_option, filter}
use Rattle.std.proofs.lemmas.List.{drop_all}
use Rattle.perf_base.specs.Dynamic.{order_of}
use Rattle.perf_base.specs.Order.{Order}
use Rattle.perf_sections.specs.Opened.{File}
use Rattle.perf_file.specs.declared.entries.Entry.{Entry}
use Rattle.perf_flame.specs.Lines.{Line}
use Rattle.perf_history.specs.declared.changes.Change.{Change}
use Rattle.perf_history.specs.declared.histories.History.{History}
use Rattle.perf_walk.specs.Plain.{IsPast}
use Rattle.perf_walk.specs.Moments.{Moment, moments, moment_at, known_after}
use Rattle.perf_fold.specs.EventLabels.{EventLabel}
use Rattle.perf_fold.specs.Folds.{add_if, add_moment, add_moments, is_chosen}
use Rattle.perf_fold.specs.declared.folding.Choice.{Choice}

-- a frame before others is added, if its sample counts
add_first : (add : List Line → Moment → List Line) (lines : List Line) (m : Moment) (ms : List Moment) (b : Bool) → fold add lines (cond b (m ∷ ms) ms) ≡ fold add (cond b (add lines m) lines) ms
add_first add lines m ms true = refl
add_first add lines m ms false = refl

add_one : (how : Choice) (labels : List EventLabel) (o : Order) (lines : List Line) (m : Option Moment) (ms : List Moment)
    → add_moments how labels o lines (cons_option m ms) ≡ add_moments how labels o (add_if how labels o lines m) ms
add_one how labels o lines (Some m) ms = add_first (add_moment how labels o) lines m (filter (is_chosen how labels o) ms) (is_chosen how labels o m)
add_one how labels o lines None ms = refl

-- the lines so far, to which those of the entries that are left are added, are the lines of all
abbrev pub AreSoFar : Choice → (labels : List EventLabel) → File → (entries left : List Entry) → (known : List Change) → List Line → Type 0
AreSoFar how labels f entries left known lines =
    add_moments how labels (order_of f.order) lines (moments f left known) ≡ add_moments how labels (order_of f.order) [] (moments f entries [])

-- and then one more
pub one_more : (how : Choice) (labels : List EventLabel) (f : File) (entries : List Entry) (i : ℕ) (d : Entry) (known : List Change) (lines grown : List Line) → i < length entries
    → AreSoFar how labels f entries (drop i entries) known lines → grown ≡ add_if how labels (order_of f.order) lines (moment_at f (get_or entries i d) known)
    → AreSoFar how labels f entries (drop (i + 1) entries) (known_after f (get_or entries i d) known) grown
one_more how labels f entries i d known lines grown below so more =
    let o : Order = order_of f.order in
    let e : Entry = get_or entries i d in
    let next : suc i ≡ i + 1 = omega arith in
    let split : drop i entries ≡ e ∷ drop (i + 1) entries = drop-cons entries i d below ∙ ap (λ n. e ∷ drop n entries) next in
    ap (λ ls. add_moments how labels o ls (moments f (drop (i + 1) entries) (known_after f e known))) more
    ∙ sym (add_one how labels o lines (moment_at f e known) (moments f (drop (i + 1) entries) (known_after f e known)))
    ∙ ap (λ es. add_moments how labels o lines (moments f es known)) (sym split)
    ∙ so

-- the same in other words for the same
pub moved : (how taken : Choice) (labels given : List EventLabel) (f g : File) (entries : List Entry) (i : ℕ) (d : Entry) (known : List Change) (lines grown : List Line) (history : History) → taken ≡ how → given ≡ labels → g ≡ f
    → i < length entries → AreSoFar how labels f entries (drop i entries) known lines
    → IsPast history (known_after g (get_or entries i d) known) × (grown ≡ add_if taken given (order_of g.order) lines (moment_at g (get_or entries i d) known))
    → (next : List Change) × IsPast history next × AreSoFar how labels f entries (drop (i + 1) entries) next grown
moved how taken labels given f g entries i d known lines grown history same_how same_labels same below so gone =
    let e : Entry = get_or entries i d in
    let past : IsPast history (known_after f e known) = subst (λ (x : File). IsPast history (known_after x e known)) same gone.0 in
    let grew : grown ≡ add_if how labels (order_of f.order) lines (moment_at f e known) =
    gone.1 ∙ ap (λ (h : Choice). add_if h given (order_of g.order) lines (moment_at g e known)) same_how
    ∙ ap (λ (ls : List EventLabel). add_if how ls (order_of g.order) lines (moment_at g e known)) same_labels
    ∙ ap (λ (x : File). add_if how labels (order_of x.order) lines (moment_at x e known)) same in
    (known_after f e known, past, one_more how labels f entries i d known lines grown below so grew)

-- all of them
pub all_moved : (how : Choice) (labels : List EventLabel) (f : File) (entries : List Entry) (i : ℕ) (known : List Change) (lines : List Line) → length entries ≤ i → AreSoFar how labels f entries (drop i entries) known lines
    → lines ≡ add_moments how labels (order_of f.order) [] (moments f entries [])
all_moved how labels f entries i known lines all so =
    sym (ap (λ (es : List Entry). add_moments how labels (order_of f.order) lines (moments f es known)) (drop_all i entries all)) ∙ so
