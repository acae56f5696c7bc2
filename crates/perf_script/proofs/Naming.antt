-- The labels of events that have names.
use Rattle.std.proofs.Common.{◌≡◌, ℕ, suc, ◌+◌, ◌<◌, ◌≤◌, Bool, true, List, [], ◌∷◌, map, length, get_or, ◌||◌, refl, sym, ap, subst, ◌∙◌, add-zero, zero-add, arith}
use Rattle.std.specs.List.{enumerate_from, list_any}
use Rattle.std.proofs.lemmas.List.{get_or-map, length-map}
use Rattle.std.proofs.Math.ListN.{get_or-eq_default}
use Rattle.perf_sections.specs.Names.{Name, name_view, name_text}
use Rattle.perf_sections.specs.Opened.{File, FileEvent, event_view}
use Rattle.perf_file.specs.Views.{view}
use Rattle.perf_sections.specs.declared.events.Event.{Event}
use Rattle.perf_file.specs.declared.opening.Recording.{Recording}
use Rattle.perf_walk.specs.declared.filtering.Filter.{Filter}
use Rattle.perf_script.specs.ScriptText.{Choice, choice_by}
use Rattle.perf_script.specs.UnderWay.{AreChosen, AreEvents}
use Rattle.perf_script.specs.declared.fields.Style.{Style}
use Rattle.perf_script.specs.declared.labels.Label.{Label}
use Rattle.perf_script.specs.declared.script.Events.{Events}
use Rattle.perf_script.specs.Labels.{EventLabel, any_counts, label_view, label_at, label_with, named, names_by, labels_by, own_name, own_label, own_labels, widest, AreNamedBy}

-- what is made of each event and its name
own_alike : {A : Type 0} (make : List ℕ → FileEvent → A) (naming : ℕ → FileEvent → Name) (first : ℕ) (events : List Event)
    → ((n : ℕ) (d : Event) → n < length events → name_view (get_or events n d).name ≡ naming (first + n) (event_view (get_or events n d)))
    → map (λ (e : Event). make (own_name e) (event_view e)) events ≡ map (λ (numbered : ℕ × FileEvent). make (named naming numbered) numbered.1) (enumerate_from first (map event_view events))
own_alike make naming first [] d = refl
own_alike make naming first (e ∷ es) d =
    let there : own_name e ≡ name_text (naming first (event_view e)) = ap name_text (d 0 e (omega arith) ∙ ap (λ n. naming n (event_view e)) (add-zero first)) in
    ap (λ name. make name (event_view e) ∷ map (λ (e : Event). make (own_name e) (event_view e)) es) there
    ∙ ap (λ rest. make (name_text (naming first (event_view e))) (event_view e) ∷ rest)
    (own_alike make naming (first + 1) es (λ n x lt.
    let moved : first + suc n ≡ first + 1 + n = omega arith in
    d (suc n) x (omega (arith, lt)) ∙ ap (λ k. naming k (event_view (get_or es n x))) moved))

-- from the first event on
from_first : (r : Recording) (naming : ℕ → FileEvent → Name) → AreNamedBy r naming
    → (n : ℕ) (d : Event) → n < length r.events.items → name_view (get_or r.events.items n d).name ≡ naming (0 + n) (event_view (get_or r.events.items n d))
from_first r naming named n d lt = named n d lt ∙ ap (λ k. naming k (event_view (get_or r.events.items n d))) (sym (zero-add n))

-- the labels of the events of a recording
pub own_labels_named : (w : Filter) (r : Recording) (naming : ℕ → FileEvent → Name) → AreNamedBy r naming → own_labels w r.events.items ≡ labels_by w naming (map event_view r.events.items)
own_labels_named w r naming are =
    let names : map own_name r.events.items ≡ names_by naming (map event_view r.events.items) = own_alike (λ name e. name) naming 0 r.events.items (from_first r naming are) in
    ap (λ (all : List (List ℕ)). map (own_label w (widest all)) r.events.items) names
    ∙ own_alike (label_with w (widest (names_by naming (map event_view r.events.items)))) naming 0 r.events.items (from_first r naming are)

-- and the filter by which they were made
pub chosen_by : (style : Style) (w : Filter) (r : Recording) (naming : ℕ → FileEvent → Name) (events : Events) → AreNamedBy r naming → AreEvents (view r) (own_labels w r.events.items) events → events.filter ≡ w
    → events.style ≡ style → AreChosen (view r) (choice_by style w naming (view r).events) events
chosen_by style w r naming events named are same shown = record {
  labelled = subst (λ labels. AreEvents (view r) labels events) (own_labels_named w r naming named) are;
  filter = same;
  style = shown;
}

-- whether samples of one of them count
any_of : (labels : List Label) → list_any (λ (l : Label). l.counts) labels ≡ any_counts (map label_view labels)
any_of [] = refl
any_of (l ∷ labels) = ap (λ b. l.counts || b) (any_of labels)

pub any_is : (f : File) (c : Choice) (events : Events) → AreChosen f c events → list_any (λ (l : Label). l.counts) events.labels.items ≡ any_counts c.labels
any_is f c events chosen = any_of events.labels.items ∙ ap any_counts chosen.labelled.labels

-- ---- the label of an event with a number

abbrev pub label_record : (text : List ℕ) (period fields : ℕ) (counts : Bool) → EventLabel
label_record text period fields counts = record { text = text; period = period; fields = fields; counts = counts }

pub label_found : (list : List Label) (n : ℕ) (l : Label) (text : List ℕ) → n < length list → l ≡ get_or list n l → text ≡ l.text.items
    → label_record text l.period l.fields l.counts ≡ label_at (map label_view list) n
label_found list n l text lt is same =
    ap (λ t. label_record t l.period l.fields l.counts) same ∙ ap label_view is ∙ sym (get_or-map label_view list n l (label_record [] 0 0 true) lt)

pub label_absent : (list : List Label) (n : ℕ) → length list ≤ n → label_record [] 0 0 true ≡ label_at (map label_view list) n
label_absent list n over =
    let long : length (map label_view list) ≤ n = omega (arith, over, length-map list label_view) in
    sym (get_or-eq_default (map label_view list) (label_record [] 0 0 true) long)
