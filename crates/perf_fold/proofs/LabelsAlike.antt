-- The labels of events by a naming.
use Rattle.std.proofs.Common.{◌≡◌, ℕ, suc, ◌+◌, ◌<◌, ◌||◌, List, [], ◌∷◌, map, length, get_or, refl, sym, ap, ◌∙◌, add-zero, zero-add, arith}
use Rattle.std.specs.List.{list_any}
use Rattle.perf_sections.specs.Names.{Name, name_view, name_text}
use Rattle.perf_sections.specs.Opened.{FileEvent, event_view}
use Rattle.perf_sections.specs.declared.events.Event.{Event}
use Rattle.perf_walk.specs.declared.filtering.Filter.{Filter}
use Rattle.perf_fold.specs.EventLabels.{any_counts, label_with, labels_by, labels_view, own_labels}
use Rattle.perf_fold.specs.declared.labels.Label.{Label}

labels_alike : (w : Filter) (naming : ℕ → FileEvent → Name) (first : ℕ) (events : List Event) → ((n : ℕ) (d : Event) → n < length events → name_view (get_or events n d).name ≡ naming (first + n) (event_view (get_or events n d)))
    → own_labels w events ≡ labels_by w naming first (map event_view events)
labels_alike w naming first [] d = refl
labels_alike w naming first (e ∷ es) d =
    let there : name_text (name_view e.name) ≡ name_text (naming first (event_view e)) = ap name_text (d 0 e (omega arith) ∙ ap (λ n. naming n (event_view e)) (add-zero first)) in
    ap (λ name. label_with w name (event_view e) ∷ own_labels w es) there
    ∙ ap (λ rest. label_with w (name_text (naming first (event_view e))) (event_view e) ∷ rest)
    (labels_alike w naming (first + 1) es (λ n x lt.
    let moved : first + suc n ≡ first + 1 + n = omega arith in
    d (suc n) x (omega (arith, lt)) ∙ ap (λ k. naming k (event_view (get_or es n x))) moved))

-- the same from 0 on
pub labelled_by : (w : Filter) (naming : ℕ → FileEvent → Name) (events : List Event) → ((n : ℕ) (d : Event) → n < length events → name_view (get_or events n d).name ≡ naming n (event_view (get_or events n d)))
    → own_labels w events ≡ labels_by w naming 0 (map event_view events)
labelled_by w naming events named =
    labels_alike w naming 0 events (λ n d lt. named n d lt ∙ ap (λ k. naming k (event_view (get_or events n d))) (sym (zero-add n)))

-- whether samples of one of them count
pub any_of : (labels : List Label) → list_any (λ (l : Label). l.counts) labels ≡ any_counts (labels_view labels)
any_of [] = refl
any_of (l ∷ labels) = ap (λ b. l.counts || b) (any_of labels)
