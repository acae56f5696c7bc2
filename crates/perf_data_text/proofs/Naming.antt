-- Lines of events one after another.
use Rattle.std.proofs.Common.{◌≡◌, ℕ, suc, ◌+◌, ◌<◌, List, [], ◌∷◌, ◌++◌, map, length, take, get_or, refl, sym, ap, ◌∙◌, add-zero, zero-add, append-nil, append_assoc, arith}
use Rattle.std.proofs.lemmas.List.{take_more, length-take-le}
use Rattle.perf_sections.specs.Names.{Name, name_view, name_text}
use Rattle.perf_sections.specs.Opened.{FileEvent, event_view}
use Rattle.perf_sections.specs.declared.events.Event.{Event}
use Rattle.perf_data_text.specs.EventText.{event_line, event_lines}
use Rattle.perf_data_text.specs.OwnNames.{own_name, own_line, own_lines}

own_append : (first : ℕ) (xs ys : List Event) → own_lines first (xs ++ ys) ≡ own_lines first xs ++ own_lines (first + length xs) ys
own_append first [] ys = ap (λ n. own_lines n ys) (sym (add-zero first))
own_append first (x ∷ xs) ys =
    let here : List ℕ = own_line first x in
    let n : first + 1 + length xs ≡ first + length (x ∷ xs) = omega arith in
    ap (λ rest. here ++ rest) (own_append (first + 1) xs ys ∙ ap (λ n. own_lines (first + 1) xs ++ own_lines n ys) n)
    ∙ sym (append_assoc here (own_lines (first + 1) xs) (own_lines (first + length (x ∷ xs)) ys))

-- one more line
pub own_more : (events : List Event) (i : ℕ) (e : Event) → i < length events → e ≡ get_or events i e → own_lines 0 (take (i + 1) events) ≡ own_lines 0 (take i events) ++ own_line i e
own_more events i e below is =
    let n : length (take i events) ≡ i = length-take-le i events (omega arith) in
    ap (own_lines 0) (take_more events i e below)
    ∙ own_append 0 (take i events) (get_or events i e ∷ [])
    ∙ ap (λ rest. own_lines 0 (take i events) ++ rest)
    (ap (λ n. own_lines n (get_or events i e ∷ [])) (zero-add (length (take i events)))
    ∙ append-nil (own_line (length (take i events)) (get_or events i e))
    ∙ ap (λ k. own_line k (get_or events i e)) n
    ∙ ap (own_line i) (sym is))

-- the lines of events that have these names
pub named_alike : (naming : ℕ → FileEvent → Name) (first : ℕ) (events : List Event) → ((n : ℕ) (d : Event) → n < length events → name_view (get_or events n d).name ≡ naming (first + n) (event_view (get_or events n d)))
    → own_lines first events ≡ event_lines naming first (map event_view events)
named_alike naming first [] d = refl
named_alike naming first (e ∷ es) d =
    let there : own_name e ≡ name_text (naming first (event_view e)) = ap name_text (d 0 e (omega arith) ∙ ap (λ n. naming n (event_view e)) (add-zero first)) in
    ap (λ name. event_line first name (event_view e) ++ own_lines (first + 1) es) there
    ∙ ap (λ rest. event_line first (name_text (naming first (event_view e))) (event_view e) ++ rest)
    (named_alike naming (first + 1) es (λ n x lt.
    let moved : first + suc n ≡ first + 1 + n = omega arith in
    d (suc n) x (omega (arith, lt)) ∙ ap (λ k. naming k (event_view (get_or es n x))) moved))
