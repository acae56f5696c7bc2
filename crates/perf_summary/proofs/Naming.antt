-- Lines of counts one after another.
use Rattle.std.proofs.Common.{◌≡◌, ℕ, zero, suc, ◌+◌, ◌<◌, List, [], ◌∷◌, ◌++◌, map, length, take, get_or, refl, sym, ap, ◌∙◌, add-zero, zero-add, append-nil, append_assoc, arith}
use Rattle.std.specs.Prelude.{count_by}
use Rattle.std.proofs.lemmas.List.{take_more, length-take-le}
use Rattle.perf_sections.specs.Names.{Name, name_view, name_text}
use Rattle.perf_sections.specs.Opened.{FileEvent, event_view}
use Rattle.perf_sections.specs.declared.events.Event.{Event}
use Rattle.perf_summary.specs.Counts.{AreCounts, is_refused, event_count, of_event, type_count}
use Rattle.perf_summary.specs.OwnLines.{own_event_lines, own_type_lines, own_text}
use Rattle.perf_summary.specs.CountSteps.{no_count}
use Rattle.perf_summary.specs.SummaryText.{frames_line, event_line, event_lines, type_line, type_lines, other_line, counts_text}
use Rattle.perf_summary.specs.declared.contents.Contents.{Contents}
use Rattle.perf_summary.specs.declared.counts.Counts.{Counts}
use Rattle.perf_summary.specs.declared.counts.EventCount.{EventCount}

-- ---- events

own_append : (counts : List EventCount) (first : ℕ) (xs ys : List Event) → own_event_lines counts first (xs ++ ys) ≡ own_event_lines counts first xs ++ own_event_lines counts (first + length xs) ys
own_append counts first [] ys = ap (λ n. own_event_lines counts n ys) (sym (add-zero first))
own_append counts first (x ∷ xs) ys =
    let here : List ℕ = event_line first (get_or counts first no_count) (name_text (name_view x.name)) in
    let n : first + 1 + length xs ≡ first + length (x ∷ xs) = omega arith in
    ap (λ rest. here ++ rest) (own_append counts (first + 1) xs ys ∙ ap (λ n. own_event_lines counts (first + 1) xs ++ own_event_lines counts n ys) n)
    ∙ sym (append_assoc here (own_event_lines counts (first + 1) xs) (own_event_lines counts (first + length (x ∷ xs)) ys))

-- one more line
pub own_more : (counts : List EventCount) (events : List Event) (i : ℕ) (e : Event) → i < length events → e ≡ get_or events i e →
    own_event_lines counts 0 (take (i + 1) events) ≡ own_event_lines counts 0 (take i events) ++ event_line i (get_or counts i no_count) (name_text (name_view e.name))
own_more counts events i e below is =
    let n : length (take i events) ≡ i = length-take-le i events (omega arith) in
    ap (own_event_lines counts 0) (take_more events i e below)
    ∙ own_append counts 0 (take i events) (get_or events i e ∷ [])
    ∙ ap (λ rest. own_event_lines counts 0 (take i events) ++ rest)
    (ap (λ n. own_event_lines counts n (get_or events i e ∷ [])) (zero-add (length (take i events)) ∙ n)
    ∙ append-nil (event_line i (get_or counts i no_count) (name_text (name_view (get_or events i e).name)))
    ∙ ap (λ (k : Event). event_line i (get_or counts i no_count) (name_text (name_view k.name))) (sym is))

-- the lines of events that have these names and these counts
named_alike : (naming : ℕ → FileEvent → Name) (cs : ℕ → EventCount) (counts : List EventCount) (first : ℕ) (events : List Event) →
    ((n : ℕ) (d : Event) → n < length events → name_view (get_or events n d).name ≡ naming (first + n) (event_view (get_or events n d))) →
    ((n : ℕ) → n < length events → get_or counts (first + n) no_count ≡ cs (first + n)) →
    own_event_lines counts first events ≡ event_lines naming cs first (map event_view events)
named_alike naming cs counts first [] named counted = refl
named_alike naming cs counts first (e ∷ es) named counted =
    let name : name_text (name_view e.name) ≡ name_text (naming first (event_view e)) = ap name_text (named 0 e (omega arith) ∙ ap (λ n. naming n (event_view e)) (add-zero first)) in
    let count : get_or counts first no_count ≡ cs first = ap (λ n. get_or counts n no_count) (sym (add-zero first)) ∙ counted 0 (omega arith) ∙ ap cs (add-zero first) in
    ap (λ k. event_line first (get_or counts first no_count) k ++ own_event_lines counts (first + 1) es) name
    ∙ ap (λ k. event_line first k (name_text (naming first (event_view e))) ++ own_event_lines counts (first + 1) es) count
    ∙ ap (λ rest. event_line first (cs first) (name_text (naming first (event_view e))) ++ rest)
    (named_alike naming cs counts (first + 1) es
    (λ n x lt.
    let moved : first + suc n ≡ first + 1 + n = omega arith in
    named (suc n) x (omega (arith, lt)) ∙ ap (λ k. naming k (event_view (get_or es n x))) moved)
    (λ n lt.
    let moved : first + 1 + n ≡ first + suc n = omega arith in
    ap (λ k. get_or counts k no_count) moved ∙ counted (suc n) (omega (arith, lt)) ∙ ap cs (sym moved)))

-- ---- types

-- one more line
pub types_more : (counts : List ℕ) (i : ℕ) → own_type_lines counts (i + 1) ≡ own_type_lines counts i ++ type_line i (get_or counts i 0)
types_more counts i =
    let next : i + 1 ≡ suc i = omega arith in
    ap (own_type_lines counts) next

types_alike : (f g : ℕ → ℕ) (n : ℕ) → ((ty : ℕ) → ty < n → f ty ≡ g ty) → type_lines f n ≡ type_lines g n
types_alike f g zero same = refl
types_alike f g (suc n) same =
    ap (λ rest. rest ++ type_line n (f n)) (types_alike f g n (λ ty lt. same ty (omega (arith, lt))))
    ∙ ap (λ k. type_lines g n ++ type_line n k) (same n (omega arith))

-- ---- all

-- four texts, appended one after another
pub four_more : (old a b d e s t u v : List ℕ) → s ≡ old ++ a → t ≡ s ++ b → u ≡ t ++ d → v ≡ u ++ e → v ≡ old ++ (((a ++ b) ++ d) ++ e)
four_more old a b d e s t u v first second third fourth =
    let two : t ≡ old ++ (a ++ b) = second ∙ ap (λ x. x ++ b) first ∙ append_assoc old a b in
    let three : u ≡ old ++ ((a ++ b) ++ d) = third ∙ ap (λ x. x ++ d) two ∙ append_assoc old (a ++ b) d in
    fourth ∙ ap (λ x. x ++ e) three ∙ append_assoc old ((a ++ b) ++ d) e

pub text_alike : (naming : ℕ → FileEvent → Name) (events : List Event) (xs : List Contents) (c : Counts) → AreCounts (length events) xs c →
    ((n : ℕ) (d : Event) → n < length events → name_view (get_or events n d).name ≡ naming n (event_view (get_or events n d))) →
    own_text events c ≡ counts_text naming (map event_view events) xs
text_alike naming events xs c are named =
    let cs : ℕ → EventCount = λ n. event_count (of_event n xs) in
    let ts : ℕ → ℕ = λ ty. type_count ty xs in
    let refused : ℕ = count_by is_refused xs in
    let lines : List ℕ = event_lines naming cs 0 (map event_view events) in
    let frames : frames_line c.frames c.refused ≡ frames_line (length xs) c.refused = ap (λ n. frames_line n c.refused) are.frames in
    let types : own_type_lines c.types.items (length c.types.items) ≡ type_lines ts 128 =
    ap (own_type_lines c.types.items) are.type_number ∙ types_alike (λ ty. get_or c.types.items ty 0) ts 128 (λ ty lt. are.types ty 0 lt) in
    ap (λ a. a ++ own_event_lines c.events.items 0 events ++ own_type_lines c.types.items (length c.types.items) ++ other_line c.other_types)
    (frames ∙ ap (frames_line (length xs)) are.refused)
    ∙ ap (λ a. frames_line (length xs) refused ++ a ++ own_type_lines c.types.items (length c.types.items) ++ other_line c.other_types)
    (named_alike naming cs c.events.items 0 events
    (λ n d lt. named n d lt ∙ ap (λ k. naming k (event_view (get_or events n d))) (sym (zero-add n)))
    (λ n lt. ap (λ k. get_or c.events.items k no_count) (zero-add n) ∙ are.events n no_count lt ∙ ap cs (sym (zero-add n))))
    ∙ ap (λ a. frames_line (length xs) refused ++ lines ++ a ++ other_line c.other_types) types
    ∙ ap (λ a. frames_line (length xs) refused ++ lines ++ type_lines ts 128 ++ other_line a) are.other_types
