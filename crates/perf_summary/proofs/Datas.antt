-- The JSON of counts, one after another.
use Rattle.std.proofs.Common.{◌≡◌, ℕ, zero, suc, ◌+◌, ◌<◌, List, [], ◌∷◌, ◌++◌, map, length, take, get_or, refl, sym, ap, ◌∙◌, add-zero, zero-add, arith}
use Rattle.std.specs.Prelude.{count_by}
use Rattle.std.proofs.lemmas.List.{take_more, length-take-le}
use Rattle.serde_json.specs.Data.{Data}
use Rattle.perf_file.specs.FeatureTexts.{text_of, command_line_of}
use Rattle.perf_sections.specs.Names.{Name, name_view, name_text}
use Rattle.perf_sections.specs.Opened.{File, FileEvent, event_view}
use Rattle.perf_sections.specs.declared.events.Event.{Event}
use Rattle.perf_summary.specs.Counts.{AreCounts, is_refused, event_count, of_event, type_count, other_count}
use Rattle.perf_summary.specs.OwnData.{own_events_data, own_types_data, own_data}
use Rattle.perf_summary.specs.CountSteps.{no_count}
use Rattle.perf_summary.specs.SummaryJson.{event_data, events_data, type_data, types_data, other_data, parts_data, feature_data, words_data, printed_data, summary_data}
use Rattle.perf_summary.specs.ThreadText.{threads_data}
use Rattle.perf_summary.specs.Threads.{plain_threads}
use Rattle.perf_summary.specs.declared.threads.Thread.{Thread}
use Rattle.perf_summary.proofs.PlainThreads.{datas_plain}
use Rattle.perf_summary.specs.declared.contents.Contents.{Contents}
use Rattle.perf_summary.specs.declared.counts.Counts.{Counts}
use Rattle.perf_summary.specs.declared.counts.EventCount.{EventCount}

-- ---- events

data_append : (counts : List EventCount) (first : ℕ) (xs ys : List Event) → own_events_data counts first (xs ++ ys) ≡ own_events_data counts first xs ++ own_events_data counts (first + length xs) ys
data_append counts first [] ys = ap (λ n. own_events_data counts n ys) (sym (add-zero first))
data_append counts first (x ∷ xs) ys =
    let here : Data = event_data (get_or counts first no_count) (name_text (name_view x.name)) in
    let n : first + 1 + length xs ≡ first + length (x ∷ xs) = omega arith in
    ap (λ rest. here ∷ rest) (data_append counts (first + 1) xs ys ∙ ap (λ n. own_events_data counts (first + 1) xs ++ own_events_data counts n ys) n)

-- one more event
pub data_more : (counts : List EventCount) (events : List Event) (i : ℕ) (e : Event) → i < length events → e ≡ get_or events i e →
    own_events_data counts 0 (take (i + 1) events) ≡ own_events_data counts 0 (take i events) ++ event_data (get_or counts i no_count) (name_text (name_view e.name)) ∷ []
data_more counts events i e below is =
    let n : length (take i events) ≡ i = length-take-le i events (omega arith) in
    ap (own_events_data counts 0) (take_more events i e below)
    ∙ data_append counts 0 (take i events) (get_or events i e ∷ [])
    ∙ ap (λ rest. own_events_data counts 0 (take i events) ++ rest)
    (ap (λ n. own_events_data counts n (get_or events i e ∷ [])) (zero-add (length (take i events)) ∙ n)
    ∙ ap (λ (k : Event). event_data (get_or counts i no_count) (name_text (name_view k.name)) ∷ []) (sym is))

-- the events that have these names and these counts
data_alike : (naming : ℕ → FileEvent → Name) (cs : ℕ → EventCount) (counts : List EventCount) (first : ℕ) (events : List Event) →
    ((n : ℕ) (d : Event) → n < length events → name_view (get_or events n d).name ≡ naming (first + n) (event_view (get_or events n d))) →
    ((n : ℕ) → n < length events → get_or counts (first + n) no_count ≡ cs (first + n)) →
    own_events_data counts first events ≡ events_data naming cs first (map event_view events)
data_alike naming cs counts first [] named counted = refl
data_alike naming cs counts first (e ∷ es) named counted =
    let name : name_text (name_view e.name) ≡ name_text (naming first (event_view e)) = ap name_text (named 0 e (omega arith) ∙ ap (λ n. naming n (event_view e)) (add-zero first)) in
    let count : get_or counts first no_count ≡ cs first = ap (λ n. get_or counts n no_count) (sym (add-zero first)) ∙ counted 0 (omega arith) ∙ ap cs (add-zero first) in
    ap (λ k. event_data (get_or counts first no_count) k ∷ own_events_data counts (first + 1) es) name
    ∙ ap (λ k. event_data k (name_text (naming first (event_view e))) ∷ own_events_data counts (first + 1) es) count
    ∙ ap (λ rest. event_data (cs first) (name_text (naming first (event_view e))) ∷ rest)
    (data_alike naming cs counts (first + 1) es
    (λ n x lt.
    let moved : first + suc n ≡ first + 1 + n = omega arith in
    named (suc n) x (omega (arith, lt)) ∙ ap (λ k. naming k (event_view (get_or es n x))) moved)
    (λ n lt.
    let moved : first + 1 + n ≡ first + suc n = omega arith in
    ap (λ k. get_or counts k no_count) moved ∙ counted (suc n) (omega (arith, lt)) ∙ ap cs (sym moved)))

-- ---- types

-- one more type
pub types_data_more : (counts : List ℕ) (i : ℕ) → own_types_data counts (i + 1) ≡ own_types_data counts i ++ type_data i (get_or counts i 0)
types_data_more counts i =
    let next : i + 1 ≡ suc i = omega arith in
    ap (own_types_data counts) next

types_data_alike : (f g : ℕ → ℕ) (n : ℕ) → ((ty : ℕ) → ty < n → f ty ≡ g ty) → types_data f n ≡ types_data g n
types_data_alike f g zero same = refl
types_data_alike f g (suc n) same =
    ap (λ rest. rest ++ type_data n (f n)) (types_data_alike f g n (λ ty lt. same ty (omega (arith, lt))))
    ∙ ap (λ k. types_data g n ++ type_data n k) (same n (omega arith))

-- ---- all

pub summary_alike : (naming : ℕ → FileEvent → Name) (f : File) (bytes : List ℕ) (events : List Event) (xs : List Contents) (c : Counts) (threads : List ((ℕ × ℕ) × Thread)) → AreCounts (length events) xs c →
    f.events ≡ map event_view events → ((n : ℕ) (d : Event) → n < length events → name_view (get_or events n d).name ≡ naming n (event_view (get_or events n d))) →
    own_data f.order bytes events c threads ≡ summary_data f bytes naming xs (plain_threads threads)
summary_alike naming f bytes events xs c threads are seen named =
    let cs : ℕ → EventCount = λ n. event_count (of_event n xs) in
    let ts : ℕ → ℕ = λ ty. type_count ty xs in
    let counts : own_events_data c.events.items 0 events ≡ events_data naming cs 0 f.events =
    data_alike naming cs c.events.items 0 events
    (λ n d lt. named n d lt ∙ ap (λ k. naming k (event_view (get_or events n d))) (sym (zero-add n)))
    (λ n lt. ap (λ k. get_or c.events.items k no_count) (zero-add n) ∙ are.events n no_count lt ∙ ap cs (sym (zero-add n)))
    ∙ ap (events_data naming cs 0) (sym seen) in
    let types : own_types_data c.types.items (length c.types.items) ≡ types_data ts 128 =
    ap (own_types_data c.types.items) are.type_number ∙ types_data_alike (λ ty. get_or c.types.items ty 0) ts 128 (λ ty lt. are.types ty 0 lt) in
    let frames : c.frames ≡ length xs = are.frames in
    let refused : c.refused ≡ count_by is_refused xs = are.refused in
    let others : c.other_types ≡ other_count xs = are.other_types in
    let line : Data = feature_data words_data (command_line_of f.order bytes) in
    let host : Data = feature_data printed_data (text_of f.order bytes 3) in
    let release : Data = feature_data printed_data (text_of f.order bytes 4) in
    ap (λ es. parts_data line es c.frames host release c.refused (threads_data threads) (own_types_data c.types.items (length c.types.items) ++ other_data c.other_types)) counts
    ∙ ap (λ n. parts_data line (events_data naming cs 0 f.events) n host release c.refused (threads_data threads) (own_types_data c.types.items (length c.types.items) ++ other_data c.other_types)) frames
    ∙ ap (λ n. parts_data line (events_data naming cs 0 f.events) (length xs) host release n (threads_data threads) (own_types_data c.types.items (length c.types.items) ++ other_data c.other_types)) refused
    ∙ ap (λ ty. parts_data line (events_data naming cs 0 f.events) (length xs) host release (count_by is_refused xs) (threads_data threads) (ty ++ other_data c.other_types)) types
    ∙ ap (λ n. parts_data line (events_data naming cs 0 f.events) (length xs) host release (count_by is_refused xs) (threads_data threads) (types_data ts 128 ++ other_data n)) others
    ∙ ap (λ tasks. parts_data line (events_data naming cs 0 f.events) (length xs) host release (count_by is_refused xs) tasks (types_data ts 128 ++ other_data (other_count xs))) (datas_plain threads)
