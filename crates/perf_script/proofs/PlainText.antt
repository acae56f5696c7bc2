-- Texts do not depend on where byte strings are.
use Rattle.std.proofs.Common.{◌≡◌, ℕ, List, [], ◌∷◌, ◌++◌, ◌==◌, ◌&&◌, ◌||◌, not, Bool, map, refl, sym, ◌∙◌, ap, codes, if◌then◌else◌}
use Rattle.std.specs.Prelude.{Option, Some, None, option_map}
use Rattle.perf_sections.specs.declared.ids.IdOfEvent.{IdOfEvent}
use Rattle.perf_sections.specs.IdTables.{event_of}
use Rattle.perf_history.specs.Histories.{name_of, place_of}
use Rattle.perf_history.specs.declared.changes.Change.{Change}
use Rattle.perf_history.specs.declared.changes.Mode.{Mode}
use Rattle.perf_history.specs.declared.changes.Mode.TheVariants.{Kernel, User, Other}
use Rattle.perf_history.specs.declared.names.Name.{Name}
use Rattle.perf_history.specs.declared.names.Name.TheVariants.{Given, Number, Swapper}
use Rattle.perf_history.specs.declared.places.File.{File}
use Rattle.perf_history.specs.declared.places.File.TheVariants.{Named, PerfMap, Symbol}
use Rattle.perf_history.specs.declared.places.Place.{Place}
use Rattle.perf_walk.specs.Plain.{plain, plain_name, plain_file, plain_place}
use Rattle.perf_walk.specs.declared.calls.Call.{Call}
use Rattle.perf_walk.proofs.PlainNames.{name_plain, place_plain}
use Rattle.perf_words.specs.Bits.{has_bit}
use Rattle.perf_columns.specs.Columns.{right, task_column, address_column}
use Rattle.perf_columns.specs.Threads.{thread_name, name_width}
use Rattle.perf_columns.specs.Files.{file_name, place_name, shown_address}
use Rattle.perf_script.specs.Chains.{call_line, call_lines}
use Rattle.perf_script.specs.Counters.{counters_text, counter_text, moved_text}
use Rattle.perf_script.specs.Labels.{EventLabel, label_at, with_period}
use Rattle.perf_script.specs.Moved.{moved}
use Rattle.perf_script.specs.Heads.{text_if, head_columns, cpu_column_if, time_column_if}
use Rattle.perf_script.specs.SampleText.{Shown, head_of, front_columns, code_columns_if, address_columns, chain_lines, event_columns, own_text, sample_text}
use Rattle.perf_script.specs.ScriptText.{plain_text, shown_text, period_of, has_counters}
use Rattle.perf_script.specs.declared.heads.Head.{Head}
use Rattle.perf_script.specs.declared.readings.Reading.{Reading}

-- ---- names

named : (n : Name) → thread_name (plain_name n) ≡ thread_name n
named (Given name) = refl
named (Number tid) = refl
named Swapper = refl

thread_same : (changes : List Change) (tid : ℕ) → thread_name (name_of (map plain changes) tid) ≡ thread_name (name_of changes tid)
thread_same changes tid = ap thread_name (sym (name_plain changes tid)) ∙ named (name_of changes tid)

-- ---- places

filed : (mode : Mode) (f : File) → file_name mode (plain_file f) ≡ file_name mode f
filed mode (Named path) = refl
filed mode (PerfMap pid) = refl
filed mode (Symbol name) = refl

placed : (mode : Mode) (p : Option Place) → place_name mode (option_map plain_place p) ≡ place_name mode p
placed mode (Some p) = filed mode p.file
placed mode None = refl

addressed : (mode : Mode) (address : ℕ) (p : Option Place) → shown_address mode address (option_map plain_place p) ≡ shown_address mode address p
addressed Kernel address p = refl
addressed User address (Some p) = refl
addressed User address None = refl
addressed Other address (Some p) = refl
addressed Other address None = refl

place_same : (changes : List Change) (pid : ℕ) (mode : Mode) (address : ℕ) → place_name mode (place_of (map plain changes) pid mode address) ≡ place_name mode (place_of changes pid mode address)
place_same changes pid mode address = ap (place_name mode) (sym (place_plain changes pid mode address)) ∙ placed mode (place_of changes pid mode address)

address_same : (changes : List Change) (pid : ℕ) (mode : Mode) (address : ℕ) → shown_address mode address (place_of (map plain changes) pid mode address) ≡ shown_address mode address (place_of changes pid mode address)
address_same changes pid mode address = ap (shown_address mode address) (sym (place_plain changes pid mode address)) ∙ addressed mode address (place_of changes pid mode address)

-- ---- chains

-- a line by what it shows
abbrev line_shown : (with_place : Bool) (address : ℕ) (name : List ℕ) → List ℕ
line_shown with_place address name =
    codes "\t" ++ (address_column address ++ ((if with_place then codes " (" ++ (name ++ codes ")") else []) ++ codes "\n"))

call_same : (with_place : Bool) (changes : List Change) (pid : ℕ) (call : Call) → call_line with_place (map plain changes) pid call ≡ call_line with_place changes pid call
call_same with_place changes pid call =
    ap (λ a. line_shown with_place a (place_name call.mode (place_of (map plain changes) pid call.mode call.address))) (address_same changes pid call.mode call.address)
    ∙ ap (line_shown with_place (shown_address call.mode call.address (place_of changes pid call.mode call.address))) (place_same changes pid call.mode call.address)

calls_same : (with_place : Bool) (changes : List Change) (pid : ℕ) (calls : List Call) → call_lines with_place (map plain changes) pid calls ≡ call_lines with_place changes pid calls
calls_same with_place changes pid [] = refl
calls_same with_place changes pid (call ∷ calls) =
    ap (λ line. line ++ call_lines with_place (map plain changes) pid calls) (call_same with_place changes pid call)
    ∙ ap (λ rest. call_line with_place changes pid call ++ rest) (calls_same with_place changes pid calls)

-- ---- samples

-- the columns at the front of a line by the name of the thread
abbrev head_with : Head → (name : List ℕ) → List ℕ
head_with h name =
    text_if (has_bit h.fields 1) (text_if h.chosen.comm (right (name_width h.chained) name ++ codes " ") ++ task_column h.chosen.pid h.chosen.tid h.pid h.tid)
    ++ (cpu_column_if h ++ time_column_if h)

pub head_same : (changes : List Change) (h : Head) → head_columns (map plain changes) h ≡ head_columns changes h
head_same changes h = ap (head_with h) (thread_same changes h.named)

ip_same : (changes : List Change) (s : Shown) → address_columns (map plain changes) s ≡ address_columns changes s
ip_same changes s =
    ap (λ name. codes " " ++ (address_column s.sample.ip ++ (if s.chosen.dso then codes " (" ++ (name ++ codes ")") else []))) (place_same changes s.sample.pid s.sample.mode s.sample.ip)

chain_same : (changes : List Change) (s : Shown) → chain_lines (map plain changes) s ≡ chain_lines changes s
chain_same changes s = ap (λ lines. codes "\n" ++ lines) (calls_same s.chosen.dso changes s.sample.pid s.calls)

code_same : (changes : List Change) (s : Shown) → code_columns_if (map plain changes) s ≡ code_columns_if changes s
code_same changes s =
    ap (λ lines. text_if (s.chosen.ip && has_bit s.fields 0) (if has_bit s.fields 5 then lines else address_columns (map plain changes) s)) (chain_same changes s)
    ∙ ap (λ columns. text_if (s.chosen.ip && has_bit s.fields 0) (if has_bit s.fields 5 then chain_lines changes s else columns)) (ip_same changes s)

own_same : (label : List ℕ) (period : ℕ) (changes : List Change) (s : Shown) → own_text label period (map plain changes) s ≡ own_text label period changes s
own_same label period changes s =
    ap (λ head. head ++ (event_columns s.chosen label period ++ (code_columns_if (map plain changes) s ++ codes "\n"))) (head_same changes (head_of s))
    ∙ ap (λ code. front_columns changes s ++ (event_columns s.chosen label period ++ (code ++ codes "\n"))) (code_same changes s)

sample_same : (l : EventLabel) (changes : List Change) (s : Shown) → sample_text l (map plain changes) s ≡ sample_text l changes s
sample_same l changes s = ap (λ t. if s.hidden || not l.counts then [] else t) (own_same l.text l.period changes s)

-- ---- counters

moved_same : (labels : List EventLabel) (changes : List Change) (s : Shown) (event : Option ℕ) (far : ℕ) → moved_text labels (map plain changes) s event far ≡ moved_text labels changes s event far
moved_same labels changes s (Some n) far = ap (text_if (not (far == 0))) (sample_same (with_period (label_at labels n) far) changes s)
moved_same labels changes s None far = refl

counters_same : (labels : List EventLabel) (ids : List IdOfEvent) (changes : List Change) (s : Shown) (older readings : List Reading)
    → counters_text labels ids (map plain changes) s older readings ≡ counters_text labels ids changes s older readings
counters_same labels ids changes s older [] = refl
counters_same labels ids changes s older (r ∷ rs) =
    ap (λ t. t ++ counters_text labels ids (map plain changes) s (r ∷ older) rs) (moved_same labels changes s (event_of ids r.id) (moved older r))
    ∙ ap (λ rest. counter_text labels ids changes s older r ++ rest) (counters_same labels ids changes s (r ∷ older) rs)

pub shown_same : (labels : List EventLabel) (ids : List IdOfEvent) (older readings : List Reading) (event : ℕ) (changes : List Change) (s : Shown)
    → shown_text labels ids older readings event (map plain changes) s ≡ shown_text labels ids older readings event changes s
shown_same labels ids older readings event changes s =
    ap (λ t. if has_counters s.fields then t else plain_text labels event (map plain changes) s) (counters_same labels ids changes s older readings)
    ∙ ap (λ t. if has_counters s.fields then counters_text labels ids changes s older readings else t) (sample_same (with_period (label_at labels event) (period_of (label_at labels event) s)) changes s)
