-- The text of the sample that was found in a frame.
use Rattle.std.proofs.Common.{◌≡◌, ℕ, suc, ◌+◌, ◌<◌, ◌||◌, not, Bool, true, false, List, ◌∷◌, ◌++◌, map, length, drop, get_or, drop-cons, refl, sym, ◌∙◌, ap, append_assoc, arith}
use Rattle.std.specs.Prelude.{Option, Some, None, option_map}
use Rattle.perf_base.specs.Dynamic.{order_of}
use Rattle.perf_sections.specs.IdTables.{event_of}
use Rattle.perf_sections.specs.Opened.{File, table_of}
use Rattle.perf_sections.specs.declared.ids.IdOfEvent.{IdOfEvent}
use Rattle.perf_flat.specs.Flat.{IsFlat}
use Rattle.perf_flat.specs.Samples.{sample_present}
use Rattle.perf_flat.specs.declared.frame.FlatFrame.{FlatFrame}
use Rattle.perf_history.specs.declared.changes.Change.{Change}
use Rattle.perf_sample_types.specs.Sample.{SampleValue}
use Rattle.perf_walk.specs.Filters.{takes_at}
use Rattle.perf_walk.specs.Moments.{Moment}
use Rattle.perf_walk.specs.Plain.{plain}
use Rattle.perf_walk.specs.Samples.{sample_view}
use Rattle.perf_walk.specs.declared.calls.Call.{Call}
use Rattle.perf_walk.specs.declared.sampling.Sample.{Sample}
use Rattle.perf_walk.specs.declared.filtering.Filter.{Filter}
use Rattle.perf_words.specs.Bits.{has_bit}
use Rattle.perf_script.specs.Counters.{readings_of, counters_text, counter_text, moved_text}
use Rattle.perf_script.specs.Ids.{finds}
use Rattle.perf_script.specs.Labels.{EventLabel, label_view}
use Rattle.perf_script.specs.Moved.{moved}
use Rattle.perf_script.specs.Heads.{text_if}
use Rattle.perf_script.specs.SampleText.{Shown}
use Rattle.perf_script.specs.ScriptText.{Choice, is_guest, is_hidden, misc_at, side_at, shown_text, read_by, read_at, text_at, sample_at, shown_at}
use Rattle.perf_script.specs.UnderWay.{AreEvents, HasParts, shown_by}
use Rattle.perf_script.specs.declared.fields.Fields.{Fields}
use Rattle.perf_script.specs.declared.readings.Reading.{Reading}
use Rattle.perf_script.specs.declared.script.Events.{Events}
use Rattle.perf_script.specs.declared.script.State.{State}
use Rattle.perf_walk.proofs.Fields.{fields_of}
use Rattle.perf_script.proofs.PlainText.{shown_same}

-- ---- lists

pub drop_next : {X : Type 0} (xs : List X) (i : ℕ) (d : X) → i < length xs → drop i xs ≡ get_or xs i d ∷ drop (i + 1) xs
drop_next xs i d lt = let next : suc i ≡ i + 1 = omega arith in drop-cons xs i d lt ∙ ap (λ n. get_or xs i d ∷ drop n xs) next

-- ---- one counter after another

-- the text of a counter, by what was found
pub counter_same : (f : File) (all : List EventLabel) (events : Events) (changes : List Change) (s : Shown) (now : List Reading) (r : Reading) (far : ℕ) → AreEvents f all events → far ≡ moved now r
    → moved_text (map label_view events.labels.items) changes s (finds events.ids r.id) far ≡ counter_text all (table_of f.events) changes s now r
counter_same f all events changes s now r far h is =
    ap (λ ls. moved_text ls changes s (finds events.ids r.id) far) h.labels
    ∙ ap (λ e. moved_text all changes s e far) (h.ids r.id)
    ∙ ap (moved_text all changes s (event_of (table_of f.events) r.id)) is

pub counters_more : (labels : List EventLabel) (ids : List IdOfEvent) (changes : List Change) (s : Shown) (now left rest : List Reading) (r : Reading) (text grown whole : List ℕ) → left ≡ r ∷ rest
    → text ++ counters_text labels ids changes s now left ≡ whole → grown ≡ text ++ counter_text labels ids changes s now r
    → grown ++ counters_text labels ids changes s (r ∷ now) rest ≡ whole
counters_more labels ids changes s now left rest r text grown whole is all more =
    let after : List ℕ = counters_text labels ids changes s (r ∷ now) rest in
    ap (λ t. t ++ after) more ∙ append_assoc text (counter_text labels ids changes s now r) after
    ∙ ap (λ rs. text ++ counters_text labels ids changes s now rs) (sym is) ∙ all

-- ---- a sample or none

none_of : (misc : ℕ) (o : Option SampleValue) → None ≡ option_map (sample_view misc) o → o ≡ None
none_of misc (Some s) e = absurd (cc)
none_of misc None e = refl

pub some_of : (misc : ℕ) (o : Option SampleValue) (x : Sample) → Some x ≡ option_map (sample_view misc) o → (s : SampleValue) × (o ≡ Some s) × (x ≡ sample_view misc s)
some_of misc (Some s) x e = (s, refl, cc)
some_of misc None x e = absurd (cc)

abbrev text_if_some : File → Choice → (older : List Reading) → Moment → Option SampleValue → List ℕ
text_if_some f c older m o = elim o [
  | Some s ↦ shown_text c.labels (table_of f.events) older (readings_of m.config.read_format s) m.event m.known (shown_at f c.style.fields m (is_hidden f c.filter m s) s)
  | None ↦ text_if c.style.side_band (side_at f c m)
]

abbrev read_if_some : File → (older : List Reading) → Moment → Option SampleValue → List Reading
read_if_some f older m o = elim o [ Some s ↦ read_by older (readings_of m.config.read_format s) (sample_present m.config) | None ↦ older ]

pub none_read : (f : File) (older : List Reading) (m : Moment) (misc : ℕ) → None ≡ option_map (sample_view misc) (sample_at f m) → read_at f older m ≡ older
none_read f older m misc e = ap (read_if_some f older m) (none_of misc (sample_at f m) e)

pub none_text : (f : File) (c : Choice) (older : List Reading) (m : Moment) (misc : ℕ) → None ≡ option_map (sample_view misc) (sample_at f m) → text_at f c older m ≡ text_if c.style.side_band (side_at f c m)
none_text f c older m misc e = ap (text_if_some f c older m) (none_of misc (sample_at f m) e)

-- ---- the readings count only if there are counters

read_parts : (older first second : List Reading) (fields : ℕ) → (has_bit fields 4 ≡ true → first ≡ second) → read_by older first fields ≡ read_by older second fields
read_parts older first second fields same = go (has_bit fields 4) refl where
  go : (b : Bool) → has_bit fields 4 ≡ b → read_by older first fields ≡ read_by older second fields
  go true holds = ap (λ rs. read_by older rs fields) (same holds)
  go false fails = rw fails refl

text_parts : (labels : List EventLabel) (ids : List IdOfEvent) (older first second : List Reading) (event : ℕ) (known : List Change) (s : Shown) → (has_bit s.fields 4 ≡ true → first ≡ second)
    → shown_text labels ids older first event known s ≡ shown_text labels ids older second event known s
text_parts labels ids older first second event known s same = go (has_bit s.fields 4) refl where
  go : (b : Bool) → has_bit s.fields 4 ≡ b → shown_text labels ids older first event known s ≡ shown_text labels ids older second event known s
  go true holds = ap (λ rs. shown_text labels ids older rs event known s) (same holds)
  go false fails = rw fails refl

-- ---- what is shown

abbrev shown_with : Fields → (fields : ℕ) → (hidden : Bool) → Sample → List Call → Shown
shown_with chosen fields hidden sample calls = record { chosen = chosen; fields = fields; hidden = hidden; sample = sample; calls = calls }

-- what was found of a sample in a frame
pub record IsFound (f : File) (m : Moment) (flat : FlatFrame) (state : State) (x : Sample) : Type 0 where
  pub sample : SampleValue
  pub states : IsFlat m.config (order_of f.order) m.frame flat
  pub is : sample_at f m ≡ Some sample
  pub view : x ≡ sample_view flat.misc sample
  pub parts : HasParts m.config.read_format sample flat.present state

shown_is : (f : File) (chosen : Fields) (m : Moment) (flat : FlatFrame) (state : State) (x : Sample) (hidden : Bool) → (h : IsFound f m flat state x)
    → shown_by state chosen flat.present hidden x ≡ shown_at f chosen m hidden h.sample
shown_is f chosen m flat state x hidden h =
    let misc : flat.misc ≡ misc_at f m = h.states.header.misc in
    ap (λ n. shown_with chosen n hidden x state.calls.items) (fields_of m.config (order_of f.order) m.frame h.sample flat h.states h.is)
    ∙ ap (λ y. shown_with chosen (sample_present m.config) hidden y state.calls.items) h.view
    ∙ ap (λ n. shown_with chosen (sample_present m.config) hidden (sample_view n h.sample) state.calls.items) misc
    ∙ ap (λ cs. shown_with chosen (sample_present m.config) hidden (sample_view (misc_at f m) h.sample) cs) h.parts.calls

pub found_read : (f : File) (older : List Reading) (m : Moment) (flat : FlatFrame) (state : State) (x : Sample) → IsFound f m flat state x
    → read_by older state.readings.items flat.present ≡ read_at f older m
found_read f older m flat state x h =
    read_parts older state.readings.items (readings_of m.config.read_format h.sample) flat.present h.parts.readings
    ∙ ap (read_by older (readings_of m.config.read_format h.sample)) (fields_of m.config (order_of f.order) m.frame h.sample flat h.states h.is)
    ∙ ap (read_if_some f older m) (sym h.is)

pub found_text : (f : File) (c : Choice) (older : List Reading) (m : Moment) (flat : FlatFrame) (state : State) (x : Sample) (hidden : Bool) (event : ℕ) (changes : List Change) → (h : IsFound f m flat state x)
    → hidden ≡ is_hidden f c.filter m h.sample → event ≡ m.event → map plain changes ≡ m.known
    → shown_text c.labels (table_of f.events) older state.readings.items event changes (shown_by state c.style.fields flat.present hidden x) ≡ text_at f c older m
found_text f c older m flat state x hidden event changes h hides at known =
    let chosen : Fields = c.style.fields in
    let labels : List EventLabel = c.labels in
    let ids : List IdOfEvent = table_of f.events in
    let shown : Shown = shown_by state chosen flat.present hidden x in
    let readings : List Reading = readings_of m.config.read_format h.sample in
    text_parts labels ids older state.readings.items readings event changes shown h.parts.readings
    ∙ ap (shown_text labels ids older readings event changes) (shown_is f chosen m flat state x hidden h ∙ ap (λ b. shown_at f chosen m b h.sample) hides)
    ∙ sym (shown_same labels ids older readings event changes (shown_at f chosen m (is_hidden f c.filter m h.sample) h.sample))
    ∙ ap (λ cs. shown_text labels ids older readings event cs (shown_at f chosen m (is_hidden f c.filter m h.sample) h.sample)) known
    ∙ ap (λ n. shown_text labels ids older readings n m.known (shown_at f chosen m (is_hidden f c.filter m h.sample) h.sample)) at
    ∙ ap (text_if_some f c older m) (sym h.is)

-- whether it is hidden
pub hidden_is : (f : File) (w : Filter) (m : Moment) (flat : FlatFrame) (s : SampleValue) (guest taken : Bool) → IsFlat m.config (order_of f.order) m.frame flat → guest ≡ is_guest flat.misc → taken ≡ takes_at w m flat.misc s
    → (guest || not taken) ≡ is_hidden f w m s
hidden_is f w m flat s guest taken states from takes =
    let misc : flat.misc ≡ misc_at f m = states.header.misc in
    ap (λ b. b || not taken) (from ∙ ap is_guest misc) ∙ ap (λ b. is_guest (misc_at f m) || not b) (takes ∙ ap (λ n. takes_at w m n s) misc)
