-- The frames of entries, each read under its own event.
use Rattle.std.proofs.Common.{◌≡◌, ℕ, zero, suc, ◌+◌, ◌≤◌, ◌<◌, List, [], ◌∷◌, length, drop, get_or, set, inl, inr, Option, Some, None, Bool, true, false, nat_eq, refl, sym, ap, subst, ◌∙◌, arith}
use Rattle.std.specs.Prelude.{option_map, if◌then◌else◌}
use Rattle.std.proofs.lemmas.Bool.{eq-eqb, cases_lt}
use Rattle.std.proofs.lemmas.List.{get_or_default, get_or-set_same, get_or-set_other, drop-set-lt}
use Rattle.perf_base.specs.Configuration.{Configuration, configured_by}
use Rattle.perf_base.specs.Configured.{configuration_of, endian_of}
use Rattle.perf_base.specs.Dynamic.{order_of}
use Rattle.perf_base.specs.declared.config.ParseConfig.{ParseConfig}
use Rattle.perf_base.specs.declared.endian.Dynamic.{Dynamic}
use Rattle.perf_base.specs.declared.endian.Dynamic.TheVariants.{Big, Little}
use Rattle.perf_file.specs.Entries as file_entries
use Rattle.perf_sections.specs.Opened.{File, FileEvent}
use Rattle.perf_flat.specs.Flat.{IsFlat, first_frame}
use Rattle.perf_flat.specs.FlatConfigs.{Means, flat_config_of, attribute_with, is_valid, order_by}
use Rattle.perf_flat.specs.declared.config.FlatConfig.{FlatConfig}
use Rattle.perf_flat.specs.declared.frame.FlatFrame.{FlatFrame}
use Rattle.perf_outlines.specs.Entries.{event_at, left_from}
use Rattle.perf_outlines.specs.EntryReads as reads
use Rattle.perf_outlines.specs.declared.file_entries.FlatEntry.{FlatEntry}
use Rattle.perf_outlines.specs.declared.file_events.FlatEvent.{FlatEvent}
use Rattle.perf_outlines.proofs.FileLaws.{drop_some}
use Rattle.perf_outlines.proofs.NextLaws.{States, config_is, no_event, no_flat, order_back}

-- an entry that states its event
pub owned : (all : List FlatEvent) (e : FlatEntry) (x : Option FlatEvent) → e.owner ≡ 0 → event_at all e.number ≡ x → reads.event_of all e ≡ x
owned all e x is there = let z : nat_eq e.owner 0 ≡ true = eq-eqb e.owner 0 is in rw z there

-- the configuration of the event of the file
abbrev configured : List FileEvent → ℕ → Option Configuration
configured es n = option_map (λ (e : FileEvent). configured_by e.attribute) (file_entries.event_at es n)

at_some : (o : Dynamic) (bytes : List ℕ) (all : List FlatEvent) (es : List FileEvent) (n : ℕ) (x : FlatEvent) → States o bytes all es → event_at all n ≡ Some x
    → (a : FileEvent) × (x.config ≡ flat_config_of a.attribute o) × (configured es n ≡ Some (configured_by a.attribute))
at_some o bytes [] es n x is there = absurd (cc)
at_some o bytes (e ∷ all) [] n x is there = absurd (no_flat o bytes e all is)
at_some o bytes (e ∷ all) (y ∷ es) zero x is there = let same : e ≡ x = cc in (y, ap (λ (z : FlatEvent). z.config) (sym same) ∙ (config_is o bytes e y all es is).0, refl)
at_some o bytes (e ∷ all) (y ∷ es) (suc n) x is there = at_some o bytes all es n x (config_is o bytes e y all es is).1 there

at_none : (o : Dynamic) (bytes : List ℕ) (all : List FlatEvent) (es : List FileEvent) (n : ℕ) → States o bytes all es → event_at all n ≡ None → configured es n ≡ None
at_none o bytes [] [] n is there = refl
at_none o bytes [] (y ∷ es) n is there = absurd (no_event o bytes y es is)
at_none o bytes (e ∷ all) [] n is there = refl
at_none o bytes (e ∷ all) (y ∷ es) zero is there = absurd (cc)
at_none o bytes (e ∷ all) (y ∷ es) (suc n) is there = at_none o bytes all es n (config_is o bytes e y all es is).1 there

pub has_event : (f : File) (bytes : List ℕ) (all : List FlatEvent) (e : FlatEntry) (x : FlatEvent) → States f.order bytes all f.events → reads.event_of all e ≡ Some x
    → (a : FileEvent) × (x.config ≡ flat_config_of a.attribute f.order) × (reads.entry_config f e ≡ Some (configured_by a.attribute))
has_event f bytes all e x is there = go (nat_eq e.owner 0) there
  where
    go : (b : Bool) → ◌≡◌ {A = Option FlatEvent} (if b then event_at all e.number else None) (Some x) → (a : FileEvent) × (x.config ≡ flat_config_of a.attribute f.order) × (◌≡◌ {A = Option Configuration} (if b then configured f.events e.number else None) (Some (configured_by a.attribute)))
    go true h = at_some f.order bytes all f.events e.number x is h
    go false h = absurd (cc)

pub no_event_of : (f : File) (bytes : List ℕ) (all : List FlatEvent) (e : FlatEntry) → States f.order bytes all f.events → reads.event_of all e ≡ None → reads.entry_config f e ≡ None
no_event_of f bytes all e is there = go (nat_eq e.owner 0) there
  where
    go : (b : Bool) → ◌≡◌ {A = Option FlatEvent} (if b then event_at all e.number else None) None → ◌≡◌ {A = Option Configuration} (if b then configured f.events e.number else None) None
    go true h = at_none f.order bytes all f.events e.number is h
    go false h = refl

pub foreign_entry : (f : File) (e : FlatEntry) (old new : FlatFrame) → reads.entry_config f e ≡ None → new ≡ reads.refused old → reads.ReadsEntry f e old new
foreign_entry f e old new is made = record {
  read = λ c some le. absurd (let none : ◌≡◌ {A = Option Configuration} (Some c) None = sym some ∙ is in cc);
  foreign = λ h. made;
  outside = λ h. made;
}

valid : (d : Dynamic) (a : FileEvent) → is_valid (flat_config_of a.attribute d) ≡ true
valid d a = go d
  where
    go : (d : Dynamic) → is_valid (flat_config_of a.attribute d) ≡ true
    go Little = refl
    go Big = refl

-- the configuration of such an event is of this version
pub not_other : (o : Dynamic) (c : FlatConfig) (a : FileEvent) → c ≡ flat_config_of a.attribute o → is_valid c ≡ false → ⊥
not_other o c a is other = let yes : is_valid c ≡ true = ap is_valid is ∙ valid o a in absurd (cc)

pub entry_read : (f : File) (e : FlatEntry) (x : FlatEvent) (a : FileEvent) (config : ParseConfig Dynamic) (left : List ℕ) (old new : FlatFrame) → left ≡ left_from f e.at → Means x.config config → x.config ≡ flat_config_of a.attribute f.order
    → reads.entry_config f e ≡ Some (configured_by a.attribute) → reads.ReadsLeft config left old new → reads.ReadsEntry f e old new
entry_read f e x a config left old new left_is means is known done =
    let fields : configuration_of config ≡ configured_by a.attribute = means.fields ∙ ap (λ (c : FlatConfig). configured_by (attribute_with c)) is in
    let order : endian_of config ≡ f.order = means.order ∙ ap (λ (c : FlatConfig). order_by c.order) is ∙ order_back f.order in
    record {
      read = λ c some le.
          let both : ◌≡◌ {A = Option Configuration} (Some (configured_by a.attribute)) (Some c) = sym known ∙ some in
          let same : configured_by a.attribute ≡ c = cc in
          let fits : 8 ≤ length left = subst (λ xs. 8 ≤ length xs) (sym left_is) le in
          subst (λ (k : Configuration). IsFlat k (order_of f.order) (first_frame (order_of f.order) (left_from f e.at)) new) (fields ∙ same)
          (subst (λ (d : Dynamic). IsFlat (configuration_of config) (order_of d) (first_frame (order_of d) (left_from f e.at)) new) order
          (subst (λ xs. IsFlat (configuration_of config) (order_of (endian_of config)) (first_frame (order_of (endian_of config)) xs) new) left_is (done.read fits)));
      foreign = λ none. absurd (let both : ◌≡◌ {A = Option Configuration} (Some (configured_by a.attribute)) None = sym known ∙ none in cc);
      outside = λ few. done.unread (subst (λ xs. length xs < 8) (sym left_is) few);
    }

-- ---- several entries

-- what is left of two lists is the same
head_same : (old now : List FlatFrame) (i : ℕ) (x : FlatFrame) → i < length now → i < length old → drop i now ≡ drop i old → (get_or now i x ≡ get_or old i x) × (drop (i + 1) now ≡ drop (i + 1) old)
head_same old now i x inside outside same =
    let h : get_or now i x ∷ drop (i + 1) now ≡ get_or old i x ∷ drop (i + 1) old = sym (drop_some now i x inside) ∙ same ∙ drop_some old i x outside in
    let a : get_or now i x ≡ get_or old i x = cc in
    let b : drop (i + 1) now ≡ drop (i + 1) old = cc in (a, b)

pub entries_more : (f : File) (entries : List FlatEntry) (old now : List FlatFrame) (i : ℕ) (d : FlatEntry) (was new : FlatFrame) → i < length entries → i < length now → i < length old → drop i now ≡ drop i old → reads.ReadsEntries f entries i old now
    → reads.ReadsEntry f (get_or entries i d) (get_or now i was) new → reads.ReadsEntries f entries (i + 1) old (set now i new)
entries_more f entries old now i d was new there inside outside same before here k e x lt = elim (cases_lt k i) [
  | inl low ↦ subst (λ y. reads.ReadsEntry f (get_or entries k e) (get_or old k x) y) (sym (get_or-set_other now i k new x (λ at. absurd (omega (arith, low, at))))) (before k e x low)
  | inr high ↦
      let at : k ≡ i = omega (arith, high, lt) in
      let entry : get_or entries i d ≡ get_or entries k e = get_or_default entries i d e there ∙ ap (λ n. get_or entries n e) (sym at) in
      let first : get_or now i was ≡ get_or old k x = get_or_default now i was x inside ∙ (head_same old now i x inside outside same).0 ∙ ap (λ n. get_or old n x) (sym at) in
      let last : new ≡ get_or (set now i new) k x = sym (get_or-set_same now i new x inside) ∙ ap (λ n. get_or (set now i new) n x) (sym at) in
      subst (λ z. reads.ReadsEntry f z (get_or old k x) (get_or (set now i new) k x)) entry
      (subst (λ z. reads.ReadsEntry f (get_or entries i d) z (get_or (set now i new) k x)) first
      (subst (λ z. reads.ReadsEntry f (get_or entries i d) (get_or now i was) z) last here))
]

pub rest_more : (old now : List FlatFrame) (i : ℕ) (new : FlatFrame) → i < length now → i < length old → drop i now ≡ drop i old → drop (i + 1) (set now i new) ≡ drop (i + 1) old
rest_more old now i new inside outside same = drop-set-lt (i + 1) now i new (omega arith) ∙ (head_same old now i new inside outside same).1
