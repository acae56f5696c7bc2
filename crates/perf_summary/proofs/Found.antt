-- What a frame that was found states about a thread, and the threads after it.
use Rattle.std.proofs.Common.{◌≡◌, ℕ, Bool, true, false, List, refl, sym, ◌∙◌, ap, subst}
use Rattle.std.specs.Prelude.{Option, Some, None, option_map, if◌then◌else◌, OnOk, Result}
use Rattle.std.proofs.lemmas.Result.{on_ok_weaker}
use Rattle.std.specs.BTreeMap.{BTreeMap, get}
use Rattle.perf_base.specs.Configuration.{Configuration}
use Rattle.perf_base.specs.Dynamic.{order_of}
use Rattle.perf_base.specs.Order.{Order}
use Rattle.perf_sections.specs.Opened.{File}
use Rattle.perf_file.specs.declared.entries.Entry.{Entry}
use Rattle.perf_flat.specs.Flat.{IsFlat}
use Rattle.perf_flat.specs.declared.frame.FlatFrame.{FlatFrame}
use Rattle.perf_history.specs.Histories.{name_of}
use Rattle.perf_history.specs.declared.changes.Change.{Change}
use Rattle.perf_history.specs.declared.histories.History.{History}
use Rattle.perf_history.specs.declared.names.Name.{Name}
use Rattle.perf_walk.specs.Moments.{Moment, moment_at, known_after}
use Rattle.perf_walk.specs.Plain.{IsPast, plain_name}
use Rattle.perf_walk.specs.Steps.{IsFrameOf, Finds}
use Rattle.perf_walk.specs.declared.walk.Found.{Found}
use Rattle.perf_summary.specs.Facts.{plain_fact, fact, fact_of, fact_at}
use Rattle.perf_summary.specs.ThreadSteps.{Adds, AddsPlain, grown, or_none, plain_at}
use Rattle.perf_summary.specs.Subjects.{subject_of}
use Rattle.perf_summary.specs.Threads.{id_cmp, is_same, plain_thread}
use Rattle.perf_summary.specs.declared.facts.Fact.{Fact}
use Rattle.perf_summary.specs.declared.subjects.Kind.{Kind}
use Rattle.perf_summary.specs.declared.subjects.Subject.{Subject}
use Rattle.perf_summary.specs.declared.threads.Thread.{Thread}

-- ---- a fact

-- what a flat frame is about, the moment's bytes are
about : (f : File) (m : Moment) (found : Found) (flat seen : FlatFrame) (r : Option Subject) → seen ≡ flat → IsFrameOf f m found flat
    → ((c : Configuration) (o : Order) (bytes : List ℕ) → IsFlat c o bytes seen → r ≡ subject_of c o bytes) → r ≡ subject_of m.config (order_of f.order) m.frame
about f m found flat seen r same is sees =
    sees m.config (order_of f.order) m.frame (subst (λ (x : FlatFrame). IsFlat m.config (order_of f.order) m.frame x) (sym same) is.states)

-- a fact of the code
abbrev fact_made : ℕ × ℕ → Kind → (time : ℕ) → Name → Fact
fact_made who kind time name = record { who = who; kind = kind; time = time; name = name }

pub fact_there : (f : File) (e : Entry) (m : Moment) (found : Found) (flat seen : FlatFrame) (s : Subject) (name : Name) → seen ≡ flat → IsFrameOf f m found flat
    → ((c : Configuration) (o : Order) (bytes : List ℕ) → IsFlat c o bytes seen → Some s ≡ subject_of c o bytes) → plain_name name ≡ name_of m.known s.tid
    → Some (plain_fact (fact_made (s.pid, s.tid) s.kind e.time name)) ≡ fact_of f e m
fact_there f e m found flat seen s name same is sees named =
    ap (λ (n : Name). Some (fact_made (s.pid, s.tid) s.kind e.time n)) named
    ∙ ap (option_map (fact e.time m.known)) (about f m found flat seen (Some s) same is sees)

pub no_fact : (f : File) (e : Entry) (m : Moment) (found : Found) (flat seen : FlatFrame) → seen ≡ flat → IsFrameOf f m found flat
    → ((c : Configuration) (o : Order) (bytes : List ℕ) → IsFlat c o bytes seen → None ≡ subject_of c o bytes) → None ≡ fact_of f e m
no_fact f e m found flat seen same is sees = ap (option_map (fact e.time m.known)) (about f m found flat seen None same is sees)

-- ---- the threads after it

plain_grown : (o : Option Thread) (x : Fact) → plain_thread (grown (or_none o) x) ≡ grown (or_none (option_map plain_thread o)) (plain_fact x)
plain_grown (Some t) x = refl
plain_grown None x = refl

plain_added : (x : Fact) (old new : BTreeMap (ℕ × ℕ) Thread) → Adds x old new → AddsPlain (Some (plain_fact x)) old new
plain_added x old new adds = λ who. ap (option_map plain_thread) (adds who) ∙ go who (is_same x.who who) where
  go : (who : ℕ × ℕ) (b : Bool) → option_map plain_thread (if b then Some (grown (or_none (get id_cmp old who)) x) else get id_cmp old who)
      ≡ (if b then Some (grown (or_none (plain_at old who)) (plain_fact x)) else plain_at old who)
  go who true = ap Some (plain_grown (get id_cmp old who) x)
  go who false = refl

pub added_some : {E : Type 0} (r : Result (Unit {0}) E) (f : File) (e : Entry) (m : Moment) (x : Fact) (old new : BTreeMap (ℕ × ℕ) Thread) → Some (plain_fact x) ≡ fact_of f e m
    → OnOk r (Adds x old new) → OnOk r (AddsPlain (fact_of f e m) old new)
added_some r f e m x old new there = on_ok_weaker r (λ adds. subst (λ (o : Option Fact). AddsPlain o old new) there (plain_added x old new adds))

pub added_none : (f : File) (e : Entry) (m : Moment) (threads : BTreeMap (ℕ × ℕ) Thread) → None ≡ fact_of f e m → AddsPlain (fact_of f e m) threads threads
added_none f e m threads none = subst (λ (o : Option Fact). AddsPlain o threads threads) none (λ who. refl)

-- ---- a step

found_moment : (f : File) (o : Option Moment) (found : Found) (flat : FlatFrame) → Finds f o (Some found) flat → (m : Moment) × (o ≡ Some m) × IsFrameOf f m found flat
found_moment f (Some m) found flat is = (m, refl, is)
found_moment f None found flat is = absurd is

no_moment : (f : File) (o : Option Moment) (flat : FlatFrame) → Finds f o None flat → o ≡ None
no_moment f (Some m) flat is = absurd is
no_moment f None flat is = refl

abbrev known_if : (older : List Change) → Option Moment → List Change
known_if older m = elim m [ Some m ↦ m.known | None ↦ older ]

abbrev fact_if : File → Entry → Option Moment → Option Fact
fact_if f e m = elim m [ Some m ↦ fact_of f e m | None ↦ None ]

pub gone : {E : Type 0} (r : Result (Unit {0}) E) (f g : File) (e : Entry) (known : List Change) (found : Found) (flat : FlatFrame) (history : History) (old new : BTreeMap (ℕ × ℕ) Thread)
    → g ≡ f → Finds f (moment_at f e known) (Some found) flat × IsPast history (known_after f e known)
    → ((m : Moment) (found : Found) → IsFrameOf g m found flat → IsPast history m.known → OnOk r (AddsPlain (fact_of g e m) old new))
    → OnOk r (IsPast history (known_after f e known) × AddsPlain (fact_at f e known) old new)
gone r f g e known found flat history old new same step adds =
    let m = found_moment f (moment_at f e known) found flat step.0 in
    let is : IsFrameOf g m.0 found flat = subst (λ (h : File). IsFrameOf h m.0 found flat) (sym same) m.2 in
    let past : IsPast history m.0.known = subst (IsPast history) (ap (known_if known) m.1) step.1 in
    let here : fact_of g e m.0 ≡ fact_at f e known = ap (λ (h : File). fact_of h e m.0) same ∙ sym (ap (fact_if f e) m.1) in
    on_ok_weaker r (λ added. (step.1, subst (λ (o : Option Fact). AddsPlain o old new) here added)) (adds m.0 found is past)

pub gone_nowhere : (f : File) (e : Entry) (known : List Change) (flat : FlatFrame) (history : History) (threads : BTreeMap (ℕ × ℕ) Thread)
    → Finds f (moment_at f e known) None flat × IsPast history (known_after f e known) → IsPast history (known_after f e known) × AddsPlain (fact_at f e known) threads threads
gone_nowhere f e known flat history threads step =
    (step.1, subst (λ (o : Option Fact). AddsPlain o threads threads) (sym (ap (fact_if f e) (no_moment f (moment_at f e known) flat step.0))) (λ who. refl))
