-- A sample that is added to lines.
use Rattle.std.proofs.Common.{◌≡◌, ℕ, true, false, List, reverse, refl, sym, ◌∙◌, ap, subst, if◌then◌else◌}
use Rattle.std.specs.Prelude.{Option, Some, None, option_map, Result, OnOk}
use Rattle.std.proofs.lemmas.Result.{on_ok_weaker}
use Rattle.perf_base.specs.Configuration.{Configuration}
use Rattle.perf_base.specs.Dynamic.{order_of}
use Rattle.perf_flat.specs.Flat.{IsFlat}
use Rattle.perf_base.specs.Header.{header_of}
use Rattle.perf_base.specs.Order.{Order}
use Rattle.perf_sections.specs.Opened.{File}
use Rattle.perf_file.specs.declared.entries.Entry.{Entry}
use Rattle.perf_flame.specs.Lines.{Line, add_count}
use Rattle.perf_flat.specs.declared.frame.FlatFrame.{FlatFrame}
use Rattle.perf_history.specs.declared.changes.Change.{Change}
use Rattle.perf_history.specs.declared.histories.History.{History}
use Rattle.perf_sample_types.specs.Sample.{SampleValue}
use Rattle.perf_walk.specs.Moments.{Moment, moment_at, known_after}
use Rattle.perf_walk.specs.Plain.{IsPast}
use Rattle.perf_walk.specs.Samples.{sample_of, sample_view}
use Rattle.perf_walk.specs.Steps.{Finds, IsFrameOf}
use Rattle.perf_walk.specs.declared.sampling.Sample.{Sample}
use Rattle.perf_walk.specs.declared.walk.Found.{Found}
use Rattle.perf_fold.specs.EventLabels.{EventLabel}
use Rattle.perf_fold.specs.Folds.{add_sample, add_chosen, add_if, add_taken, takes, weight_at}
use Rattle.perf_fold.specs.SampleStacks.{sample_calls, stack_text}
use Rattle.perf_fold.specs.declared.folding.Choice.{Choice}

-- what the sample of the code means
pub sampled : (misc : ℕ) (x : Option SampleValue) (made : Sample) → Some made ≡ option_map (sample_view misc) x → (s : SampleValue) × (x ≡ Some s) × (made ≡ sample_view misc s)
sampled misc (Some s) made e = let same : made ≡ sample_view misc s = cc in (s, refl, same)
sampled misc None made e = absurd (cc)

pub unsampled : (misc : ℕ) (x : Option SampleValue) → None ≡ option_map (sample_view misc) x → x ≡ None
unsampled misc (Some s) e = absurd (cc)
unsampled misc None e = refl

-- the line of a sample
abbrev pub with_sample : Choice → (labels : List EventLabel) → Moment → (misc : ℕ) → List Line → SampleValue → Sample → List Line
with_sample how labels m misc lines s made =
    add_count lines (stack_text how.frames labels m.event m.known made (reverse (sample_calls misc s))) (weight_at how labels m made)

pub taken : (how : Choice) (labels : List EventLabel) (m : Moment) (misc : ℕ) (lines : List Line) (s : SampleValue) (made : Sample) → made ≡ sample_view misc s → takes how labels m misc s ≡ true
    → with_sample how labels m misc lines s made ≡ add_taken how labels m misc lines s
taken how labels m misc lines s made view counts =
    ap (with_sample how labels m misc lines s) view ∙ ap (λ b. if b then add_sample how labels m misc lines (Some s) else lines) (sym counts)

pub untaken : (how : Choice) (labels : List EventLabel) (m : Moment) (misc : ℕ) (lines : List Line) (s : SampleValue) → takes how labels m misc s ≡ false → lines ≡ add_taken how labels m misc lines s
untaken how labels m misc lines s not = ap (λ b. if b then add_sample how labels m misc lines (Some s) else lines) (sym not)

-- the lines with a sample that may be absent, if it counts
abbrev with_if : Choice → (labels : List EventLabel) → Moment → (misc : ℕ) → List Line → Option SampleValue → List Line
with_if how labels m misc lines x =
    if (elim x [ Some s ↦ takes how labels m misc s | None ↦ false ]) then add_sample how labels m misc lines x else lines

pub added_moment : (how : Choice) (labels : List EventLabel) (o : Order) (lines : List Line) (m : Moment) (misc : ℕ) (s : SampleValue) → sample_of m.config o m.frame ≡ Some s → misc ≡ (header_of o m.frame).misc
    → add_taken how labels m misc lines s ≡ add_chosen how labels o lines m
added_moment how labels o lines m misc s is same =
    ap (λ k. add_taken how labels m k lines s) same ∙ ap (with_if how labels m (header_of o m.frame).misc lines) (sym is)

pub no_moment : (how : Choice) (labels : List EventLabel) (o : Order) (lines : List Line) (m : Moment) → sample_of m.config o m.frame ≡ None → lines ≡ add_chosen how labels o lines m
no_moment how labels o lines m none = ap (with_if how labels m (header_of o m.frame).misc lines) (sym none)

-- ---- a step

-- the moment of a frame that was found
pub found_moment : (f : File) (x : Option Moment) (found : Found) (flat : FlatFrame) → Finds f x (Some found) flat → (m : Moment) × (x ≡ Some m) × IsFrameOf f m found flat
found_moment f (Some m) found flat is = (m, refl, is)
found_moment f None found flat is = absurd is

pub no_frame : (f : File) (x : Option Moment) (flat : FlatFrame) → Finds f x None flat → x ≡ None
no_frame f (Some m) flat is = absurd is
no_frame f None flat is = refl

abbrev known_if : (older : List Change) → Option Moment → List Change
known_if older m = elim m [ Some m ↦ m.known | None ↦ older ]

-- what is known with it
pub known_with : (f : File) (e : Entry) (older : List Change) (m : Moment) → moment_at f e older ≡ Some m → known_after f e older ≡ m.known
known_with f e older m here = ap (known_if older) here

-- a frame that is a sample was added
pub add_some : {E : Type 0} (r : Result (Unit {0}) E) (f : File) (m : Moment) (found : Found) (flat seen : FlatFrame) (how : Choice) (labels : List EventLabel) (lines grown : List Line) (made : Sample)
    → seen ≡ flat → IsFrameOf f m found flat
    → ((c : Configuration) (o : Order) (bytes : List ℕ) → IsFlat c o bytes seen → Some made ≡ option_map (sample_view seen.misc) (sample_of c o bytes))
    → ((s : SampleValue) → sample_of m.config (order_of f.order) m.frame ≡ Some s → made ≡ sample_view flat.misc s → OnOk r (grown ≡ add_taken how labels m flat.misc lines s))
    → OnOk r (grown ≡ add_chosen how labels (order_of f.order) lines m)
add_some r f m found flat seen how labels lines grown made same is sees adds =
    let o : Order = order_of f.order in
    let there : Some made ≡ option_map (sample_view flat.misc) (sample_of m.config o m.frame) =
    subst (λ (x : FlatFrame). Some made ≡ option_map (sample_view x.misc) (sample_of m.config o m.frame)) same (sees m.config o m.frame (subst (λ (x : FlatFrame). IsFlat m.config o m.frame x) (sym same) is.states)) in
    let s = sampled flat.misc (sample_of m.config o m.frame) made there in
    on_ok_weaker r (λ eq. eq ∙ added_moment how labels o lines m flat.misc s.0 s.1 is.states.header.misc) (adds s.0 s.1 s.2)

-- one that is no sample adds nothing
pub add_none : (f : File) (m : Moment) (found : Found) (flat seen : FlatFrame) (how : Choice) (labels : List EventLabel) (lines : List Line) → seen ≡ flat → IsFrameOf f m found flat
    → ((c : Configuration) (o : Order) (bytes : List ℕ) → IsFlat c o bytes seen → None ≡ option_map (sample_view seen.misc) (sample_of c o bytes)) → lines ≡ add_chosen how labels (order_of f.order) lines m
add_none f m found flat seen how labels lines same is sees =
    let o : Order = order_of f.order in
    no_moment how labels o lines m (unsampled seen.misc (sample_of m.config o m.frame) (sees m.config o m.frame (subst (λ (x : FlatFrame). IsFlat m.config o m.frame x) (sym same) is.states)))

-- a step to a frame, which was added
pub gone : {E : Type 0} (r : Result (Unit {0}) E) (f g : File) (e : Entry) (known : List Change) (found : Found) (flat : FlatFrame) (history : History) (how : Choice) (labels : List EventLabel) (lines grown : List Line)
    → g ≡ f → Finds f (moment_at f e known) (Some found) flat × IsPast history (known_after f e known)
    → ((m : Moment) → IsFrameOf g m found flat → IsPast history m.known → OnOk r (grown ≡ add_chosen how labels (order_of g.order) lines m))
    → OnOk r (IsPast history (known_after f e known) × (grown ≡ add_if how labels (order_of f.order) lines (moment_at f e known)))
gone r f g e known found flat history how labels lines grown same step adds =
    let m = found_moment f (moment_at f e known) found flat step.0 in
    let is : IsFrameOf g m.0 found flat = subst (λ (h : File). IsFrameOf h m.0 found flat) (sym same) m.2 in
    let past : IsPast history m.0.known = subst (IsPast history) (known_with f e known m.0 m.1) step.1 in
    on_ok_weaker r (λ eq. (
      step.1,
      eq ∙ ap (λ (h : File). add_chosen how labels (order_of h.order) lines m.0) same ∙ sym (ap (add_if how labels (order_of f.order) lines) m.1),
    )) (adds m.0 is past)

-- a step to no frame
pub gone_nowhere : (f : File) (e : Entry) (known : List Change) (flat : FlatFrame) (history : History) (how : Choice) (labels : List EventLabel) (lines : List Line) → Finds f (moment_at f e known) None flat × IsPast history (known_after f e known)
    → IsPast history (known_after f e known) × (lines ≡ add_if how labels (order_of f.order) lines (moment_at f e known))
gone_nowhere f e known flat history how labels lines step =
    (step.1, sym (ap (add_if how labels (order_of f.order) lines) (no_frame f (moment_at f e known) flat step.0)))
