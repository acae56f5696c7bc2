-- Texts of frames one after another.
use Rattle.std.proofs.Common.{◌≡◌, ℕ, Bool, List, ◌∷◌, ◌++◌, ◌||◌, true, false, refl, sym, ◌∙◌, ap, append_assoc}
use Rattle.std.specs.Prelude.{Option, Some, None}
use Rattle.std.specs.List.{cons_option}
use Rattle.perf_sections.specs.Opened.{File}
use Rattle.perf_file.specs.declared.entries.Entry.{Entry}
use Rattle.perf_flat.specs.declared.frame.FlatFrame.{FlatFrame}
use Rattle.perf_history.specs.declared.changes.Change.{Change}
use Rattle.perf_walk.specs.Moments.{Moment, moments, moment_at, known_after}
use Rattle.perf_walk.specs.Steps.{Finds, IsFrameOf}
use Rattle.perf_walk.specs.declared.walk.Found.{Found}
use Rattle.perf_script.specs.ScriptText.{Choice, text_at, text_from, read_at, is_refused, any_refused}
use Rattle.perf_script.specs.declared.readings.Reading.{Reading}

-- ---- what a step has found

pub record IsMoment (f : File) (e : Entry) (known : List Change) (found : Found) (flat : FlatFrame) : Type 0 where
  pub moment : Moment
  pub is : moment_at f e known ≡ Some moment
  pub frame : IsFrameOf f moment found flat

found_some : (f : File) (o m : Option Moment) (found : Found) (flat : FlatFrame) → o ≡ m → Finds f m (Some found) flat → (n : Moment) × (o ≡ Some n) × IsFrameOf f n found flat
found_some f o (Some m) found flat is frame = (m, is, frame)
found_some f o None found flat is frame = absurd frame

pub moment_found : (f : File) (e : Entry) (known : List Change) (found : Found) (flat : FlatFrame) → Finds f (moment_at f e known) (Some found) flat → IsMoment f e known found flat
moment_found f e known found flat finds =
    let some = found_some f (moment_at f e known) (moment_at f e known) found flat refl finds in
    record { moment = some.0; is = some.1; frame = some.2 }

none_if : (f : File) (o : Option Moment) (flat : FlatFrame) → Finds f o None flat → o ≡ None
none_if f (Some m) flat frame = absurd frame
none_if f None flat frame = refl

pub none_found : (f : File) (e : Entry) (known : List Change) (flat : FlatFrame) → Finds f (moment_at f e known) None flat → moment_at f e known ≡ None
none_found f e known flat finds = none_if f (moment_at f e known) flat finds

-- ---- texts

pub known_some : (f : File) (e : Entry) (known : List Change) (m : Moment) → moment_at f e known ≡ Some m → known_after f e known ≡ m.known
known_some f e known m is = ap (λ (o : Option Moment). elim o [ Some n ↦ n.known | None ↦ known ]) is

pub known_none : (f : File) (e : Entry) (known : List Change) → moment_at f e known ≡ None → known_after f e known ≡ known
known_none f e known is = ap (λ (o : Option Moment). elim o [ Some n ↦ n.known | None ↦ known ]) is

-- the text of a frame, and then that of those after it
pub text_more : (f : File) (c : Choice) (older : List Reading) (e : Entry) (left : List Entry) (known : List Change) (m : Moment) (text grown whole : List ℕ) → moment_at f e known ≡ Some m
    → text ++ text_from f c older (moments f (e ∷ left) known) ≡ whole → grown ≡ text ++ text_at f c older m
    → grown ++ text_from f c (read_at f older m) (moments f left (known_after f e known)) ≡ whole
text_more f c older e left known m text grown whole is all more =
    let rest : List ℕ = text_from f c (read_at f older m) (moments f left (known_after f e known)) in
    ap (λ t. t ++ rest) more ∙ append_assoc text (text_at f c older m) rest
    ∙ ap (λ (o : Option Moment). text ++ text_from f c older (cons_option o (moments f left (known_after f e known)))) (sym is) ∙ all

pub text_none : (f : File) (c : Choice) (older : List Reading) (e : Entry) (left : List Entry) (known : List Change) (text whole : List ℕ) → moment_at f e known ≡ None
    → text ++ text_from f c older (moments f (e ∷ left) known) ≡ whole
    → text ++ text_from f c older (moments f left (known_after f e known)) ≡ whole
text_none f c older e left known text whole is all =
    ap (λ (o : Option Moment). text ++ text_from f c older (cons_option o (moments f left (known_after f e known)))) (sym is) ∙ all

-- ---- refusals

or_assoc : (a b c : Bool) → ((a || b) || c) ≡ (a || (b || c))
or_assoc true b c = refl
or_assoc false b c = refl

pub refused_more : (f : File) (e : Entry) (left : List Entry) (known : List Change) (m : Moment) (old new any : Bool) → moment_at f e known ≡ Some m
    → (old || any_refused f (moments f (e ∷ left) known)) ≡ any → new ≡ (old || is_refused f m)
    → (new || any_refused f (moments f left (known_after f e known))) ≡ any
refused_more f e left known m old new any is all more =
    let rest : Bool = any_refused f (moments f left (known_after f e known)) in
    ap (λ b. b || rest) more ∙ or_assoc old (is_refused f m) rest
    ∙ ap (λ (o : Option Moment). old || any_refused f (cons_option o (moments f left (known_after f e known)))) (sym is) ∙ all

pub refused_none : (f : File) (e : Entry) (left : List Entry) (known : List Change) (old any : Bool) → moment_at f e known ≡ None
    → (old || any_refused f (moments f (e ∷ left) known)) ≡ any → (old || any_refused f (moments f left (known_after f e known))) ≡ any
refused_none f e left known old any is all =
    ap (λ (o : Option Moment). old || any_refused f (cons_option o (moments f left (known_after f e known)))) (sym is) ∙ all
