-- A text that is being made goes on by a frame.
use Rattle.std.proofs.Common.{◌≡◌, ℕ, Bool, List, [], ◌∷◌, ◌++◌, ◌||◌, true, false, refl, sym, ◌∙◌, ap, append-nil}
use Rattle.std.specs.Prelude.{Some, None}
use Rattle.perf_sections.specs.Opened.{File}
use Rattle.perf_file.specs.Views.{view}
use Rattle.perf_file.specs.declared.entries.Entry.{Entry}
use Rattle.perf_file.specs.declared.opening.Recording.{Recording}
use Rattle.perf_walk.specs.Moments.{Moment, moments, moment_at, known_after}
use Rattle.perf_walk.specs.Plain.{IsPast}
use Rattle.perf_script.specs.Counted.{IsCounted}
use Rattle.perf_script.specs.ScriptText.{Choice, text_at, text_from, read_at, is_refused, any_refused}
use Rattle.perf_script.specs.UnderWay.{IsUnderWay, IsBegun, Pushes}
use Rattle.perf_script.specs.declared.script.Script.{Script}
use Rattle.perf_script.proofs.InTurn.{text_more, text_none, refused_more, refused_none}

-- nothing is done
pub way_begun : (r : Recording) (c : Choice) (entries : List Entry) (script : Script) → IsBegun r script
    → IsUnderWay (view r) c entries (any_refused (view r) (moments (view r) entries [])) (text_from (view r) c [] (moments (view r) entries [])) script
way_begun r c entries script begun = record {
  known = [];
  older = [];
  recording = ap view begun.recording;
  past = begun.past;
  counted = begun.counted;
  text = ap (λ t. t ++ text_from (view r) c [] (moments (view r) entries [])) begun.text;
  refused = ap (λ b. b || any_refused (view r) (moments (view r) entries [])) begun.refused;
}

-- a frame is done
pub way_some : (f : File) (c : Choice) (e : Entry) (left : List Entry) (any : Bool) (whole : List ℕ) (old between new : Script) → (h : IsUnderWay f c (e ∷ left) any whole old) → (m : Moment)
    → moment_at f e h.known ≡ Some m → between.text.items ≡ old.text.items → between.refused ≡ old.refused → view new.walk.recording.now ≡ f → IsPast new.walk.history (known_after f e h.known)
    → Pushes f c m h.older between new → IsUnderWay f c left any whole new
way_some f c e left any whole old between new h m is text refused recording past pushes = record {
  known = known_after f e h.known;
  older = read_at f h.older m;
  recording = recording;
  past = past;
  counted = pushes.counted;
  text = text_more f c h.older e left h.known m old.text.items new.text.items whole is h.text (pushes.text ∙ ap (λ t. t ++ text_at f c h.older m) text);
  refused = refused_more f e left h.known m old.refused new.refused any is h.refused (pushes.refused ∙ ap (λ b. b || is_refused f m) refused);
}

-- an entry has none
pub way_none : (f : File) (c : Choice) (e : Entry) (left : List Entry) (any : Bool) (whole : List ℕ) (old new : Script) → (h : IsUnderWay f c (e ∷ left) any whole old)
    → moment_at f e h.known ≡ None → new.text.items ≡ old.text.items → new.refused ≡ old.refused → IsCounted new.state.known h.older → view new.walk.recording.now ≡ f → IsPast new.walk.history (known_after f e h.known)
    → IsUnderWay f c left any whole new
way_none f c e left any whole old new h is text refused counted recording past = record {
  known = known_after f e h.known;
  older = h.older;
  recording = recording;
  past = past;
  counted = counted;
  text = ap (λ t. t ++ text_from f c h.older (moments f left (known_after f e h.known))) text ∙ text_none f c h.older e left h.known old.text.items whole is h.text;
  refused = ap (λ b. b || any_refused f (moments f left (known_after f e h.known))) refused ∙ refused_none f e left h.known old.refused any is h.refused;
}

or_false : (b : Bool) → (b || false) ≡ b
or_false true = refl
or_false false = refl

-- all is done
pub way_ended : (f : File) (c : Choice) (any : Bool) (whole : List ℕ) (script : Script) → IsUnderWay f c [] any whole script → (script.refused ≡ any) × (script.text.items ≡ whole)
way_ended f c any whole script h = (sym (or_false script.refused) ∙ h.refused, sym (append-nil script.text.items) ∙ h.text)
