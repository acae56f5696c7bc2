-- Texts that are written in parts.
use Rattle.std.proofs.Common.{◌≡◌, ℕ, Bool, true, false, List, [], ◌++◌, length, take, drop, inl, inr, refl, sym, ◌∙◌, ap, subst, append_assoc}
use Rattle.std.specs.Prelude.{IsTrue, Option, Result, Ok, Err}
use Rattle.std.specs.Io.KnownBytes.{Appends}
use Rattle.std.proofs.Math.Seq.{take-append_seam}
use Rattle.std.proofs.lemmas.List.{take-append-drop}
use Rattle.perf_sections.specs.Opened.{File}
use Rattle.perf_file.specs.declared.entries.Entry.{Entry}
use Rattle.perf_lines.specs.declared.outcome.Outcome.{Outcome}
use Rattle.perf_lines.specs.declared.outcome.Outcome.TheVariants as outcome
use Rattle.perf_text.proofs.Written.{appends_more, appends_nothing}
use Rattle.perf_walk.specs.Moments.{moments}
use Rattle.perf_walk.specs.declared.walk.Walk.{Walk}
use Rattle.perf_script.specs.Labels.{any_counts, labels_by}
use Rattle.perf_script.specs.ScriptText.{Choice, any_refused, choice_by, text_from}
use Rattle.perf_script.specs.UnderWay.{IsUnderWay}
use Rattle.perf_file.specs.Forms.{opened, event_name}
use Rattle.perf_file.specs.Entries.{entries_of, IsInOrder}
use Rattle.perf_sections.specs.Opens.{Fails}
use Rattle.perf_sections.specs.declared.error.OpenError.{OpenError}
use Rattle.perf_sections.specs.declared.error.OpenError.TheVariants as opens
use Rattle.perf_walk.specs.declared.filtering.Filter.{Filter}
use Rattle.perf_script.specs.Written.{WritesScript, script_result}
use Rattle.std.specs.declared.alloc.AllocError.{AllocError}
use Rattle.perf_script.specs.declared.error.ScriptError.TheVariants as errors
use Rattle.perf_script.specs.declared.fields.Style.{Style}
use Rattle.perf_script.specs.Writing.{GoesOn, IsWriting, Writes, WritesEntries, WritesFront, outcome_of}
use Rattle.perf_script.specs.declared.script.Script.{Script}
use Rattle.perf_script.specs.declared.script.State.{State}
use Rattle.perf_script.proofs.Ways.{way_ended}

-- a beginning of a text was written
front : (start now : Option (List ℕ)) (xs ys whole : List ℕ) → xs ++ ys ≡ whole → Appends start now xs → WritesFront whole start now
front start now xs ys whole parts appends = (length xs, subst (Appends start now) (sym (ap (take (length xs)) (sym parts) ∙ take-append_seam xs ys)) appends)

-- memory ran out
pub writing_ended : (f : File) (c : Choice) (left : List Entry) (any : Bool) (whole : List ℕ) (start now : Option (List ℕ)) (script : Script) → IsWriting f c left any whole start now script → WritesFront whole start now
writing_ended f c left any whole start now script h = front start now h.written h.rest whole h.parts h.appends

-- a write failed
pub writing_cut : (f : File) (c : Choice) (left : List Entry) (any : Bool) (whole : List ℕ) (start now new : Option (List ℕ)) (script : Script) (text : List ℕ) → IsWriting f c left any whole start now script
    → text ≡ script.text.items → WritesFront text now new → WritesFront whole start new
writing_cut f c left any whole start now new script text h is part =
    let n : ℕ = part.0 in
    let from : List ℕ = text_from f c h.under.older (moments f left h.under.known) in
    let all : (h.written ++ take n text) ++ (drop n text ++ from) ≡ whole =
    append_assoc h.written (take n text) (drop n text ++ from)
    ∙ ap (λ t. h.written ++ t) (sym (append_assoc (take n text) (drop n text) from) ∙ ap (λ t. t ++ from) (take-append-drop n text ∙ is) ∙ h.under.text)
    ∙ h.parts in
    front start new (h.written ++ take n text) (drop n text ++ from) whole all (appends_more start now new h.written (take n text) h.appends part.1)

-- what was kept is written
pub writing_goes_on : (f : File) (c : Choice) (left : List Entry) (any : Bool) (whole : List ℕ) (start now new : Option (List ℕ)) (old script : Script) → IsWriting f c left any whole start now old
    → script.walk ≡ old.walk → script.state ≡ old.state → script.refused ≡ old.refused → script.text.items ≡ [] → Appends now new old.text.items → IsWriting f c left any whole start new script
writing_goes_on f c left any whole start now new old script h walk state refused none more =
    let under = h.under in
    let from : List ℕ = text_from f c under.older (moments f left under.known) in
    let kept : IsUnderWay f c left any from (record old { text = script.text }) = record {
      known = under.known;
      older = under.older;
      recording = under.recording;
      past = under.past;
      counted = under.counted;
      text = ap (λ t. t ++ from) none;
      refused = under.refused;
    } in
    record {
      written = h.written ++ old.text.items;
      rest = from;
      appends = appends_more start now new h.written old.text.items h.appends more;
      parts = append_assoc h.written old.text.items from ∙ ap (λ t. h.written ++ t) under.text ∙ h.parts;
      under = subst (λ (b : Bool). IsUnderWay f c left any from (record script { refused = b })) (sym refused)
          (subst (λ (s : State). IsUnderWay f c left any from (record script { state = s; refused = old.refused })) (sym state)
          (subst (λ (w : Walk). IsUnderWay f c left any from (record script { walk = w; state = old.state; refused = old.refused })) (sym walk) kept));
    }

-- nothing was written, and all is left
pub writing_begun : (f : File) (c : Choice) (left : List Entry) (any : Bool) (whole : List ℕ) (start : Option (List ℕ)) (script : Script) → IsUnderWay f c left any whole script → IsWriting f c left any whole start start script
writing_begun f c left any whole start script under = record { written = []; rest = whole; appends = appends_nothing start; parts = refl; under = under }

-- what was kept is written, or not all of it
pub writing_done : (b : Bool) (f : File) (c : Choice) (left : List Entry) (any : Bool) (whole : List ℕ) (start now new : Option (List ℕ)) (old script : Script) → IsWriting f c left any whole start now old
    → script.walk ≡ old.walk → script.state ≡ old.state → script.refused ≡ old.refused → script.text.items ≡ [] → (IsTrue b → Appends now new old.text.items) → WritesFront old.text.items now new
    → GoesOn f c left any whole start (Ok b) new script
writing_done true f c left any whole start now new old script h walk state refused none all part = writing_goes_on f c left any whole start now new old script h walk state refused none (all refl)
writing_done false f c left any whole start now new old script h walk state refused none all part = writing_cut f c left any whole start now new old old.text.items h refl part

written_whole : (how : Outcome) (f : File) (c : Choice) (any : Bool) (whole : List ℕ) (start now new : Option (List ℕ)) (old : Script) → IsWriting f c [] any whole start now old
    → how ≡ outcome_of old.refused → Appends now new old.text.items → (how ≡ outcome_of any) × Appends start new whole
written_whole how f c any whole start now new old h is more =
    let end = way_ended f c any h.rest old h.under in (
      is ∙ ap outcome_of end.0,
      subst (Appends start new) (ap (λ t. h.written ++ t) end.1 ∙ h.parts) (appends_more start now new h.written old.text.items h.appends more),
    )

-- all was done, and the last part is written, or not all of it
pub writing_whole : (how : Outcome) (f : File) (c : Choice) (any : Bool) (whole : List ℕ) (start now new : Option (List ℕ)) (old : Script) → IsWriting f c [] any whole start now old
    → Writes how old.refused old.text.items now new → Writes how any whole start new
writing_whole outcome.Stopped f c any whole start now new old h part = writing_cut f c [] any whole start now new old old.text.items h refl part
writing_whole outcome.Clean f c any whole start now new old h part = written_whole outcome.Clean f c any whole start now new old h part.0 part.1
writing_whole outcome.Refused f c any whole start now new old h part = written_whole outcome.Refused f c any whole start now new old h part.0 part.1
writing_whole outcome.BadAttr f c any whole start now new old h part = written_whole outcome.BadAttr f c any whole start now new old h part.0 part.1
writing_whole outcome.Faulted f c any whole start now new old h part = written_whole outcome.Faulted f c any whole start now new old h part.0 part.1

-- ---- a file that is refused

pub refused_open : (style : Style) (w : Filter) (bytes : List ℕ) (old new : Option (List ℕ)) (e : OpenError) → Fails e (opened bytes) → new ≡ old → WritesScript style w bytes (Err (errors.Open e)) old new
refused_open style w bytes old new opens.OutOfMemory fails same = inl same
refused_open style w bytes old new _ fails same = (fails, same)

-- a file whose text was written, or of which memory ran out
pub script_ended : (style : Style) (w : Filter) (bytes : List ℕ) (f : File) (entries : List Entry) (ended : Result Outcome AllocError) (old new : Option (List ℕ)) → opened bytes ≡ Ok f
    → any_counts (labels_by w (event_name bytes f) f.events) ≡ true → IsInOrder (entries_of f) entries → WritesEntries f (choice_by style w (event_name bytes f) f.events) entries ended old new
    → WritesScript style w bytes (script_result ended) old new
script_ended style w bytes f entries (Ok how) old new is any order done = (f, is, (any, done.0, done.1, (entries, order, done.2), done.3))
script_ended style w bytes f entries (Err e) old new is any order front =
    inr (f, is, any_refused f (moments f entries []), text_from f (choice_by style w (event_name bytes f) f.events) [] (moments f entries []), (entries, order, (refl, refl)), front)
