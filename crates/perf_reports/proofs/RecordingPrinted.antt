-- What was printed of a recording, from what was printed of the frames after its attribute.
use Rattle.std.proofs.Common.{◌≡◌, ℕ, Bool, true, List, [], ◌++◌, drop, sym, ap, subst, ◌∙◌, ◌&&◌, Option}
use Rattle.std.specs.Prelude.{Result, Ok, Err, IfOk}
use Rattle.std.specs.Io.KnownBytes.{Appends}
use Rattle.perf_base.specs.Configuration.{Configuration, configured_by}
use Rattle.perf_base.specs.Order.{Order, little}
use Rattle.perf_base.specs.declared.error.ErrorKind.{ErrorKind}
use Rattle.perf_base.specs.declared.sys.perf_event_attr.{perf_event_attr}
use Rattle.perf_reader.specs.ReaderState.{ReaderState}
use Rattle.perf_records.specs.Answers.{answers}
use Rattle.perf_records.specs.Frames.{stream_end}
use Rattle.perf_reports.specs.Counting.{attribute_in}
use Rattle.perf_reports.specs.FramePrinting.{Answered, TellsErrors, all_clean, PrintsAll, PrintsRecording, answers_left, recording_answers}
use Rattle.perf_reports.specs.Printing.{printed_answers, GrowsWithin}
use Rattle.perf_reports.specs.declared.frame_printer.FramePrinter.{FramePrinter}
use Rattle.perf_reports.specs.declared.printing.Report.{Report}
use Rattle.perf_reports.proofs.FramePrinted.{waiting}

pub if_ok_same : {A B : Type 0} {P Q : A → Type 0} (r : Result A B) → ((x : A) → P x → Q x) → IfOk r P → IfOk r Q
if_ok_same (Ok x) f p = f x p
if_ok_same (Err e) f p = tt

-- A parser stands after the attribute of these bytes.
pub record StandsAfter (bytes : List ℕ) (attr : perf_event_attr) (state : ReaderState) : Type 0 where
  pub attribute : attribute_in little bytes ≡ Ok attr
  pub settings : state.settings ≡ configured_by attr
  pub order : state.order ≡ little
  pub left : state.source.left ≡ drop attr.size bytes

recording_is : (bytes : List ℕ) (attr : perf_event_attr) → attribute_in little bytes ≡ Ok attr → recording_answers bytes ≡ answers (configured_by attr) little (drop attr.size bytes)
recording_is bytes attr is =
    ap (λ (r : Result perf_event_attr ErrorKind). elim r as (λ x. List Answered) [ Ok a ↦ answers (configured_by a) little (drop a.size bytes) | Err e ↦ [] ]) is

-- its answers are those of the recording
answers_are : (bytes : List ℕ) (attr : perf_event_attr) (state : ReaderState) → StandsAfter bytes attr state → answers_left state ≡ recording_answers bytes
answers_are bytes attr state s =
    ap (λ (c : Configuration). answers c state.order state.source.left) s.settings
    ∙ ap (λ (o : Order). answers (configured_by attr) o state.source.left) s.order
    ∙ ap (λ (xs : List ℕ). answers (configured_by attr) little xs) s.left
    ∙ sym (recording_is bytes attr s.attribute)

module _ {W E : Type 0} (out : W → Option (List ℕ)) (err : E → Option (List ℕ)) where
  lines_are : (report : Report) (bytes : List ℕ) (attr : perf_event_attr) (was : FramePrinter W E) (state : ReaderState) → StandsAfter bytes attr state → waiting out err was ≡ [] → was.report ≡ report →
      waiting out err was ++ printed_answers was.report (answers_left state) ≡ printed_answers report (recording_answers bytes)
  lines_are report bytes attr was state s none same =
      ap (λ (w : List ℕ). w ++ printed_answers was.report (answers_left state)) none
      ∙ ap (λ (r : Report). printed_answers r (answers_left state)) same
      ∙ ap (λ (xs : List Answered). printed_answers report xs) (answers_are bytes attr state s)

  -- all of it
  pub recorded : (report : Report) (bytes : List ℕ) (attr : perf_event_attr) (was now : FramePrinter W E) (state : ReaderState) (clean : Bool) (o o2 e e2 : Option (List ℕ)) →
      StandsAfter bytes attr state → waiting out err was ≡ [] → was.report ≡ report → was.clean ≡ true →
      out was.output ≡ o → out now.output ≡ o2 → err was.errors ≡ e → err now.errors ≡ e2 →
      PrintsAll out err was state clean now → PrintsRecording report bytes o e clean o2 e2
  recorded report bytes attr was now state clean o o2 e e2 s none same new a b f g p =
      let there = answers_are bytes attr state s in (
        (
          attr,
          s.attribute,
          sym (ap (λ (x : Order). stream_end x state.source.left) s.order ∙ ap (λ (xs : List ℕ). stream_end little xs) s.left) ∙ p.end,
          subst (λ (t : List ℕ). Appends o o2 t) (lines_are report bytes attr was state s none same)
              (subst (λ (y : Option (List ℕ)). Appends o y (waiting out err was ++ printed_answers was.report (answers_left state))) b
              (subst (λ (x : Option (List ℕ)). Appends x (out now.output) (waiting out err was ++ printed_answers was.report (answers_left state))) a p.lines)),
          p.clean ∙ ap (λ (k : Bool). k && all_clean (answers_left state)) new ∙ ap (λ (xs : List Answered). all_clean xs) there,
        ),
        subst (λ (xs : List Answered). TellsErrors e e2 xs) there
            (subst (λ (y : Option (List ℕ)). TellsErrors e y (answers_left state)) g
            (subst (λ (x : Option (List ℕ)). TellsErrors x (err now.errors) (answers_left state)) f p.told)),
      )

  -- a part of it
  pub recorded_part : (report : Report) (bytes : List ℕ) (attr : perf_event_attr) (was now : FramePrinter W E) (state : ReaderState) (o o2 : Option (List ℕ)) →
      StandsAfter bytes attr state → waiting out err was ≡ [] → was.report ≡ report → out was.output ≡ o → out now.output ≡ o2 →
      GrowsWithin (out was.output) (out now.output) (waiting out err was ++ printed_answers was.report (answers_left state)) → GrowsWithin o o2 (printed_answers report (recording_answers bytes))
  recorded_part report bytes attr was now state o o2 s none same a b p =
      subst (λ (t : List ℕ). GrowsWithin o o2 t) (lines_are report bytes attr was state s none same)
      (subst (λ (y : Option (List ℕ)). GrowsWithin o y (waiting out err was ++ printed_answers was.report (answers_left state))) b
      (subst (λ (x : Option (List ℕ)). GrowsWithin x (out now.output) (waiting out err was ++ printed_answers was.report (answers_left state))) a p))
