-- What a printer has printed of the frames that were handed to it.
use Rattle.perf_records.specs.Records.{record_value, sample_is, sample_value}
use Rattle.perf_records.specs.Answers.{answer_after}
use Rattle.perf_records.specs.FrameReadings.{FrameGives, PutsSample}
use Rattle.perf_records.specs.Gives.{IsRecordOf}
use Rattle.perf_records.specs.declared.frame.Frame.{Frame}
use Rattle.perf_records.specs.declared.record.Record.{Record}
use Rattle.perf_sample_types.specs.declared.sample.Sample.{Sample}
use Rattle.std.proofs.Common.{◌≡◌, ℕ, ◌+◌, ◌-◌, ◌≤◌, Bool, true, false, List, [], ◌∷◌, ◌++◌, ◌∙◌, ◌&&◌, Option, Some, None, length, take, drop, map, arith, refl, sym, ap, subst, append_assoc, append-nil, inl, inr, Ok, Err, string_bytes}
use Rattle.std.proofs.Math.Bool.{and-true, and_assoc}
use Rattle.std.proofs.Math.Seq.{take-add, take-append_seam}
use Rattle.std.proofs.lemmas.Grind.{flat_map-append}
use Rattle.std.proofs.lemmas.List.{map-append, take-take, length-append, length-map}
use Rattle.std.proofs.lemmas.List.Folds.{list_all-append}
use Rattle.std.specs.Io.KnownBytes.{Appends}
use Rattle.std.specs.Prelude.{IsTrue, Result, is_ok, codes, OnOk, IfOk, IfErr}
use Rattle.perf_base.specs.Configuration.{Configuration}
use Rattle.perf_buffers.specs.Buffer.{chunk_bytes}
use Rattle.perf_base.specs.Errors.{error_text, kind_of}
use Rattle.perf_base.specs.Order.{Order}
use Rattle.perf_base.specs.Refusals.{error_kinds}
use Rattle.perf_base.specs.declared.error.ErrorKind.{ErrorKind}
use Rattle.perf_base.specs.declared.error.ParseError.{ParseError}
use Rattle.perf_base.specs.declared.sys.perf_event_header.{perf_event_header}
use Rattle.perf_records.specs.Frames.{first_frames}
use Rattle.perf_records.specs.Records.{RecordValue}
use Rattle.perf_records.specs.Sights.{Sight, sight_in}
use Rattle.perf_parser.specs.FrameRuns.{Handed, HandsFirst, went_on}
use Rattle.perf_parser.specs.declared.run.RunEnd.{RunEnd}
use Rattle.perf_reader.specs.ReaderState.{ReaderState}
use Rattle.perf_reports.specs.FramePrinting.{Answered, frame_answer, by_kinds, TellsErrors, all_clean, Prints, StopsPrinting, PrintsAnswer, PrintsSight, PrintsFirst, answers_left}
use Rattle.perf_reports.specs.Printing.{text_of_record, printed_answer, printed_answers, error_line, error_lines, Grows, GrowsWithin, is_memory}
use Rattle.perf_reports.specs.declared.frame_printer.FramePrinter.{FramePrinter}
use Rattle.perf_reports.specs.declared.printing.Report.{Report}
use Rattle.perf_reports.specs.declared.printing.Stopped.{Stopped}
use Rattle.perf_reports.proofs.Counted.{pair_of, frame_pair, Headed, frames_headed, first_answers}
use Rattle.perf_reports.proofs.Printed.{grown, sent, none_sent, flushed, within, longer, within_more, none_within, whole_within}
use Rattle.perf_text.proofs.Written.{appends_more, appends_nothing}

-- ---- errors

abbrev Told : Type 0
Told = perf_event_header × Result RecordValue ParseError

tells_none : (a : Option (List ℕ)) → TellsErrors a a []
tells_none a = ([], refl, appends_nothing a)

tells_more : (a b c : Option (List ℕ)) (xs ys : List Answered) → TellsErrors a b xs → TellsErrors b c ys → TellsErrors a c (xs ++ ys)
tells_more a b c xs ys p q = (
  p.0 ++ q.0,
  map-append (λ (pair : Told). (pair.0, error_kinds pair.1)) p.0 q.0 ∙ ap (λ s. s ++ by_kinds q.0) p.1 ∙ ap (λ s. xs ++ s) q.1,
  subst (λ s. Appends a c s) (sym (flat_map-append error_line p.0 q.0)) (appends_more a b c (error_lines p.0) (error_lines q.0) p.2 q.2),
)

tells_ok : (a : Option (List ℕ)) (h : perf_event_header) (v : RecordValue) → TellsErrors a a ((h, Ok v) ∷ [])
tells_ok a h v = ((h, Ok v) ∷ [], refl, appends_nothing a)

pub tells_error : (a b : Option (List ℕ)) (h : perf_event_header) (e : ParseError) → Appends a b (error_text e ++ codes "\n") → TellsErrors a b ((h, Err (kind_of e)) ∷ [])
tells_error a b h e p = ((h, Err e) ∷ [], refl, subst (λ s. Appends a b s) (sym (append-nil (error_text e ++ codes "\n"))) p)

and_false : (b : Bool) → (b && false) ≡ false
and_false true = refl
and_false false = refl

-- ---- lines of several answers

pub lines_append : (report : Report) (xs ys : List Answered) → printed_answers report (xs ++ ys) ≡ printed_answers report xs ++ printed_answers report ys
lines_append report xs ys = flat_map-append (printed_answer report) xs ys

module _ {W E : Type 0} (out : W → Option (List ℕ)) (err : E → Option (List ℕ)) where
  abbrev pub waiting : FramePrinter W E → List ℕ
  waiting p = string_bytes p.lines.gathered

  pub prints_none : (p : FramePrinter W E) → Prints out err p [] p
  prints_none p = record {
    report = refl;
    grown = none_sent (out p.output) (waiting p);
    part = none_within (out p.output) (waiting p ++ []);
    told = tells_none (err p.errors);
    clean = sym (and-true p.clean);
  }

  pub prints_more : (was mid now : FramePrinter W E) (xs ys : List Answered) → Prints out err was xs mid → Prints out err mid ys now → Prints out err was (xs ++ ys) now
  prints_more was mid now xs ys p q =
      let first = printed_answers was.report xs in
      let second = printed_answers was.report ys in
      let q_grown : Grows (out mid.output) (out now.output) (waiting mid) (waiting now) second = subst (λ r. Grows (out mid.output) (out now.output) (waiting mid) (waiting now) (printed_answers r ys)) p.report q.grown in
      let q_part : GrowsWithin (out mid.output) (out now.output) (waiting mid ++ second) = subst (λ r. GrowsWithin (out mid.output) (out now.output) (waiting mid ++ printed_answers r ys)) p.report q.part in
      record {
        report = q.report ∙ p.report;
        grown = subst (λ s. Grows (out was.output) (out now.output) (waiting was) (waiting now) s) (sym (lines_append was.report xs ys))
            (grown (out was.output) (out mid.output) (out now.output) (waiting was) (waiting mid) (waiting now) first second p.grown q_grown);
        part = subst (λ s. GrowsWithin (out was.output) (out now.output) (waiting was ++ s)) (sym (lines_append was.report xs ys))
            (within_more (out was.output) (out mid.output) (out now.output) (waiting was) (waiting mid) first second p.part p.grown q_part);
        told = tells_more (err was.errors) (err mid.errors) (err now.errors) xs ys p.told q.told;
        clean = q.clean ∙ ap (λ b. b && all_clean ys) p.clean ∙ and_assoc was.clean (all_clean xs) (all_clean ys) ∙ ap (λ b. was.clean && b) (sym (list_all-append (λ (pair : Answered). is_ok pair.1) xs ys));
      }

  -- a record's line was added
  pub prints_line : (was now : FramePrinter W E) (h : perf_event_header) (v : RecordValue) → now.report ≡ was.report → now.errors ≡ was.errors → now.clean ≡ was.clean →
      Grows (out was.output) (out now.output) (waiting was) (waiting now) (text_of_record was.report v) → GrowsWithin (out was.output) (out now.output) (waiting was ++ text_of_record was.report v) → Prints out err was ((h, Ok v) ∷ []) now
  prints_line was now h v report errors clean g w = record {
    report = report;
    grown = subst (λ s. Grows (out was.output) (out now.output) (waiting was) (waiting now) s) (sym (append-nil (text_of_record was.report v))) g;
    part = subst (λ s. GrowsWithin (out was.output) (out now.output) (waiting was ++ s)) (sym (append-nil (text_of_record was.report v))) w;
    told = subst (λ (e : E). TellsErrors (err was.errors) (err e) ((h, Ok v) ∷ [])) (sym errors) (tells_ok (err was.errors) h v);
    clean = clean ∙ sym (and-true was.clean);
  }

  -- its line could not be added
  pub stops_line : (was now : FramePrinter W E) (h : perf_event_header) (v : RecordValue) (why : Stopped) → now.errors ≡ was.errors → GrowsWithin (out was.output) (out now.output) (waiting was ++ text_of_record was.report v) →
      (IsTrue (is_memory why) → Appends (out was.output) (out now.output) (waiting was)) → StopsPrinting out err was (h, Ok v) why now
  stops_line was now h v why errors w refused = record {
    part = subst (λ s. GrowsWithin (out was.output) (out now.output) (waiting was ++ s)) (sym (append-nil (text_of_record was.report v))) w;
    refused = λ memory. (refused memory, ap err errors);
  }

  -- an error was printed after the lines before it
  pub prints_error : (was now : FramePrinter W E) (h : perf_event_header) (e : ParseError) → now.report ≡ was.report → now.clean ≡ false →
      Appends (out was.output) (out now.output) (waiting was) → waiting now ≡ [] → Appends (err was.errors) (err now.errors) (error_text e ++ codes "\n") → Prints out err was ((h, Err (kind_of e)) ∷ []) now
  prints_error was now h e report clean written none text = record {
    report = report;
    grown = sent (out was.output) (out now.output) (waiting was) (waiting now) written none;
    part = longer (out was.output) (out now.output) (waiting was) [] (whole_within (out was.output) (out now.output) (waiting was) written);
    told = tells_error (err was.errors) (err now.errors) h e text;
    clean = clean ∙ sym (and_false was.clean);
  }

  -- only a prefix of what was gathered was written
  pub stops_early : (was now : FramePrinter W E) (x : Answered) (why : Stopped) → (n : ℕ) × Appends (out was.output) (out now.output) (take n (waiting was)) →
      (IsTrue (is_memory why) → Appends (out was.output) (out now.output) (waiting was) × (err now.errors ≡ err was.errors)) → StopsPrinting out err was x why now
  stops_early was now x why part refused = record {
    part = within (out was.output) (out now.output) (waiting was) (printed_answers was.report (x ∷ [])) part;
    refused = refused;
  }

  -- all of it was written, and then the output of errors failed
  pub stops_told : (was now : FramePrinter W E) (x : Answered) (why : Stopped) → Appends (out was.output) (out now.output) (waiting was) → is_memory why ≡ false → StopsPrinting out err was x why now
  stops_told was now x why written failed = record {
    part = longer (out was.output) (out now.output) (waiting was) (printed_answers was.report (x ∷ [])) (whole_within (out was.output) (out now.output) (waiting was) written);
    refused = λ memory. let never : true ≡ false = sym memory ∙ failed in absurd (cc);
  }

  -- the same, or an output failed before that
  pub stops_failed : (was now : FramePrinter W E) (x : Answered) (why : Stopped) → (n : ℕ) × Appends (out was.output) (out now.output) (take n (waiting was)) → is_memory why ≡ false → StopsPrinting out err was x why now
  stops_failed was now x why part failed = stops_early was now x why part (λ memory. let never : true ≡ false = sym memory ∙ failed in absurd (cc))

  -- the same result under another name
  pub prints_same : (was now : FramePrinter W E) (h : perf_event_header) (a b : Result RecordValue ErrorKind) (r : Result (Unit {0}) Stopped) → a ≡ b → PrintsAnswer out err was (h, b) r now → PrintsAnswer out err was (h, a) r now
  prints_same was now h a b r e p = subst (λ (x : Result RecordValue ErrorKind). PrintsAnswer out err was (h, x) r now) (sym e) p

  -- a line was added, or printing stopped
  pub adds_line : (was now : FramePrinter W E) (h : perf_event_header) (a : Result RecordValue ErrorKind) (v : RecordValue) (r : Result (Unit {0}) Stopped) → a ≡ Ok v → now.report ≡ was.report → now.errors ≡ was.errors → now.clean ≡ was.clean →
      OnOk r (Grows (out was.output) (out now.output) (waiting was) (waiting now) (text_of_record was.report v)) → GrowsWithin (out was.output) (out now.output) (waiting was ++ text_of_record was.report v) →
      IfErr r (λ stopped. IsTrue (is_memory stopped) → Appends (out was.output) (out now.output) (waiting was)) → PrintsAnswer out err was (h, a) r now
  adds_line was now h a v (Ok x) e report errors clean g w refused = prints_same was now h a (Ok v) (Ok x) e (prints_line was now h v report errors clean g w)
  adds_line was now h a v (Err why) e report errors clean g w refused = prints_same was now h a (Ok v) (Err why) e (stops_line was now h v why errors w refused)

  -- keeping why it stopped changes nothing of what it printed
  pub stops_kept : (was now kept : FramePrinter W E) (x : Answered) (why : Stopped) → kept.output ≡ now.output → kept.errors ≡ now.errors → StopsPrinting out err was x why now → StopsPrinting out err was x why kept
  stops_kept was now kept x why output errors p = record {
    part = subst (λ (o : W). GrowsWithin (out was.output) (out o) (waiting was ++ printed_answers was.report (x ∷ []))) (sym output) p.part;
    refused = λ memory. (subst (λ (o : W). Appends (out was.output) (out o) (waiting was)) (sym output) (p.refused memory).0, ap err errors ∙ (p.refused memory).1);
  }

-- ---- frames that were handed out

-- a printer printed answers, and stopped at the one after them
pub record StopsAfter {W E : Type 0} (out : W → Option (List ℕ)) (err : E → Option (List ℕ)) (was : FramePrinter W E) (all : List Answered) (now : FramePrinter W E) : Type 0 where
  pub xs : List Answered
  pub x : Answered
  pub all_are : all ≡ xs ++ (x ∷ [])
  pub mid : FramePrinter W E
  pub printed_first : Prints out err was xs mid
  pub why : Stopped
  pub kept : now.stopped ≡ Some why
  pub stops : StopsPrinting out err mid x why now

module _ {W E : Type 0} (out : W → Option (List ℕ)) (err : E → Option (List ℕ)) (c : Configuration) (o : Order) (all : Bool) where
  abbrev gets : FramePrinter W E → Sight → Bool → FramePrinter W E → Type 0
  gets was seen go now = PrintsSight out err was c o seen go now

  one : (frame : List ℕ) (borrowed : Bool) (was now : FramePrinter W E) → 8 ≤ length frame → gets was (sight_in o frame borrowed) true now → Prints out err was (pair_of c o frame ∷ []) now
  one frame borrowed was now fits p = subst (λ (x : Answered). Prints out err was (x ∷ []) now) (frame_pair c o frame borrowed fits) p

  all_printed : (fs : List (List ℕ)) (was now : FramePrinter W E) → Headed fs → Handed gets o all was fs true now → Prints out err was (map (pair_of c o) fs) now
  all_printed [] was now headed p = subst (λ (x : FramePrinter W E). Prints out err was [] x) (sym p.0) (prints_none out err was)
  all_printed (frame ∷ fs) was now headed p = elim p.2 [
    | inl more ↦ prints_more out err was more.0 now (pair_of c o frame ∷ []) (map (pair_of c o) fs) (one frame p.0 was more.0 headed.0 more.1) (all_printed fs more.0 now headed.1 more.2)
    | inr last ↦ let never : true ≡ false = last.2 in absurd (cc)
  ]

  stops_after : (fs : List (List ℕ)) (was now : FramePrinter W E) → Headed fs → Handed gets o all was fs false now → StopsAfter out err was (map (pair_of c o) fs) now
  stops_after [] was now headed p = let never : false ≡ true = p.1 in absurd (cc)
  stops_after (frame ∷ fs) was now headed p = elim p.2 [
    | inl more ↦
        let r = stops_after fs more.0 now headed.1 more.2 in
        record {
          xs = pair_of c o frame ∷ r.xs;
          x = r.x;
          all_are = ap (λ (s : List Answered). pair_of c o frame ∷ s) r.all_are;
          mid = r.mid;
          printed_first = prints_more out err was more.0 r.mid (pair_of c o frame ∷ []) r.xs (one frame p.0 was more.0 headed.0 more.1) r.printed_first;
          why = r.why;
          kept = r.kept;
          stops = r.stops;
        }
    | inr last ↦ record {
      xs = [];
      x = pair_of c o frame;
      all_are = ap (λ (gs : List (List ℕ)). pair_of c o frame ∷ map (pair_of c o) gs) last.1;
      mid = was;
      printed_first = prints_none out err was;
      why = last.0.0;
      kept = last.0.1;
      stops = subst (λ (x : Answered). StopsPrinting out err was x last.0.0 now) (frame_pair c o frame p.0 headed.0) last.0.2;
    }
  ]

-- ---- a run

pub ok_of_none : {A B : Type 0} (r : Result A B) (e : B) (P : A → Type 0) → r ≡ Err e → IfOk r P
ok_of_none (Ok x) e P is = absurd (cc)
ok_of_none (Err y) e P is = tt

pub err_of_one : {A B : Type 0} (r : Result A B) (e : B) (P : B → Type 0) → r ≡ Err e → P e → IfErr r P
err_of_one (Ok x) e P is p = absurd (cc)
err_of_one (Err y) e P is p = let same : y ≡ e = cc in subst P (sym same) p

-- lines of the first of fewer answers are lines of the first of more
fewer_within : (a b : Option (List ℕ)) (waited : List ℕ) (report : Report) (ans : List Answered) (k limit : ℕ) → k ≤ limit → GrowsWithin a b (waited ++ printed_answers report (take k ans)) → GrowsWithin a b (waited ++ printed_answers report (take limit ans))
fewer_within a b waited report ans k limit le p =
    let more = printed_answers report (take (limit - k) (drop k ans)) in
    let same : limit ≡ k + (limit - k) = omega arith in
    let whole : printed_answers report (take limit ans) ≡ printed_answers report (take k ans) ++ more =
    ap (λ n. printed_answers report (take n ans)) same ∙ ap (printed_answers report) (take-add k (limit - k) ans) ∙ lines_append report (take k ans) (take (limit - k) (drop k ans)) in
    subst (λ s. GrowsWithin a b s) (append_assoc waited (printed_answers report (take k ans)) more ∙ ap (λ s. waited ++ s) (sym whole)) (longer a b (waited ++ printed_answers report (take k ans)) more p)

module _ {W E : Type 0} (out : W → Option (List ℕ)) (err : E → Option (List ℕ)) where
  -- the handler went on, and then all lines were written
  pub run_sent : (was mid now : FramePrinter W E) (ans : List Answered) (k : ℕ) → Prints out err was (take k ans) mid → Appends (out mid.output) (out now.output) (waiting out err mid) → now.errors ≡ mid.errors → PrintsFirst out err was ans k now
  run_sent was mid now ans k p written errors = (
    flushed (out was.output) (out mid.output) (out now.output) (waiting out err was) (waiting out err mid) (printed_answers was.report (take k ans)) p.grown written,
    subst (λ (e : E). TellsErrors (err was.errors) (err e) (take k ans)) (sym errors) p.told,
  )

  -- the same, or writing failed
  pub run_part : (was mid now : FramePrinter W E) (ans : List Answered) (k limit : ℕ) → k ≤ limit → Prints out err was (take k ans) mid → (n : ℕ) × Appends (out mid.output) (out now.output) (take n (waiting out err mid)) →
      GrowsWithin (out was.output) (out now.output) (waiting out err was ++ printed_answers was.report (take limit ans))
  run_part was mid now ans k limit le p part =
      let first = printed_answers was.report (take k ans) in
      fewer_within (out was.output) (out now.output) (waiting out err was) was.report ans k limit le
      (subst (λ s. GrowsWithin (out was.output) (out now.output) (waiting out err was ++ s)) (append-nil first)
      (within_more (out was.output) (out mid.output) (out now.output) (waiting out err was) (waiting out err mid) first [] p.part p.grown (within (out mid.output) (out now.output) (waiting out err mid) [] part)))

  -- the handler stopped
  pub run_stopped_part : (was mid now : FramePrinter W E) (ans : List Answered) (k limit : ℕ) → k ≤ limit → StopsAfter out err was (take k ans) mid → now.output ≡ mid.output →
      GrowsWithin (out was.output) (out now.output) (waiting out err was ++ printed_answers was.report (take limit ans))
  run_stopped_part was mid now ans k limit le s same =
      let first = printed_answers was.report s.xs in
      let last = printed_answers was.report (s.x ∷ []) in
      let part : GrowsWithin (out s.mid.output) (out mid.output) (waiting out err s.mid ++ last) = subst (λ r. GrowsWithin (out s.mid.output) (out mid.output) (waiting out err s.mid ++ printed_answers r (s.x ∷ []))) s.printed_first.report s.stops.part in
      let whole : printed_answers was.report (take k ans) ≡ first ++ last = ap (printed_answers was.report) s.all_are ∙ lines_append was.report s.xs (s.x ∷ []) in
      subst (λ (o : W). GrowsWithin (out was.output) (out o) (waiting out err was ++ printed_answers was.report (take limit ans))) (sym same)
      (fewer_within (out was.output) (out mid.output) (waiting out err was) was.report ans k limit le
      (subst (λ t. GrowsWithin (out was.output) (out mid.output) (waiting out err was ++ t)) (sym whole)
      (within_more (out was.output) (out s.mid.output) (out mid.output) (waiting out err was) (waiting out err s.mid) first last s.printed_first.part s.printed_first.grown part)))

  pub run_refused : (was mid now : FramePrinter W E) (ans : List Answered) (k : ℕ) → length (take k ans) ≡ k → (s : StopsAfter out err was (take k ans) mid) → now.output ≡ mid.output → now.errors ≡ mid.errors → IsTrue (is_memory s.why) →
      (n : ℕ) × PrintsFirst out err was ans n now
  run_refused was mid now ans k there s output errors memory =
      let n : ℕ = length s.xs in
      let count : n + 1 ≡ k = sym (length-append s.xs (s.x ∷ [])) ∙ sym (ap length s.all_are) ∙ there in
      let first : take n ans ≡ s.xs = sym (take-take n k ans (omega (arith, count))) ∙ ap (take n) s.all_are ∙ take-append_seam s.xs (s.x ∷ []) in
      let r = s.stops.refused memory in
      let written = flushed (out was.output) (out s.mid.output) (out mid.output) (waiting out err was) (waiting out err s.mid) (printed_answers was.report s.xs) s.printed_first.grown r.0 in
      let told = subst (λ (e : Option (List ℕ)). TellsErrors (err was.errors) e s.xs) (sym r.1) s.printed_first.told in (
        n,
        (
          subst (λ (xs : List Answered). Appends (out was.output) (out now.output) (waiting out err was ++ printed_answers was.report xs)) (sym first)
              (subst (λ (o : W). Appends (out was.output) (out o) (waiting out err was ++ printed_answers was.report s.xs)) (sym output) written),
          subst (λ (xs : List Answered). TellsErrors (err was.errors) (err now.errors) xs) (sym first)
              (subst (λ (e : E). TellsErrors (err was.errors) (err e) s.xs) (sym errors) told),
        ),
      )

  -- a run of a parser: it went on
  pub went_on_prints : (old : ReaderState) (count : ℕ) (ended : Option RunEnd) (e : RunEnd) (was now : FramePrinter W E) → ended ≡ Some e →
      HandsFirst (λ s x. PrintsSight out err s old.settings old.order x) old count ended was now → Prints out err was (take count (answers_left old)) now
  went_on_prints old count ended e was now is handed =
      let c = old.settings in let o = old.order in
      let fs = first_frames o count old.source.left in
      let all : Handed (λ s x. PrintsSight out err s c o x) o old.source.whole was fs true now = subst (λ (y : Option RunEnd). Handed (λ s x. PrintsSight out err s c o x) o old.source.whole was fs (went_on y) now) is handed.1 in
      subst (λ (xs : List Answered). Prints out err was xs now) (first_answers c o count old.source.left handed.0)
      (all_printed out err c o old.source.whole fs was now (frames_headed o count old.source.left) all)

  -- it was stopped
  pub stopped_prints : (old : ReaderState) (count : ℕ) (ended : Option RunEnd) (was now : FramePrinter W E) → ended ≡ None →
      HandsFirst (λ s x. PrintsSight out err s old.settings old.order x) old count ended was now → StopsAfter out err was (take count (answers_left old)) now
  stopped_prints old count ended was now is handed =
      let c = old.settings in let o = old.order in
      let fs = first_frames o count old.source.left in
      let all : Handed (λ s x. PrintsSight out err s c o x) o old.source.whole was fs false now = subst (λ (y : Option RunEnd). Handed (λ s x. PrintsSight out err s c o x) o old.source.whole was fs (went_on y) now) is handed.1 in
      subst (λ (xs : List Answered). StopsAfter out err was xs now) (first_answers c o count old.source.left handed.0)
      (stops_after out err c o old.source.whole fs was now (frames_headed o count old.source.left) all)

  -- all the answers are present
  pub there : (old : ReaderState) (count : ℕ) (ended : Option RunEnd) (was now : FramePrinter W E) →
      HandsFirst (λ s x. PrintsSight out err s old.settings old.order x) old count ended was now → length (take count (answers_left old)) ≡ count
  there old count ended was now handed =
      sym (ap length (first_answers old.settings old.order count old.source.left handed.0)) ∙ length-map (first_frames old.order count old.source.left) (pair_of old.settings old.order) ∙ handed.0

-- ---- what was read of a frame

-- its record
pub record_read : (h : perf_event_header) (c : Configuration) (o : Order) (bytes : List ℕ) (borrowed : Bool) (r : Result Record ParseError) (x : Record) →
    FrameGives IsRecordOf h c o bytes borrowed r → r ≡ Ok x → answer_after c o h bytes ≡ Ok (record_value x)
record_read h c o bytes borrowed r x gives is =
    let v = subst (λ (q : Result Record ParseError). FrameGives IsRecordOf h c o bytes borrowed q) is gives in
    v.5 ∙ ap Ok (sym v.3.0)

-- its sample, read into the place of another
pub sample_read : (h : perf_event_header) (c : Configuration) (o : Order) (bytes : List ℕ) (borrowed : Bool) (r : Result Bool ParseError) (put : Bool) (now : Sample) →
    FrameGives (λ e x. PutsSample e x now) h c o bytes borrowed r → r ≡ Ok put → answer_after c o h bytes ≡ Ok (sample_is (sample_value now))
sample_read h c o bytes borrowed r put now gives is =
    let v = subst (λ (q : Result Bool ParseError). FrameGives (λ e x. PutsSample e x now) h c o bytes borrowed q) is gives in
    v.5 ∙ ap Ok (sym v.3.1.0)

-- the same result of a frame whose bytes count as borrowed
pub same_answer : (c : Configuration) (o : Order) (f b : Frame) → b.header ≡ f.header → chunk_bytes b.rest ≡ chunk_bytes f.rest → frame_answer c o b ≡ frame_answer c o f
same_answer c o f b header rest =
    ap (λ h. (h, answer_after c o h (chunk_bytes b.rest))) header ∙ ap (λ bytes. (f.header, answer_after c o f.header bytes)) rest
