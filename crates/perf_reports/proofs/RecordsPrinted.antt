-- What a printer has printed of a whole stream, run by run.
use Rattle.std.proofs.Common.{◌≡◌, ℕ, ◌+◌, ◌-◌, ◌≤◌, Bool, List, [], ◌++◌, length, take, drop, refl, sym, ap, subst, ◌∙◌, ◌&&◌, arith, append_assoc, append-nil, Option, Some, None}
use Rattle.std.proofs.Math.Seq.{take-add}
use Rattle.std.proofs.lemmas.List.{length-map, length-drop, take_all, take-append-drop}
use Rattle.std.specs.Io.KnownBytes.{Appends}
use Rattle.perf_base.specs.Configuration.{Configuration}
use Rattle.perf_base.specs.Header.{header_of}
use Rattle.perf_base.specs.Order.{Order}
use Rattle.perf_parser.specs.declared.run.RunEnd.{RunEnd}
use Rattle.perf_parser.specs.declared.run.RunEnd.TheVariants as end
use Rattle.perf_reader.specs.ReaderState.{ReaderState}
use Rattle.perf_records.specs.Answers.{answers, answer_of_frame}
use Rattle.perf_records.specs.Frames.{frames, drop_frames, stream_end}
use Rattle.perf_reports.specs.FramePrinting.{Answered, all_clean, Prints, PrintsFirst, PrintsRun, PrintsAll, answers_left}
use Rattle.perf_reports.specs.Printing.{printed_answers, Grows, GrowsWithin}
use Rattle.perf_reports.specs.declared.frame_printer.FramePrinter.{FramePrinter}
use Rattle.perf_records.proofs.FramesAfter.{frames_after, after_more, answers_after, end_after}
use Rattle.perf_reports.proofs.FramePrinted.{prints_none, prints_more, lines_append, waiting}
use Rattle.perf_reports.proofs.Printed.{flushed, longer, whole_within, within_more}
use Rattle.perf_text.proofs.Written.{appends_nothing}

-- there are as many answers as frames
count_answers : (c : Configuration) (o : Order) (bytes : List ℕ) → length (answers c o bytes) ≡ length (frames o bytes)
count_answers c o bytes = length-map (frames o bytes) (λ frame. (header_of o frame, answer_of_frame c o frame))

-- all that waited and a text were written, so that nothing waits
grows_whole : (a b : Option (List ℕ)) (waited waits text : List ℕ) → Appends a b (waited ++ text) → waits ≡ [] → Grows a b waited waits text
grows_whole None b waited waits text p q = tt
grows_whole (Some xs) None waited waits text p q = absurd p
grows_whole (Some xs) (Some ys) waited waits text p q = ap (λ s. ys ++ s) q ∙ append-nil ys ∙ p

module _ {W E : Type 0} (out : W → Option (List ℕ)) (err : E → Option (List ℕ)) where
  -- The first n answers of what a parser had were printed, and the bytes after them are left.
  pub record HasPrinted (was : FramePrinter W E) (old : ReaderState) (n : ℕ) (left : List ℕ) (now : FramePrinter W E) : Type 0 where
    pub within : n ≤ length (answers_left old)
    pub left_is : left ≡ drop_frames old.order n old.source.left
    pub prints : Prints out err was (take n (answers_left old)) now

  pub has_none : (p : FramePrinter W E) (old : ReaderState) → HasPrinted p old 0 old.source.left p
  has_none p old = record { within = omega arith; left_is = refl; prints = prints_none out err p }

  -- the answers of a run are those after the first n
  answers_there : (old mid : ReaderState) (n : ℕ) → mid.settings ≡ old.settings → mid.order ≡ old.order → n ≤ length (answers_left old) → mid.source.left ≡ drop_frames old.order n old.source.left → answers_left mid ≡ drop n (answers_left old)
  answers_there old mid n settings order within left =
      ap (λ c. answers c mid.order mid.source.left) settings ∙ ap (λ o. answers old.settings o mid.source.left) order ∙ ap (λ bytes. answers old.settings old.order bytes) left
      ∙ answers_after old.settings old.order n old.source.left (omega (arith, within, count_answers old.settings old.order old.source.left))

  -- a run of which all lines were written
  prints_run : (mid now : FramePrinter W E) (ans : List Answered) (k : ℕ) → PrintsFirst out err mid ans k now → waiting out err now ≡ [] → now.report ≡ mid.report → now.clean ≡ (mid.clean && all_clean (take k ans)) → Prints out err mid (take k ans) now
  prints_run mid now ans k p none report clean = record {
    report = report;
    grown = grows_whole (out mid.output) (out now.output) (waiting out err mid) (waiting out err now) (printed_answers mid.report (take k ans)) p.0 none;
    part = whole_within (out mid.output) (out now.output) (waiting out err mid ++ printed_answers mid.report (take k ans)) p.0;
    told = p.1;
    clean = clean;
  }

  -- one more run
  pub has_more : (was mid now : FramePrinter W E) (old state : ReaderState) (n : ℕ) (left : List ℕ) (e : RunEnd) (limit : ℕ) →
      state.settings ≡ old.settings → state.order ≡ old.order → HasPrinted was old n state.source.left mid → (r : PrintsRun out err mid state limit e left now) → waiting out err now ≡ [] → Prints out err was (take (n + r.0) (answers_left old)) now
  has_more was mid now old state n left e limit settings order h r none =
      let all = answers_left old in
      let k : ℕ = r.0 in
      let there : answers_left state ≡ drop n all = answers_there old state n settings order h.within h.left_is in
      let run : Prints out err mid (take k (answers_left state)) now = prints_run mid now (answers_left state) k r.1 none r.2 r.3 in
      let next : Prints out err mid (take k (drop n all)) now = subst (λ (xs : List Answered). Prints out err mid (take k xs) now) there run in
      subst (λ (xs : List Answered). Prints out err was xs now) (sym (take-add n k all)) (prints_more out err was mid now (take n all) (take k (drop n all)) h.prints next)

  count_more : (old state : ReaderState) (n k : ℕ) → state.settings ≡ old.settings → state.order ≡ old.order → n ≤ length (answers_left old) → state.source.left ≡ drop_frames old.order n old.source.left → k ≤ length (answers_left state) → n + k ≤ length (answers_left old)
  count_more old state n k settings order within left fits =
      let there = ap length (answers_there old state n settings order within left) in
      omega (arith, fits, there, within, length-drop n (answers_left old))

  -- one more run, which reached its limit
  pub has_limit : (was mid now : FramePrinter W E) (old state : ReaderState) (n : ℕ) (left : List ℕ) (limit : ℕ) →
      state.settings ≡ old.settings → state.order ≡ old.order → HasPrinted was old n state.source.left mid → (r : PrintsRun out err mid state limit end.Limit left now) → waiting out err now ≡ [] → HasPrinted was old (n + r.0) left now
  has_limit was mid now old state n left limit settings order h r none = record {
    within = count_more old state n r.0 settings order h.within h.left_is r.5;
    left_is = r.4.1 ∙ ap (λ o. drop_frames o r.0 state.source.left) order ∙ ap (λ bytes. drop_frames old.order r.0 bytes) h.left_is ∙ after_more old.order n r.0 old.source.left;
    prints = has_more was mid now old state n left end.Limit limit settings order h r none;
  }

  -- one more run, after which nothing is left
  pub has_all : (was mid now : FramePrinter W E) (old state : ReaderState) (n : ℕ) (left : List ℕ) (limit : ℕ) (clean : Bool) →
      state.settings ≡ old.settings → state.order ≡ old.order → HasPrinted was old n state.source.left mid → (r : PrintsRun out err mid state limit end.Done left now) → waiting out err now ≡ [] → clean ≡ now.clean → PrintsAll out err was old clean now
  has_all was mid now old state n left limit clean settings order h r none is =
      let all = answers_left old in
      let k : ℕ = r.0 in
      let fits : n ≤ length (frames old.order old.source.left) = omega (arith, h.within, count_answers old.settings old.order old.source.left) in
      let rest : k ≡ length (frames old.order (drop_frames old.order n old.source.left)) = r.4.1 ∙ ap (λ o. length (frames o state.source.left)) order ∙ ap (λ bytes. length (frames old.order bytes)) h.left_is in
      let count : length (frames old.order (drop_frames old.order n old.source.left)) ≡ length (frames old.order old.source.left) - n = ap length (frames_after old.order n old.source.left fits) ∙ length-drop n (frames old.order old.source.left) in
      let whole : take (n + k) all ≡ all = take_all (n + k) all (omega (arith, rest, count, fits, count_answers old.settings old.order old.source.left)) in
      let p : Prints out err was all now = subst (λ (xs : List Answered). Prints out err was xs now) whole (has_more was mid now old state n left end.Done limit settings order h r none) in
      let written : Appends (out now.output) (out now.output) (waiting out err now) = subst (λ s. Appends (out now.output) (out now.output) s) (sym none) (appends_nothing (out now.output)) in
      record {
        lines = flushed (out was.output) (out now.output) (out now.output) (waiting out err was) (waiting out err now) (printed_answers was.report all) p.grown written;
        told = p.told;
        clean = is ∙ p.clean;
        end = sym (end_after old.order n old.source.left fits) ∙ ap (λ bytes. stream_end old.order bytes) (sym h.left_is) ∙ ap (λ o. stream_end o state.source.left) (sym order) ∙ r.4.2;
      }

  -- a prefix of the lines of the first answers is one of the lines of all
  all_within : (a b : Option (List ℕ)) (was : FramePrinter W E) (all : List Answered) (j : ℕ) → GrowsWithin a b (waiting out err was ++ printed_answers was.report (take j all)) → GrowsWithin a b (waiting out err was ++ printed_answers was.report all)
  all_within a b was all j p =
      let first = printed_answers was.report (take j all) in
      let more = printed_answers was.report (drop j all) in
      let whole : first ++ more ≡ printed_answers was.report all = sym (lines_append was.report (take j all) (drop j all)) ∙ ap (printed_answers was.report) (take-append-drop j all) in
      subst (λ s. GrowsWithin a b s) (append_assoc (waiting out err was) first more ∙ ap (λ s. waiting out err was ++ s) whole) (longer a b (waiting out err was ++ first) more p)

  -- what was written so far
  pub part_so_far : (was now : FramePrinter W E) (old : ReaderState) (n : ℕ) → Prints out err was (take n (answers_left old)) now → GrowsWithin (out was.output) (out now.output) (waiting out err was ++ printed_answers was.report (answers_left old))
  part_so_far was now old n p = all_within (out was.output) (out now.output) was (answers_left old) n p.part

  -- and by a run that stopped
  pub part_more : (was mid now : FramePrinter W E) (old state : ReaderState) (n limit : ℕ) → state.settings ≡ old.settings → state.order ≡ old.order → HasPrinted was old n state.source.left mid →
      GrowsWithin (out mid.output) (out now.output) (waiting out err mid ++ printed_answers mid.report (take limit (answers_left state))) → GrowsWithin (out was.output) (out now.output) (waiting out err was ++ printed_answers was.report (answers_left old))
  part_more was mid now old state n limit settings order h part =
      let all = answers_left old in
      let first = printed_answers was.report (take n all) in
      let second = printed_answers was.report (take limit (drop n all)) in
      let there : answers_left state ≡ drop n all = answers_there old state n settings order h.within h.left_is in
      let part2 : GrowsWithin (out mid.output) (out now.output) (waiting out err mid ++ second) =
      subst (λ r. GrowsWithin (out mid.output) (out now.output) (waiting out err mid ++ printed_answers r (take limit (drop n all)))) h.prints.report
      (subst (λ (xs : List Answered). GrowsWithin (out mid.output) (out now.output) (waiting out err mid ++ printed_answers mid.report (take limit xs))) there part) in
      let whole : first ++ second ≡ printed_answers was.report (take (n + limit) all) = sym (lines_append was.report (take n all) (take limit (drop n all))) ∙ ap (printed_answers was.report) (sym (take-add n limit all)) in
      all_within (out was.output) (out now.output) was all (n + limit)
      (subst (λ s. GrowsWithin (out was.output) (out now.output) (waiting out err was ++ s)) whole
      (within_more (out was.output) (out mid.output) (out now.output) (waiting out err was) (waiting out err mid) first second h.prints.part h.prints.grown part2))
