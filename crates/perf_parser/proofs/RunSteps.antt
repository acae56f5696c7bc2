-- A run of steps: from one step to the next, and how it ends.
use Rattle.std.proofs.Common.{◌≡◌, ℕ, ◌+◌, ◌<◌, Bool, List, [], ◌∷◌, ◌++◌, length, take, drop, arith, refl, sym, ◌∙◌, ap, subst, true, false, Ok, Err, None, Some}
use Rattle.std.specs.Prelude.{IsTrue, Option, sum_by, unwrap_or}
use Rattle.std.proofs.lemmas.List.{length-append}
use Rattle.std.proofs.lemmas.List.Sums.{sum_by-append}
use Rattle.perf_base.specs.Configuration.{Configuration}
use Rattle.perf_base.specs.Order.{Order}
use Rattle.perf_base.specs.declared.error.ErrorKind.{ErrorKind}
use Rattle.perf_base.specs.declared.error.ErrorKind.TheVariants.{OutOfMemory}
use Rattle.perf_reader.specs.ReaderState.{ReaderState}
use Rattle.perf_reader.specs.declared.header.Stop.{Stop}
use Rattle.perf_records.specs.Frames.{frame_length, first_frames}
use Rattle.perf_parser.specs.FrameRuns.{went_on}
use Rattle.perf_parser.specs.Steps.{StepKind, HasTaken, TakesNext, TakesStep, TakesSteps, IsEndOf, reads_of_first}
use Rattle.perf_parser.specs.declared.run.RunEnd.{RunEnd}
use Rattle.perf_parser.specs.declared.run.RunEnd.TheVariants as end
use Rattle.perf_parser.proofs.RunEnds.{run_none, run_ends, run_limit, run_limit_back, end_kind}
use Rattle.perf_parser.proofs.Lists.{one_frame_more, after_on, ends_with, ends_between, counts_more}

module _ {S : Type 0} (kind : StepKind S) (start : ReaderState) where
  -- before the first step
  pub taken_none : (first : S) → HasTaken kind start 0 start first
  taken_none first = record { settings = refl; order = refl; keeps = run_none start (kind.refusals first); after = λ told. record { there = refl; left_is = refl }; reads = λ told. omega arith }

  -- after one more
  pub taken_more : (here new : ReaderState) (was now : S) (k : ℕ) (go : Bool) → HasTaken kind start k here was → TakesStep kind here was (Ok go) new now → new.settings ≡ start.settings → new.order ≡ start.order → HasTaken kind start (k + 1) new now
  taken_more here new was now k go taken step settings order =
      let c : Configuration = start.settings in let o : Order = start.order in let bytes : List ℕ = start.source.left in let left : List ℕ = here.source.left in
      let next : List ℕ = take (frame_length o left) left in
      let f : List ℕ → ℕ = kind.reads c o in
      let takes : IsTrue start.source.told → TakesNext kind c o here new = λ told.
      subst (λ (x : Configuration). TakesNext kind x o here new) taken.settings (subst (λ (x : Order). TakesNext kind here.settings x here new) taken.order (step.takes (taken.keeps.buffer.3 told))) in
      let grown : IsTrue start.source.told → first_frames o (k + 1) bytes ≡ first_frames o k bytes ++ next ∷ [] = λ told. one_frame_more start here k (taken.after told) (takes told).0 in
      record {
        settings = settings;
        order = order;
        keeps = run_limit_back start new (kind.refusals now) (step.keeps start taken.keeps);
        after = λ told. let a = taken.after told in record {
          there = ap length (grown told) ∙ length-append (first_frames o k bytes) (next ∷ []) ∙ ap (λ m. m + 1) a.there;
          left_is = (takes told).1 ∙ ap (λ xs. drop (frame_length o xs) xs) a.left_is ∙ sym (after_on o k bytes);
        };
        reads = λ told.
            let sum : reads_of_first kind start (k + 1) ≡ reads_of_first kind start k + sum_by f (next ∷ []) = ap (sum_by f) (grown told) ∙ sum_by-append f (first_frames o k bytes) (next ∷ []) in
            let one : sum_by f (next ∷ []) ≡ f next = omega arith in
            omega (arith, (takes told).2, taken.reads told, sum, one);
      }

  -- how a run ends that a step stopped
  pub steps_stop : (first : S) (limit : ℕ) (here new : ReaderState) (was now : S) (k : ℕ) (s : Stop) (e : RunEnd) → k < limit → HasTaken kind start k here was → kind.so_far start first k true was → TakesStep kind here was (Err s) new now → IsEndOf s e →
      TakesSteps kind start first limit k (Some e) new now
  steps_stop first limit here new was now k s e below taken so_far step is =
      let tell = taken.keeps.buffer.3 in record {
        within = omega arith;
        so_far = step.same start first k so_far;
        there = λ told. (taken.after told).there;
        ends = λ told. ends_with start here new limit k s e (taken.after told) below taken.order (step.stop (tell told)) is;
        reads = λ told. counts_more start here new (reads_of_first kind start k) s e (taken.reads told) ((step.keeps here (run_none here (kind.refusals was))).cost (tell told)).0 (step.stop (tell told)) is;
        memory = λ told whole refused.
            let m = step.memory (tell told) (taken.keeps.buffer.0 ∙ whole) in
            (m.1 (end_kind s e is refused), ends_between start here new k s e (taken.after told) taken.order m.0 is refused);
        keeps = run_ends start new (kind.refusals now) s e is (step.keeps start taken.keeps);
      }

  -- one that came to its limit
  pub steps_limit : (first : S) (limit : ℕ) (new : ReaderState) (now : S) → HasTaken kind start limit new now → kind.so_far start first limit true now → TakesSteps kind start first limit limit (Some end.Limit) new now
  steps_limit first limit new now taken so_far = record {
    within = omega arith;
    so_far = so_far;
    there = λ told. (taken.after told).there;
    ends = λ told. (refl, (taken.after told).left_is);
    reads = taken.reads;
    memory = λ told whole refused. let never : ◌≡◌ {A = Option ErrorKind} None (Some OutOfMemory) = refused in absurd (cc);
    keeps = run_limit start new (kind.refusals now) taken.keeps;
  }

  -- one that its step ended
  pub steps_end : (first : S) (limit : ℕ) (new : ReaderState) (now : S) (k : ℕ) → k < limit → HasTaken kind start (k + 1) new now → kind.so_far start first (k + 1) false now → TakesSteps kind start first limit (k + 1) None new now
  steps_end first limit new now k below taken so_far = record {
    within = omega arith;
    so_far = so_far;
    there = λ told. (taken.after told).there;
    ends = λ told. (omega arith, omega arith, (taken.after told).left_is);
    reads = taken.reads;
    memory = λ told whole refused. let never : ◌≡◌ {A = Option ErrorKind} None (Some OutOfMemory) = refused in absurd (cc);
    keeps = run_limit start new (kind.refusals now) taken.keeps;
  }

-- a run that its steps cannot end
pub steps_all : {S : Type 0} {kind : StepKind S} {start : ReaderState} {first : S} {limit k n : ℕ} {e : Option RunEnd} {x : RunEnd} {new : ReaderState} {now : S} → n ≡ k → went_on e ≡ true → x ≡ unwrap_or e end.Limit → TakesSteps kind start first limit k e new now →
    TakesSteps kind start first limit n (Some x) new now
steps_all {e = None} count goes is run = let never : false ≡ true = goes in absurd (cc)
steps_all {kind = kind} {start = start} {first = first} {limit = limit} {n = n} {e = Some y} {x = x} {new = new} {now = now} count goes is run =
    subst (λ (y : RunEnd). TakesSteps kind start first limit n (Some y) new now) (sym is) (subst (λ (m : ℕ). TakesSteps kind start first limit m (Some y) new now) (sym count) run)
