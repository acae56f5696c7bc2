-- Visits of a type: what was read of it, and what the visitor makes of that.
use Rattle.std.proofs.Common.{◌≡◌, Bool, true, false, refl, ◌∙◌, ap}
use Rattle.std.specs.Prelude.{Result, Ok, Err, IsTrue, ◌≢◌}
use Rattle.perf_base.specs.Configuration.{Configuration}
use Rattle.perf_base.specs.Layout.{Parts, done, map_parts}
use Rattle.perf_base.specs.Order.{Order}
use Rattle.perf_base.specs.Took.{took_by_places}
use Rattle.perf_base.specs.declared.error.ErrorKind.{ErrorKind}
use Rattle.perf_base.specs.declared.error.ErrorKind.TheVariants.{OutOfMemory}
use Rattle.perf_base.proofs.Took.{then_take, places_took}
use Rattle.perf_buffers.specs.Buffer.{Source}
use Rattle.perf_reader.specs.Calls.{Call}
use Rattle.perf_reader.specs.ReaderState.{ReaderState, state_of}
use Rattle.perf_reader.specs.Reading.{Transition, Reads, ReadsPlain, ReadsInPlace}
use Rattle.perf_reader.specs.declared.reader.Reader.{Reader}
use Rattle.perf_reader.proofs.After.{places_after}
use Rattle.perf_records.specs.Metadata.{MetadataValue}
use Rattle.perf_records.specs.Records.{RecordValue}
use Rattle.perf_records.specs.Gives.{Event, event, Gives, IsSample}

module _ {I E : Type 0} {source : I → Source} {order : E → Order} where
  -- a call with a weaker contract
  pub of_said : {X : Type 0} {P Q : Transition X} {a b : Reader I E} {outcome : Result X ErrorKind} →
      (P (state_of source order a) outcome (state_of source order b) → Q (state_of source order a) outcome (state_of source order b)) →
      Call source order P a outcome b → Call source order Q a outcome b
  of_said less call = record {
    config = call.config;
    whole = call.whole;
    told = call.told;
    answer = λ t. less (call.answer t);
    keeps = call.keeps;
  }

module _ {I E O : Type 0} {source : I → Source} {order : E → Order} (gives : Event → O → Type 0) (m : MetadataValue) where
  -- a value that was read, and visited
  pub visited : {X A : Type 0} {a b : Reader I E} {content : X} {output : O} (p : Configuration → Parts A) (view : X → A) (is : A → RecordValue) (lent needs : Bool) →
      gives (event (is (view content)) lent m) output → (IsTrue (source a.input).told → IsTrue (source a.input).whole → IsTrue lent) →
      (IsSample (is (view content)) → needs ≡ true) → Call source order (Reads p view) a (Ok content) b →
      Call source order (Gives gives m (λ c. map_parts is (p c)) needs) a (Ok output) b
  visited {X} {A} {a} {b} {content} {output} p view is lent needs given lends sample call =
      let old : ReaderState = state_of source order a in
      let new : ReaderState = state_of source order b in record {
        config = call.config;
        whole = call.whole;
        told = call.told;
        answer = λ t. (
          is (view content),
          lent,
          given,
          places_after old.order (p old.settings) (λ v. done (is v)) old.source.left old.reads
              ∙ ap (then_take (λ v left k. took_by_places old.order (done (is v)) left k)) (call.answer t)
              ∙ places_took old.order (done (is (view content))) new.source.left new.reads,
          lends t,
          sample,
        );
        keeps = call.keeps;
      }

  -- one that was refused, and is not visited
  pub unvisited : {X A : Type 0} {a b : Reader I E} {e : ErrorKind} (p : Configuration → Parts A) (view : X → A) (is : A → RecordValue) (needs : Bool) →
      (IsTrue (source a.input).told → IsTrue (source a.input).whole → needs ≡ false → e ≢ OutOfMemory) → Call source order (Reads p view) a (Err e) b →
      Call source order (Gives gives m (λ c. map_parts is (p c)) needs) a (Err e) b
  unvisited {X} {A} {a} {b} {e} p view is needs none call =
      let old : ReaderState = state_of source order a in record {
        config = call.config;
        whole = call.whole;
        told = call.told;
        answer = λ t. (
          (λ kind. places_after old.order (p old.settings) (λ v. done (is v)) old.source.left old.reads
              ∙ ap (then_take (λ v left k. took_by_places old.order (done (is v)) left k)) (call.answer t kind)),
          none t,
        );
        keeps = call.keeps;
      }

  -- ---- types whose records take no memory

  -- a record of numbers
  pub saw_plain : {X A : Type 0} {a b : Reader I E} {content : X} {output : O} (p : Configuration → Parts A) (view : X → A) (is : A → RecordValue) →
      gives (event (is (view content)) true m) output → (IsSample (is (view content)) → ⊥) → Call source order (ReadsPlain p view) a (Ok content) b →
      Call source order (Gives gives m (λ c. map_parts is (p c)) false) a (Ok output) b
  saw_plain p view is given none call = visited p view is true false given (λ t w. refl) (λ is. absurd (none is)) (of_said (λ transition. transition.0) call)

  pub no_plain : {X A : Type 0} {a b : Reader I E} {e : ErrorKind} (p : Configuration → Parts A) (view : X → A) (is : A → RecordValue) →
      Call source order (ReadsPlain p view) a (Err e) b → Call source order (Gives gives m (λ c. map_parts is (p c)) false) a (Err e) b
  no_plain p view is call = unvisited p view is false (λ t w unwanted. (call.answer t).1) (of_said (λ transition. transition.0) call)

  -- one with byte strings, which are borrowed or not
  pub saw_borrowed : {X A : Type 0} {Borrowed : X → Type 0} {a b : Reader I E} {content : X} {output : O} (p : Configuration → Parts A) (view : X → A) (is : A → RecordValue) (lent : X → Bool) →
      gives (event (is (view content)) (lent content) m) output → (Borrowed content → IsTrue (lent content)) → (IsSample (is (view content)) → ⊥) →
      Call source order (ReadsInPlace p view Borrowed) a (Ok content) b →
      Call source order (Gives gives m (λ c. map_parts is (p c)) false) a (Ok output) b
  saw_borrowed {content} p view is lent given lends none call =
      visited p view is (lent content) false given (λ t w. lends ((call.answer t).1 w).0) (λ is. absurd (none is)) (of_said (λ transition. transition.0) call)

  pub no_borrowed : {X A : Type 0} {Borrowed : X → Type 0} {a b : Reader I E} {e : ErrorKind} (p : Configuration → Parts A) (view : X → A) (is : A → RecordValue) →
      Call source order (ReadsInPlace p view Borrowed) a (Err e) b → Call source order (Gives gives m (λ c. map_parts is (p c)) false) a (Err e) b
  no_borrowed p view is call = unvisited p view is false (λ t w unwanted. ((call.answer t).1 w).1) (of_said (λ transition. transition.0) call)
