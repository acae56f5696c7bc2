-- Parts one after another, and calls that read them in this order.
use Rattle.std.proofs.Common.{◌≡◌, ℕ, List, true, false, refl, sym, ◌∙◌, ap, subst}
use Rattle.std.specs.Prelude.{Result, Ok, Err, IsTrue, IfOk, IsErr}
use Rattle.std.specs.Result.{IsErrAnd}
use Rattle.perf_base.specs.Configuration.{Configuration}
use Rattle.perf_base.specs.Configured.{configuration_of, endian_of}
use Rattle.perf_base.specs.Layout.{ShapeValue, Shape, padding, Parts, done, part, check, ◌>>=◌}
use Rattle.perf_base.specs.Order.{Order}
use Rattle.perf_base.specs.Took.{Took, took, quit, one_took, take_parts, took_by_places}
use Rattle.perf_base.specs.Refusals.{NeedsNoMemory}
use Rattle.perf_base.specs.declared.error.ErrorKind.{ErrorKind}
use Rattle.perf_base.proofs.Took.{places_took, then_take}
use Rattle.perf_buffers.specs.Buffer.{Source}
use Rattle.perf_reader.specs.Calls.{Call}
use Rattle.perf_reader.specs.ReaderState.{ReaderState, state_of}
use Rattle.perf_reader.specs.Reading.{AnswersRun, Reads, ReadsPlain, ReadsInPlace, ReadsOne}
use Rattle.perf_reader.specs.declared.reader.Reader.{Reader}

-- what follows, if both do the same
pub then_same : {A B : Type 0} (f g : A → List ℕ → ℕ → Took B) → ((v : A) (left : List ℕ) (m : ℕ) → f v left m ≡ g v left m) → (r : Took A) → then_take f r ≡ then_take g r
then_same f g same (took v left m) = same v left m
then_same f g same (quit e left m) = refl

-- parts, and then those that follow from their value, one after another
pub take_after : {A B : Type 0} (o : Order) (p : Parts A) (f : A → Parts B) (bytes : List ℕ) (n : ℕ) →
    take_parts o (p >>= f) bytes n ≡ then_take (λ v left m. take_parts o (f v) left m) (take_parts o p bytes n)
take_after o (done v) f bytes n = refl
take_after o (check true e p) f bytes n = take_after o p f bytes n
take_after o (check false e p) f bytes n = refl
take_after {A} {B} o (part shape k) f bytes n = go (λ v left m. take_after o (k v) f left m) (one_took o shape bytes n)
  where
    go : ((v : ShapeValue shape) (left : List ℕ) (m : ℕ) → take_parts o (k v >>= f) left m ≡ then_take (λ v left m. take_parts o (f v) left m) (take_parts o (k v) left m)) → (r : Took (ShapeValue shape)) →
        ◌≡◌ {A = Took B} (elim r [ took v left m ↦ take_parts o (k v >>= f) left m | quit e left m ↦ quit e left m ])
        (then_take (λ v left m. take_parts o (f v) left m) (elim r as (λ r. Took A) [ took v left m ↦ take_parts o (k v) left m | quit e left m ↦ quit e left m ]))
    go again (took v left m) = again v left m
    go again (quit e left m) = refl

-- parts, and then those that follow from their value
pub places_after : {A B : Type 0} (o : Order) (p : Parts A) (f : A → Parts B) (bytes : List ℕ) (n : ℕ) →
    took_by_places o (p >>= f) bytes n ≡ then_take (λ v left m. took_by_places o (f v) left m) (took_by_places o p bytes n)
places_after o p f bytes n =
    places_took o (p >>= f) bytes n
    ∙ take_after o p f bytes n
    ∙ then_same (λ v left m. take_parts o (f v) left m) (λ v left m. took_by_places o (f v) left m) (λ v left m. sym (places_took o (f v) left m)) (take_parts o p bytes n)
    ∙ ap (then_take (λ v left m. took_by_places o (f v) left m)) (sym (places_took o p bytes n))

-- ---- calls

-- an error that a `?` passes on as it is
pub came_up : {X E : Type 0} (r : Result X E) (e : E) → IsErr r × IsErrAnd r (λ x. x ≡ e) → r ≡ Err e
came_up (Ok x) e h = cc
came_up (Err x) e h = ap Err h.1

module _ {I E : Type 0} {source : I → Source} {order : E → Order} where
  -- a call that succeeded, and one of the parts that follow from its value
  pub call_after : {X Y A B : Type 0} {view : X → A} {show : Y → B} {a b c : Reader I E} {x : X} {outcome : Result Y ErrorKind} (p : Configuration → Parts A) (f : Configuration → A → Parts B) →
      Call source order (Reads p view) a (Ok x) b → Call source order (Reads (λ s. f s (view x)) show) b outcome c → Call source order (Reads (λ s. p s >>= f s) show) a outcome c
  call_after {X} {Y} {A} {B} {view} {show} {a} {b} {c} {x} {outcome} p f first next =
      let old : ReaderState = state_of source order a in
      let mid : ReaderState = state_of source order b in
      let new : ReaderState = state_of source order c in record {
        config = next.config ∙ first.config;
        whole = next.whole ∙ first.whole;
        told = λ t. next.told (first.told t);
        answer = λ t.
            let same : took_by_places mid.order (f mid.settings (view x)) mid.source.left mid.reads ≡ took_by_places old.order (p old.settings >>= f old.settings) old.source.left old.reads =
            ap (λ k. took_by_places (order (endian_of k)) (f (configuration_of k) (view x)) mid.source.left mid.reads) first.config
            ∙ sym (places_after old.order (p old.settings) (f old.settings) old.source.left old.reads
            ∙ ap (then_take (λ v left m. took_by_places old.order (f old.settings v) left m)) (first.answer t)) in
            subst (λ r. AnswersRun show r outcome new) same (next.answer (first.told t));
        keeps = λ start k. next.keeps start (first.keeps start k);
      }

  -- a call that was refused
  pub call_stops : {X Y A B : Type 0} {view : X → A} {show : Y → B} {a b : Reader I E} {e : ErrorKind} (p : Configuration → Parts A) (f : Configuration → A → Parts B) →
      Call source order (Reads p view) a (Err e) b → Call source order (Reads (λ s. p s >>= f s) show) a (Err e) b
  call_stops {X} {Y} {A} {B} {view} {show} {a} {b} {e} p f first =
      let old : ReaderState = state_of source order a in record {
        config = first.config;
        whole = first.whole;
        told = first.told;
        answer = λ t kind.
            places_after old.order (p old.settings) (f old.settings) old.source.left old.reads
            ∙ ap (then_take (λ v left m. took_by_places old.order (f old.settings v) left m)) (first.answer t kind);
        keeps = first.keeps;
      }

  -- nothing is read, for a value
  pub call_none : {Y B : Type 0} {show : Y → B} {a : Reader I E} {y : Y} → Call source order (Reads (λ _. done (show y)) show) a (Ok y) a
  call_none {Y} {B} {show} {a} {y} =
      let old : ReaderState = state_of source order a in record {
        config = refl;
        whole = refl;
        told = λ t. t;
        answer = λ t. places_took old.order (done (show y)) old.source.left old.reads;
        keeps = λ start k. k;
      }

  -- a part that was read, and the parts that follow from its value
  pub part_after : {X Y B : Type 0} {show : Y → B} {a b c : Reader I E} {x : X} {outcome : Result Y ErrorKind} (shape : Shape) (view : X → ShapeValue shape) (k : Configuration → ShapeValue shape → Parts B) →
      Call source order (ReadsOne shape view) a (Ok x) b → Call source order (Reads (λ s. k s (view x)) show) b outcome c → Call source order (Reads (λ s. part shape (k s)) show) a outcome c
  part_after {X} {Y} {B} {show} {a} {b} {c} {x} {outcome} shape view k first next =
      call_after {view = view} {show = show} {x = x} (λ _. part shape done) k (record {
        config = first.config;
        whole = first.whole;
        told = first.told;
        answer = λ t.
            let old : ReaderState = state_of source order a in
            places_took old.order (part shape done) old.source.left old.reads ∙ ap (then_take (λ v left m. took v left m)) (first.answer t);
        keeps = first.keeps;
      }) next

  -- a call for which no memory is taken, and one of which that is not stated
  pub plain : {Y B : Type 0} {a b : Reader I E} {outcome : Result Y ErrorKind} (p : Configuration → Parts B) (show : Y → B) →
      (IsTrue (source a.input).told → NeedsNoMemory outcome) → Call source order (Reads p show) a outcome b → Call source order (ReadsPlain p show) a outcome b
  plain {Y} {B} {a} {b} {outcome} p show none call = record {
    config = call.config;
    whole = call.whole;
    told = call.told;
    answer = λ t. (call.answer t, none t);
    keeps = call.keeps;
  }

  pub of_plain : {Y B : Type 0} {a b : Reader I E} {outcome : Result Y ErrorKind} (p : Configuration → Parts B) (show : Y → B) → Call source order (ReadsPlain p show) a outcome b → Call source order (Reads p show) a outcome b
  of_plain {Y} {B} {a} {b} {outcome} p show call = record {
    config = call.config;
    whole = call.whole;
    told = call.told;
    answer = λ t. (call.answer t).0;
    keeps = call.keeps;
  }

  -- a call that copies nothing from a whole buffer
  pub lent : {Y B : Type 0} {a b : Reader I E} {outcome : Result Y ErrorKind} (p : Configuration → Parts B) (show : Y → B) (borrowed : Y → Type 0) →
      (IsTrue (source a.input).told → IsTrue (source a.input).whole → IfOk outcome borrowed × NeedsNoMemory outcome) → Call source order (Reads p show) a outcome b →
      Call source order (ReadsInPlace p show borrowed) a outcome b
  lent {Y} {B} {a} {b} {outcome} p show borrowed lends call = record {
    config = call.config;
    whole = call.whole;
    told = call.told;
    answer = λ t. (call.answer t, lends t);
    keeps = call.keeps;
  }

  -- padding of a given length
  pub padded : {a b : Reader I E} {outcome : Result (Unit {0}) ErrorKind} (n k : ℕ) → n ≡ k → Call {X = Unit {0}} source order (ReadsOne (padding n) (λ _. tt)) a outcome b → Call {X = Unit {0}} source order (ReadsOne (padding k) (λ _. tt)) a outcome b
  padded {a} {b} {outcome} n k same call = subst (λ i. Call {X = Unit {0}} source order (ReadsOne (padding i) (λ _. tt)) a outcome b) same call
