-- Parts of which a call refuses one, or a check.
use Rattle.std.proofs.Common.{◌≡◌, ℕ, List, Bool, false, refl, sym, ◌∙◌, ap, subst, arith}
use Rattle.std.specs.Prelude.{Result, Err, Option, Some, None}
use Rattle.perf_base.specs.Configuration.{Configuration}
use Rattle.perf_base.specs.Configured.{configuration_of}
use Rattle.perf_base.specs.Layout.{ShapeValue, Shape, Width, words, optional, Parts, done, part, check}
use Rattle.perf_base.specs.Order.{Order}
use Rattle.perf_base.specs.Took.{took, take_parts}
use Rattle.perf_base.proofs.Took.{places_took, then_take}
use Rattle.perf_base.specs.declared.error.ErrorKind.{ErrorKind}
use Rattle.perf_base.specs.declared.error.ErrorKind.TheVariants.{InvalidRecord, OutOfMemory}
use Rattle.perf_buffers.specs.Buffer.{Source}
use Rattle.perf_reader.specs.Calls.{Call}
use Rattle.perf_reader.specs.ReaderState.{ReaderState, state_of}
use Rattle.perf_reader.specs.Reading.{Reads, ReadsOne, CallInvariant}
use Rattle.perf_reader.specs.declared.reader.Reader.{Reader}
use Rattle.perf_reader.proofs.After.{call_stops}
use Rattle.perf_counters.proofs.Readings.{call_starves}

-- nothing was read since, and a check was refused
invalid : (start m : ReaderState) → CallInvariant start None m → CallInvariant start (Some InvalidRecord) m
invalid start m h = record {
  buffer = (h.buffer.0, h.buffer.1, h.buffer.2, h.buffer.3);
  fault = λ x. cc;
  cost = λ t. let c = h.cost t in (c.0, omega (arith, c.1));
  place = h.place;
}

module _ {I E : Type 0} {source : I → Source} {order : E → Order} where
  -- the first part was refused, and so are all of them
  pub part_refused : {X Y B : Type 0} {show : Y → B} {a b : Reader I E} {e : ErrorKind} (shape : Shape) (view : X → ShapeValue shape) (k : Configuration → ShapeValue shape → Parts B) →
      Call {X = X} source order (ReadsOne shape view) a (Err e) b → Call {X = Y} source order (Reads (λ s. part shape (k s)) show) a (Err e) b
  part_refused {X} {Y} {B} {show} {a} {b} {e} shape view k call =
      let old : ReaderState = state_of source order a in record {
        config = call.config;
        whole = call.whole;
        told = call.told;
        answer = λ t kind.
            places_took old.order (part shape (k old.settings)) old.source.left old.reads
            ∙ ap (then_take (λ v left m. take_parts old.order (k old.settings v) left m)) (call.answer t kind);
        keeps = call.keeps;
      }

  -- a check that does not hold
  pub check_refused : {Y B : Type 0} {show : Y → B} {a : Reader I E} (t : Configuration → Bool) (k : Configuration → Parts B) →
      t (configuration_of a.config) ≡ false → Call {X = Y} source order (Reads (λ s. check (t s) InvalidRecord (k s)) show) a (Err InvalidRecord) a
  check_refused {Y} {B} {show} {a} t k fails =
      let old : ReaderState = state_of source order a in record {
        config = refl;
        whole = refl;
        told = λ h. h;
        answer = λ h kind.
            places_took old.order (check (t old.settings) InvalidRecord (k old.settings)) old.source.left old.reads
            ∙ ap (λ b. take_parts old.order (check b InvalidRecord (k old.settings)) old.source.left old.reads) fails;
        keeps = λ start h. invalid start old h;
      }

  -- n numbers are m numbers, if n is m
  pub numbers_many : {X : Type 0} {view : X → List ℕ} {a b : Reader I E} {outcome : Result X ErrorKind} (n m : ℕ) →
      n ≡ m → Call source order (ReadsOne (words n) view) a outcome b → Call source order (ReadsOne (words m) view) a outcome b
  numbers_many {X} {view} {a} {b} {outcome} n m same call =
      subst (λ i. Call source order (ReadsOne (words i) view) a outcome b) same call

  -- a number that may be absent was refused
  pub option_refused : {Y B : Type 0} {show : Y → B} {a b : Reader I E} {e : ErrorKind} (w : Width) (t : Configuration → Bool) (present : Bool) (k : Configuration → Option ℕ → Parts B) →
      t (configuration_of a.config) ≡ present → Call {X = Option ℕ} source order (ReadsOne (optional present w) (λ o. o)) a (Err e) b →
      Call {X = Y} source order (Reads (λ s. part (optional (t s) w) (k s)) show) a (Err e) b
  option_refused {Y} {B} {show} {a} {b} {e} w t present k same first =
      call_stops {X = Option ℕ} {view = λ o. o} {show = show} (λ s. part (optional (t s) w) done) k (record {
        config = first.config;
        whole = first.whole;
        told = first.told;
        answer = λ h kind.
            let old : ReaderState = state_of source order a in
            places_took old.order (part (optional (t old.settings) w) done) old.source.left old.reads
            ∙ ap (λ i. take_parts old.order (part (optional i w) done) old.source.left old.reads) same
            ∙ ap (then_take (λ v left m. took v left m)) (first.answer h kind);
        keeps = first.keeps;
      })

  -- a call that was refused, whatever it would have shown
  pub refused_alike : {X Y : Type 0} {a b : Reader I E} {e : ErrorKind} (shape : Shape) (view : X → ShapeValue shape) (show : Y → ShapeValue shape) →
      Call {X = X} source order (ReadsOne shape view) a (Err e) b → Call {X = Y} source order (ReadsOne shape show) a (Err e) b
  refused_alike shape view show call = record {
    config = call.config;
    whole = call.whole;
    told = call.told;
    answer = λ t kind. call.answer t kind;
    keeps = call.keeps;
  }

  -- there was no memory for a part, and nothing was read
  pub part_starves : {Y : Type 0} {a : Reader I E} (shape : Shape) (show : Y → ShapeValue shape) (e : ErrorKind) → e ≡ OutOfMemory → Call {X = Y} source order (ReadsOne shape show) a (Err e) a
  part_starves {Y} {a} shape show e is =
      let none : Call {X = Y} source order (Reads (λ _. part shape done) show) a (Err OutOfMemory) a = call_starves (λ _. part shape done) in
      let one : Call {X = Y} source order (ReadsOne shape show) a (Err OutOfMemory) a = record {
        config = none.config;
        whole = none.whole;
        told = none.told;
        answer = λ t kind. cc;
        keeps = none.keeps;
      } in
      subst (λ k. Call {X = Y} source order (ReadsOne shape show) a (Err k) a) (sym is) one
