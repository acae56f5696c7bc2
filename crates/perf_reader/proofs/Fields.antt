-- Numbers from the bytes that were read, and fields one after another.
use Rattle.std.proofs.Common.{◌≡◌, ℕ, List, Bool, true, false, refl, sym, ◌∙◌, ap, subst, arith}
use Rattle.std.specs.Prelude.{Option, Some, None, Result, Ok, Err}
use Rattle.perf_base.specs.Configuration.{Configuration}
use Rattle.perf_base.specs.Configured.{endian_of}
use Rattle.perf_base.specs.Layout.{Shape, ShapeValue, Width, number, optional, byte_string, bytes_in, number_of, Parts, done, part, check}
use Rattle.perf_base.specs.Order.{Order}
use Rattle.perf_base.specs.Refusals.{NeedsNoMemory}
use Rattle.perf_base.specs.Took.{took, take_parts, took_by_places}
use Rattle.perf_base.specs.declared.error.ErrorKind.{ErrorKind}
use Rattle.perf_base.specs.declared.error.ErrorKind.TheVariants.{InvalidRecord}
use Rattle.perf_base.proofs.Took.{places_took, then_take}
use Rattle.perf_buffers.specs.Buffer.{Source}
use Rattle.perf_reader.specs.Calls.{Call}
use Rattle.perf_reader.specs.ReaderState.{ReaderState, config_of, state_of}
use Rattle.perf_reader.specs.Reading.{Transition, AnswersRun, Reads, ReadsPlain, ReadsOne}
use Rattle.perf_reader.specs.declared.reader.Reader.{Reader}
use Rattle.perf_reader.proofs.After.{plain}
use Rattle.perf_reader.proofs.Steps.{number_run, option_there, option_absent}

-- what reads the bytes of a number, a number, and one that may be absent
abbrev pub ReadsBytes : Width → Transition (List ℕ)
ReadsBytes w = ReadsOne (byte_string (bytes_in w)) (λ xs. xs)

abbrev pub ReadsWhole : Width → Transition ℕ
ReadsWhole w = ReadsOne (number w) (λ n. n)

abbrev pub ReadsOptional : Bool → Width → Transition (Option ℕ)
ReadsOptional present w = ReadsOne (optional present w) (λ n. n)

module _ {I E : Type 0} {source : I → Source} {order : E → Order} where
  module _ {a b : Reader I E} where
    -- a number is made of its bytes
    pub number_read : (w : Width) (xs : List ℕ) (x : ℕ) (k : E) → k ≡ endian_of (config_of b) → x ≡ number_of (order k) w xs → Call source order (ReadsBytes w) a (Ok xs) b → Call source order (ReadsWhole w) a (Ok x) b
    number_read w xs x k at made call =
        let old : ReaderState = state_of source order a in
        let new : ReaderState = state_of source order b in
        let same : number_of old.order w xs ≡ x = ap (λ i. number_of (order i) w xs) (sym (at ∙ ap endian_of call.config)) ∙ sym made in record {
          config = call.config;
          whole = call.whole;
          told = call.told;
          answer = λ t.
              number_run old.order w old.source.left old.reads
              ∙ ap (then_take (λ ys left m. took (number_of old.order w ys) left m)) (call.answer t)
              ∙ ap (λ k. took k new.source.left new.reads) same;
          keeps = call.keeps;
        }

    -- its bytes were refused
    pub number_refused : (w : Width) (e : ErrorKind) → Call source order (ReadsBytes w) a (Err e) b → Call source order (ReadsWhole w) a (Err e) b
    number_refused w e call =
        let old : ReaderState = state_of source order a in record {
          config = call.config;
          whole = call.whole;
          told = call.told;
          answer = λ t kind. number_run old.order w old.source.left old.reads ∙ ap (then_take (λ ys left m. took (number_of old.order w ys) left m)) (call.answer t kind);
          keeps = call.keeps;
        }

    -- a number that may be absent is present
    pub present_read : (present : Bool) (w : Width) (x : ℕ) → present ≡ true → Call source order (ReadsWhole w) a (Ok x) b → Call source order (ReadsOptional present w) a (Ok (Some x)) b
    present_read present w x there call =
        let old : ReaderState = state_of source order a in record {
          config = call.config;
          whole = call.whole;
          told = call.told;
          answer = λ t. option_there old.order w present old.source.left old.reads there ∙ ap (then_take (λ n left m. took (Some n) left m)) (call.answer t);
          keeps = call.keeps;
        }

    -- it is present, and was refused
    pub present_refused : (present : Bool) (w : Width) (e : ErrorKind) → present ≡ true → Call source order (ReadsWhole w) a (Err e) b → Call source order (ReadsOptional present w) a (Err e) b
    present_refused present w e there call =
        let old : ReaderState = state_of source order a in record {
          config = call.config;
          whole = call.whole;
          told = call.told;
          answer = λ t kind. option_there old.order w present old.source.left old.reads there ∙ ap (then_take (λ n left m. took (Some n) left m)) (call.answer t kind);
          keeps = call.keeps;
        }

    -- a part was refused
    pub part_stops : {X Y B : Type 0} {show : Y → B} (shape : Shape) (view : X → ShapeValue shape) (k : Configuration → ShapeValue shape → Parts B) (e : ErrorKind) →
        Call {X = X} source order (ReadsOne shape view) a (Err e) b → Call source order (Reads (λ s. part shape (k s)) show) a (Err e) b
    part_stops {X} {Y} {B} {show} shape view k e call =
        let old : ReaderState = state_of source order a in record {
          config = call.config;
          whole = call.whole;
          told = call.told;
          answer = λ t kind.
              places_took old.order (part shape (k old.settings)) old.source.left old.reads
              ∙ ap (then_take (λ v left m. take_parts old.order (k old.settings v) left m)) (call.answer t kind);
          keeps = call.keeps;
        }

    -- a part was refused, whatever would have been made of it
    pub refused_alike : {X Y : Type 0} (shape : Shape) (view : X → ShapeValue shape) (show : Y → ShapeValue shape) (e : ErrorKind) → Call {X = X} source order (ReadsOne shape view) a (Err e) b → Call {X = Y} source order (ReadsOne shape show) a (Err e) b
    refused_alike {X} {Y} shape view show e call = record {
      config = call.config;
      whole = call.whole;
      told = call.told;
      answer = call.answer;
      keeps = call.keeps;
    }

    -- a value that is seen as one number
    pub value_read : {X : Type 0} (w : Width) (view : X → ℕ) (x : X) (n : ℕ) → view x ≡ n → Call source order (ReadsWhole w) a (Ok n) b → Call source order (ReadsPlain (λ _. part (number w) done) view) a (Ok x) b
    value_read {X} w view x n seen call =
        let old : ReaderState = state_of source order a in
        let new : ReaderState = state_of source order b in record {
          config = call.config;
          whole = call.whole;
          told = call.told;
          answer = λ t. (
            places_took old.order (part (number w) done) old.source.left old.reads
                ∙ ap (then_take (λ v left m. took v left m)) (call.answer t)
                ∙ ap (λ k. took k new.source.left new.reads) (sym seen),
            tt,
          );
          keeps = call.keeps;
        }

    -- its number was refused
    pub value_refused : {X : Type 0} (w : Width) (view : X → ℕ) (e : ErrorKind) → NeedsNoMemory {A = ℕ} (Err e) → Call source order (ReadsWhole w) a (Err e) b → Call source order (ReadsPlain (λ _. part (number w) done) view) a (Err e) b
    value_refused {X} w view e none call = plain (λ _. part (number w) done) view (λ _. none) (part_stops (number w) (λ n. n) (λ _. done) e call)

  -- a number that may be absent is absent
  pub absent_read : {a : Reader I E} (present : Bool) (w : Width) → present ≡ false → Call source order (ReadsOptional present w) a (Ok None) a
  absent_read {a} present w there =
      let old : ReaderState = state_of source order a in record {
        config = refl;
        whole = refl;
        told = λ t. t;
        answer = λ t. option_absent old.order w present old.source.left old.reads there;
        keeps = λ start k. k;
      }

  -- a check holds, and what follows it is read
  pub check_holds : {Y B : Type 0} {show : Y → B} {a b : Reader I E} {outcome : Result Y ErrorKind} (holds : Bool) (kind : ErrorKind) (p : Configuration → Parts B) → holds ≡ true →
      Call source order (Reads p show) a outcome b → Call source order (Reads (λ s. check holds kind (p s)) show) a outcome b
  check_holds {Y} {B} {show} {a} {b} {outcome} holds kind p is call =
      let old : ReaderState = state_of source order a in
      let new : ReaderState = state_of source order b in record {
        config = call.config;
        whole = call.whole;
        told = call.told;
        answer = λ t.
            let same : took_by_places old.order (p old.settings) old.source.left old.reads ≡ took_by_places old.order (check holds kind (p old.settings)) old.source.left old.reads =
            places_took old.order (p old.settings) old.source.left old.reads
            ∙ sym (places_took old.order (check holds kind (p old.settings)) old.source.left old.reads ∙ ap (λ i. take_parts old.order (check i kind (p old.settings)) old.source.left old.reads) is) in
            subst (λ r. AnswersRun show r outcome new) same (call.answer t);
        keeps = call.keeps;
      }

  -- a check does not hold
  pub check_fails : {Y B : Type 0} {show : Y → B} {a : Reader I E} (holds : Bool) (p : Configuration → Parts B) → holds ≡ false → Call source order (Reads (λ s. check holds InvalidRecord (p s)) show) a (Err InvalidRecord) a
  check_fails {Y} {B} {show} {a} holds p is =
      let old : ReaderState = state_of source order a in record {
        config = refl;
        whole = refl;
        told = λ t. t;
        answer = λ t kind.
            places_took old.order (check holds InvalidRecord (p old.settings)) old.source.left old.reads
            ∙ ap (λ i. take_parts old.order (check i InvalidRecord (p old.settings)) old.source.left old.reads) is;
        keeps = λ start k. record {
          buffer = k.buffer;
          fault = λ x. cc;
          cost = λ t. let n = k.cost t in (n.0, omega (arith, n.1));
          place = k.place;
        };
      }
