-- Calls of a reader that are missing in the lemmas of `perf_reader` on parts one after another.
use Rattle.std.proofs.Common.{◌≡◌, ℕ, List, Bool, refl, sym, ◌∙◌, subst, ap, arith}
use Rattle.std.specs.Prelude.{Result, Err, None, Some}
use Rattle.perf_base.specs.Configuration.{Configuration}
use Rattle.perf_base.specs.Configured.{configuration_of}
use Rattle.perf_base.specs.Layout.{Parts, byte_string}
use Rattle.perf_base.specs.Order.{Order}
use Rattle.perf_base.specs.Took.{took_by_places}
use Rattle.perf_base.specs.declared.error.ErrorKind.{ErrorKind}
use Rattle.perf_base.specs.declared.error.ErrorKind.TheVariants.{OutOfMemory}
use Rattle.perf_buffers.specs.Buffer.{Source}
pub use Rattle.perf_reader.proofs.After.{came_up}
use Rattle.perf_reader.specs.Calls.{Call}
use Rattle.perf_reader.specs.ReaderState.{ReaderState, state_of}
use Rattle.perf_reader.specs.Reading.{AnswersRun, Reads, ReadsOne, CallInvariant}
use Rattle.perf_reader.specs.declared.reader.Reader.{Reader}
use Rattle.perf_words.specs.Bits.{has_bit}

-- a bit of a word, as reported by the set of flags that is that word
pub bit_is : (bit flags word : ℕ) (has test : Bool) → flags ≡ word → has ≡ test → test ≡ has_bit flags bit → has_bit word bit ≡ has
bit_is bit flags word has test same is means = ap (λ w. has_bit w bit) (sym same) ∙ (sym means ∙ sym is)

starving : (start m : ReaderState) → CallInvariant start None m → CallInvariant start (Some OutOfMemory) m
starving start m h = record {
  buffer = (h.buffer.0, h.buffer.1, h.buffer.2, h.buffer.3);
  fault = λ x. cc;
  cost = λ t. let c = h.cost t in (c.0, omega (arith, c.1));
  place = h.place;
}

module _ {I E : Type 0} {source : I → Source} {order : E → Order} where
  -- the allocation failed, and nothing more is read
  pub call_starves : {Y B : Type 0} {show : Y → B} {a : Reader I E} (p : Configuration → Parts B) →
      Call source order (Reads p show) a (Err OutOfMemory) a
  call_starves {Y} {B} {show} {a} p = record {
    config = refl;
    whole = refl;
    told = λ t. t;
    answer = λ t kind. cc;
    keeps = λ start h. starving start _ h;
  }

  -- n bytes are k bytes, if n is k
  pub bytes_many : {X : Type 0} {view : X → List ℕ} {a b : Reader I E} {outcome : Result X ErrorKind} (n k : ℕ) →
      n ≡ k → Call source order (ReadsOne (byte_string n) view) a outcome b →
      Call source order (ReadsOne (byte_string k) view) a outcome b
  bytes_many {X} {view} {a} {b} {outcome} n k same call =
      subst (λ i. Call source order (ReadsOne (byte_string i) view) a outcome b) same call

  -- the same parts under that configuration
  pub call_same : {Y B : Type 0} {show : Y → B} {a b : Reader I E} {outcome : Result Y ErrorKind} (p q : Configuration → Parts B) →
      p (configuration_of a.config) ≡ q (configuration_of a.config) → Call source order (Reads p show) a outcome b →
      Call source order (Reads q show) a outcome b
  call_same {Y} {B} {show} {a} {b} {outcome} p q same call =
      let old : ReaderState = state_of source order a in record {
        config = call.config;
        whole = call.whole;
        told = call.told;
        answer = λ t. subst (λ r. AnswersRun show r outcome (state_of source order b)) (ap (λ k. took_by_places old.order k old.source.left old.reads) same) (call.answer t);
        keeps = call.keeps;
      }
