-- A run of bytes that must be zero, from what the buffer returned.
use Rattle.std.proofs.Common.{◌≡◌, ℕ, ◌+◌, ◌<◌, Bool, true, false, List, take, refl, ap, ◌∙◌, arith}
use Rattle.std.specs.Prelude.{IsTrue, Some, None}
use Rattle.perf_base.specs.Attribute.{zero_tail}
use Rattle.perf_base.specs.Layout.{byte_string}
use Rattle.perf_base.specs.Order.{Order}
use Rattle.perf_base.specs.Took.{Took, took, quit, one_took, took_by_places}
use Rattle.perf_base.specs.Zeros.{all_zero}
use Rattle.perf_base.specs.declared.error.ErrorKind.{ErrorKind}
use Rattle.perf_base.specs.declared.error.ErrorKind.TheVariants.{UnsupportedData}
use Rattle.perf_base.proofs.Took.{places_took, then_take}
use Rattle.perf_buffers.specs.Buffer.{Source}
use Rattle.perf_buffers.specs.Taking.{Takes, FailsToTake}
use Rattle.perf_reader.specs.ReaderState.{ReaderState}
use Rattle.perf_reader.specs.Reading.{of_layout, CallInvariant}
use Rattle.perf_reader.proofs.Steps.{run_there, run_none, array_short}

-- what follows the bytes
abbrev judged : Bool → List ℕ → ℕ → Took (Unit {0})
judged true left m = took tt left m
judged false left m = quit UnsupportedData left m

checked : (t : Bool) (left : List ℕ) (m : ℕ) → ◌≡◌ {A = Took (Unit {0})} (elim t [ true ↦ took tt left m | false ↦ quit UnsupportedData left m ]) (judged t left m)
checked true left m = refl
checked false left m = refl

zeros_run : (o : Order) (n : ℕ) (bytes : List ℕ) (m : ℕ) → took_by_places o (zero_tail n) bytes m ≡ then_take (λ tail left k. judged (all_zero tail) left k) (one_took o (byte_string n) bytes m)
zeros_run o n bytes m = places_took o (zero_tail n) bytes m ∙ go (one_took o (byte_string n) bytes m)
  where
    go : (r : Took (List ℕ)) → ◌≡◌ {A = Took (Unit {0})}
        (elim r [ took tail left k ↦ elim (all_zero tail) [ true ↦ took tt left k | false ↦ quit UnsupportedData left k ] | quit e left k ↦ quit e left k ])
        (then_take (λ tail left k. judged (all_zero tail) left k) r)
    go (took tail left k) = checked (all_zero tail) left k
    go (quit e left k) = refl

-- no bytes are zero
pub zeros_none : (o : Order) (n : ℕ) (bytes : List ℕ) (m : ℕ) → n ≡ 0 → took_by_places o (zero_tail n) bytes m ≡ took tt bytes m
zeros_none o n bytes m none =
    ap (λ k. took_by_places o (zero_tail k) bytes m) none
    ∙ zeros_run o 0 bytes m
    ∙ ap (then_take (λ tail left k. judged (all_zero tail) left k)) (run_none o bytes m)

zeros_judged : (o : Order) (n : ℕ) (old new : Source) (k m : ℕ) (zero : Bool) → 0 < n → Takes old n new × (zero ≡ all_zero (take n old.left)) → m ≡ k + 1 →
    took_by_places o (zero_tail n) old.left k ≡ judged zero new.left m
zeros_judged o n old new k m zero some p q =
    rw (p.1, p.0.1, q) (zeros_run o n old.left k ∙ ap (then_take (λ tail left k. judged (all_zero tail) left k)) (run_there o n old.left k some p.0.0))

pub zeros_there : (o : Order) (n : ℕ) (old new : Source) (k m : ℕ) (zero : Bool) → 0 < n → Takes old n new × (zero ≡ all_zero (take n old.left)) → zero ≡ true → m ≡ k + 1 →
    took_by_places o (zero_tail n) old.left k ≡ took tt new.left m
zeros_there o n old new k m zero some p t q = zeros_judged o n old new k m zero some p q ∙ ap (λ b. judged b new.left m) t

pub others_there : (o : Order) (n : ℕ) (old new : Source) (k m : ℕ) (zero : Bool) → 0 < n → Takes old n new × (zero ≡ all_zero (take n old.left)) → zero ≡ false → m ≡ k + 1 →
    took_by_places o (zero_tail n) old.left k ≡ quit UnsupportedData new.left m
others_there o n old new k m zero some p t q = zeros_judged o n old new k m zero some p q ∙ ap (λ b. judged b new.left m) t

pub zeros_short : (o : Order) (n : ℕ) (old new : Source) (e : ErrorKind) (k m : ℕ) → FailsToTake old n e new → m ≡ k + 1 → IsTrue (of_layout e) → took_by_places o (zero_tail n) old.left k ≡ quit e new.left m
zeros_short o n old new e k m p q kind = zeros_run o n old.left k ∙ ap (then_take (λ tail left k. judged (all_zero tail) left k)) (array_short o n old new e k m p q kind)

-- bytes that were taken, one of which is not zero
pub tail_keeps : (start new : ReaderState) → CallInvariant start None new → CallInvariant start (Some UnsupportedData) new
tail_keeps start new p = record {
  buffer = p.buffer;
  fault = λ x. cc;
  cost = λ t. let c = p.cost t in (c.0, omega (arith, c.1));
  place = p.place;
}
