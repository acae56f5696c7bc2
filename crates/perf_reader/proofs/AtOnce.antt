-- Numbers whose bytes were taken at once.
use Rattle.std.proofs.Common.{◌≡◌, ℕ, ◌+◌, ◌-◌, ◌≤◌, List, Option, length, take, drop, None, Some, refl, sym, ◌∙◌, ap, subst, arith, length-drop}
use Rattle.std.proofs.lemmas.List.{drop-drop, take-take, drop-take}
use Rattle.std.specs.Prelude.{Ok, IfSome, IsTrue}
use Rattle.perf_base.specs.Configured.{endian_of}
use Rattle.perf_base.specs.Layout.{Shape, ShapeValue, Parts, part, number, w4, w8}
use Rattle.perf_base.specs.Order.{Order}
use Rattle.perf_base.specs.Took.{Took, took, quit, one_took, take_parts, took_by_places}
use Rattle.perf_base.specs.declared.error.ErrorKind.{ErrorKind}
use Rattle.perf_base.specs.declared.error.ErrorKind.TheVariants.{Eof, InvalidRecord, UnsupportedConfig, UnsupportedData, External, OutOfMemory}
use Rattle.perf_base.proofs.Took.{took_yes, then_take}
use Rattle.perf_buffers.specs.Buffer.{Source, BufferInvariant}
use Rattle.perf_buffers.specs.Taking.{FailsToTake, Takes}
use Rattle.perf_reader.specs.AtOnce.{ReadsAtOnce}
use Rattle.perf_reader.specs.Calls.{Call}
use Rattle.perf_reader.specs.ReaderState.{ReaderState, state_of}
use Rattle.perf_reader.specs.Reading.{of_layout, CallInvariant, Reads}
use Rattle.perf_reader.specs.declared.reader.Reader.{Reader}
use Rattle.perf_reader.proofs.Calls.{keeps_more, place_after}

-- ---- the call

-- they are present, so the layout does not refuse them
pub never_lacking : (old new : Source) (n : ℕ) (e : ErrorKind) → n ≤ length old.left → FailsToTake old n e new → IsTrue (of_layout e) → ⊥
never_lacking old new n Eof has p kind = omega (arith, has, p.0)
never_lacking old new n InvalidRecord has p kind = absurd p
never_lacking old new n UnsupportedConfig has p kind = absurd p
never_lacking old new n UnsupportedData has p kind = absurd p
never_lacking old new n External has p kind = cc
never_lacking old new n OutOfMemory has p kind = absurd p

-- they were taken, and counted
pub at_once_keeps : (start old new : ReaderState) (n k : ℕ) → k ≤ n → CallInvariant start None old → new.reads ≡ old.reads + k → BufferInvariant old.source None new.source → (IsTrue old.source.told → Takes old.source n new.source) → CallInvariant start None new
at_once_keeps start old new n k few p count stays moves = keeps_more start old new None p (record {
  buffer = stays;
  fault = λ x. cc;
  cost = λ t. let m = moves t in let l : length new.source.left ≡ length old.source.left - n = ap length m.1 ∙ length-drop n old.source.left in
      (omega (arith, count), omega (arith, count, few, l, m.0));
  place = λ t. place_after old.source new.source n (moves t);
})

-- ---- the numbers

-- one part, and then the others
part_step : {A : Type 0} (o : Order) (shape : Shape) (k : ShapeValue shape → Parts A) (bytes : List ℕ) (n : ℕ) →
    take_parts o (part shape k) bytes n ≡ then_take (λ v left m. take_parts o (k v) left m) (one_took o shape bytes n)
part_step {A} o shape k bytes n = go (one_took o shape bytes n)
  where
    go : (r : Took (ShapeValue shape)) → ◌≡◌ {A = Took A} (elim r [ took v left m ↦ take_parts o (k v) left m | quit e left m ↦ quit e left m ]) (then_take (λ v left m. take_parts o (k v) left m) r)
    go (took v left m) = refl
    go (quit e left m) = refl

-- a number of four bytes at a place, which is present
pub four_at : {A : Type 0} (o : Order) (k : ℕ → Parts A) (bytes : List ℕ) (at m : ℕ) → at + 4 ≤ length bytes →
    take_parts o (part (number w4) k) (drop at bytes) m ≡ take_parts o (k (o.four (take 4 (drop at bytes)))) (drop (at + 4) bytes) (m + 1)
four_at {A} o k bytes at m fits =
    let long : length (drop at bytes) ≡ length bytes - at = length-drop at bytes in
    let one : one_took o (number w4) (drop at bytes) m ≡ took (o.four (take 4 (drop at bytes))) (drop 4 (drop at bytes)) (m + 1) = took_yes o (number w4) (drop at bytes) m (omega (arith, fits, long)) in
    part_step o (number w4) k (drop at bytes) m
    ∙ ap (then_take (λ v left m. take_parts o (k v) left m)) one
    ∙ ap (λ xs. take_parts o (k (o.four (take 4 (drop at bytes)))) xs (m + 1)) (drop-drop 4 at bytes)

-- one of eight bytes
pub eight_at : {A : Type 0} (o : Order) (k : ℕ → Parts A) (bytes : List ℕ) (at m : ℕ) → at + 8 ≤ length bytes →
    take_parts o (part (number w8) k) (drop at bytes) m ≡ take_parts o (k (o.eight (take 8 (drop at bytes)))) (drop (at + 8) bytes) (m + 1)
eight_at {A} o k bytes at m fits =
    let long : length (drop at bytes) ≡ length bytes - at = length-drop at bytes in
    let one : one_took o (number w8) (drop at bytes) m ≡ took (o.eight (take 8 (drop at bytes))) (drop 8 (drop at bytes)) (m + 1) = took_yes o (number w8) (drop at bytes) m (omega (arith, fits, long)) in
    part_step o (number w8) k (drop at bytes) m
    ∙ ap (then_take (λ v left m. take_parts o (k v) left m)) one
    ∙ ap (λ xs. take_parts o (k (o.eight (take 8 (drop at bytes)))) xs (m + 1)) (drop-drop 8 at bytes)

-- bytes at a place are in the beginning that was taken
pub in_front : (at w n : ℕ) (bytes : List ℕ) → at + w ≤ n → take w (drop at (take n bytes)) ≡ take w (drop at bytes)
in_front at w n bytes fits =
    let whole : at + (n - at) ≡ n = omega (arith, fits) in
    ap (λ k. take w (drop at (take k bytes))) (sym whole) ∙ ap (take w) (drop-take at (n - at) bytes) ∙ take-take w (n - at) (drop at bytes) (omega (arith, fits))

module _ {I E : Type 0} {source : I → Source} {order : E → Order} where
  -- parts that have all their bytes, whose value is made of these bytes
  pub at_once : {Y B : Type 0} {show : Y → B} {a b : Reader I E} {outcome : Option (List ℕ)} {bytes : List ℕ} {y : Y} {e : E} (p : Parts B) (n reads : ℕ) (make : Order → List ℕ → B) →
      ((o : Order) (xs : List ℕ) (m : ℕ) → n ≤ length xs → took_by_places o p xs m ≡ took (make o (take n xs)) (drop n xs) (m + reads)) →
      show y ≡ make (order e) bytes → e ≡ endian_of b.config → outcome ≡ Some bytes → IfSome outcome (λ bytes. Call source order (ReadsAtOnce n reads) a (Ok bytes) b) → Call source order (Reads (λ _. p) show) a (Ok y) b
  at_once {Y} {B} {show} {a} {b} {outcome} {bytes} {y} {e} p n reads make runs is_made same is taken =
      let old : ReaderState = state_of source order a in
      let new : ReaderState = state_of source order b in
      let call : Call source order (ReadsAtOnce n reads) a (Ok bytes) b = subst (λ (o : Option (List ℕ)). IfSome o (λ bytes. Call source order (ReadsAtOnce n reads) a (Ok bytes) b)) is taken in
      let made : show y ≡ make (order (endian_of a.config)) bytes = is_made ∙ ap (λ e. make (order e) bytes) (same ∙ ap endian_of call.config) in record {
        config = call.config;
        whole = call.whole;
        told = call.told;
        answer = λ t.
            let got = call.answer t in
            runs old.order old.source.left old.reads got.0
            ∙ ap (λ v. took v (drop n old.source.left) (old.reads + reads)) (ap (make old.order) (sym got.1) ∙ sym made)
            ∙ ap (λ xs. took (show y) xs (old.reads + reads)) (sym got.2)
            ∙ ap (took (show y) new.source.left) (sym got.3);
        keeps = call.keeps;
      }
