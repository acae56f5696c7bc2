-- Numbers of eight bytes that an input has, taken at once.
use Rattle.std.proofs.Common.{◌≡◌, ◌≤◌, ◌+◌, ◌-◌, ◌*◌, ℕ, List, length, take, drop, ◌++◌, None, refl, sym, ◌∙◌, ap, arith, length-drop}
use Rattle.std.proofs.lemmas.List.{length-take-le, take_at, take-take}
use Rattle.std.specs.Prelude.{IsTrue}
use Rattle.perf_base.specs.Layout.{words, words_of}
use Rattle.perf_base.specs.Order.{Order}
use Rattle.perf_base.specs.Took.{took, quit, one_took}
use Rattle.perf_base.specs.declared.error.ErrorKind.{ErrorKind}
use Rattle.perf_base.specs.declared.error.ErrorKind.TheVariants.{Eof, InvalidRecord, UnsupportedConfig, UnsupportedData, External, OutOfMemory}
use Rattle.perf_base.proofs.Took.{took_yes}
use Rattle.perf_buffers.specs.Buffer.{Source, BufferInvariant}
use Rattle.perf_buffers.specs.Taking.{FailsToTake, Takes}
use Rattle.perf_reader.specs.ReaderState.{ReaderState}
use Rattle.perf_reader.specs.Reading.{of_layout, CallInvariant}
use Rattle.perf_reader.proofs.Calls.{keeps_more, place_after}

-- they are present, so the layout does not refuse them
pub never_short : (k n : ℕ) (o : Order) (old new : Source) (e : ErrorKind) (i j : ℕ) → n ≤ length old.left → FailsToTake old n e new → IsTrue (of_layout e) → one_took o (words k) old.left i ≡ quit e new.left j
never_short k n o old new Eof i j has p kind = absurd (omega (arith, has, p.0))
never_short k n o old new InvalidRecord i j has p kind = absurd p
never_short k n o old new UnsupportedConfig i j has p kind = absurd p
never_short k n o old new UnsupportedData i j has p kind = absurd p
never_short k n o old new External i j has p kind = cc
never_short k n o old new OutOfMemory i j has p kind = absurd p

-- they were taken, and counted
pub block_keeps : (start old new : ReaderState) (n k : ℕ) → n ≡ 8 * k → CallInvariant start None old → new.reads ≡ old.reads + k → BufferInvariant old.source None new.source → (IsTrue old.source.told → Takes old.source n new.source) → CallInvariant start None new
block_keeps start old new n k is p count stays moves = keeps_more start old new None p (record {
  buffer = stays;
  fault = λ x. cc;
  cost = λ t. let m = moves t in let l : length new.source.left ≡ length old.source.left - n = ap length m.1 ∙ length-drop n old.source.left in
      (omega (arith, count), omega (arith, count, l, m.0, is));
  place = λ t. place_after old.source new.source n (moves t);
})

-- the numbers are those of the bytes that were taken
pub block_there : (o p : Order) (old new : Source) (n k i j : ℕ) (out zeros ys : List ℕ) → p ≡ o → n ≡ 8 * k → j ≡ i + k → Takes old n new → out ≡ take n old.left → ys ≡ words_of p k (take (8 * k) (out ++ zeros)) → one_took o (words k) old.left i ≡ took ys new.left j
block_there o p old new n k i j out zeros ys same is count t at made =
    let fits : 8 * k ≤ length old.left = omega (arith, is, t.0) in
    let bytes : out ≡ take (8 * k) old.left = at ∙ ap (λ m. take m old.left) is in
    let long : length out ≡ 8 * k = ap length bytes ∙ length-take-le (8 * k) old.left fits in
    let value : words_of o k (take (8 * k) old.left) ≡ ys =
    ap (words_of o k) (sym bytes ∙ sym (take_at out zeros (8 * k) long)) ∙ ap (λ q. words_of q k (take (8 * k) (out ++ zeros))) (sym same) ∙ sym made in
    let after : drop (8 * k) old.left ≡ new.left = ap (λ m. drop m old.left) (sym is) ∙ sym t.1 in
    took_yes o (words k) old.left i fits ∙ rw (value, after, sym count) refl

-- the same of bytes that were shown before
pub shown_there : (o p : Order) (old new : Source) (k i j : ℕ) (shown ys : List ℕ) → p ≡ o → j ≡ i + k → 8 * k ≤ length shown → shown ≡ take (length shown) old.left → Takes old (8 * k) new → ys ≡ words_of p k (take (8 * k) shown) → one_took o (words k) old.left i ≡ took ys new.left j
shown_there o p old new k i j shown ys same count within first t made =
    let bytes : take (8 * k) shown ≡ take (8 * k) old.left = ap (take (8 * k)) first ∙ take-take (8 * k) (length shown) old.left within in
    let value : words_of o k (take (8 * k) old.left) ≡ ys =
    ap (words_of o k) (sym bytes) ∙ ap (λ q. words_of q k (take (8 * k) shown)) (sym same) ∙ sym made in
    took_yes o (words k) old.left i t.0 ∙ rw (value, sym t.1, sym count) refl
