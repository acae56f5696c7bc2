-- Calls one after the other.
use Rattle.std.proofs.Common.{◌≡◌, ℕ, ◌+◌, ◌-◌, ◌≤◌, ◌<◌, List, [], length, drop, arith, sym, ◌∙◌, ap, length-drop, refl}
use Rattle.std.proofs.lemmas.List.{drop-drop, drop_all}
use Rattle.perf_buffers.specs.Buffer.{Source}
use Rattle.perf_buffers.specs.Taking.{Moves, MovesWithin, Takes, FailsToTake, FailsToKeep, FailsInRest, CanFail}
use Rattle.perf_buffers.proofs.Takes.{takes_moves}
use Rattle.std.specs.Prelude.{true}
use Rattle.perf_base.specs.declared.error.ErrorKind.TheVariants.{Eof, InvalidRecord, UnsupportedConfig, UnsupportedData, External, OutOfMemory}
use Rattle.perf_base.proofs.Took.{places_took}
use Rattle.perf_base.proofs.ReadBound.{any_le}
use Rattle.perf_base.specs.LayoutReads.{one_if_any}
use Rattle.std.specs.Prelude.{Option, None, Some, IsTrue}
use Rattle.perf_base.specs.declared.error.ErrorKind.{ErrorKind}
use Rattle.perf_buffers.specs.Buffer.{faults_after, BufferInvariant}
use Rattle.perf_reader.specs.ReaderState.{ReaderState}
use Rattle.perf_reader.specs.Reading.{last_of, CallInvariant, one_if_refused, is_external}

pub last_last : (n m : ℕ) (xs : List ℕ) → n ≤ m → m ≤ length xs → last_of n (last_of m xs) ≡ last_of n xs
unfolding last_of
last_last n m xs p q =
    let e : length xs - m + (length (drop (length xs - m) xs) - n) ≡ length xs - n = omega (arith, length-drop (length xs - m) xs) in
    drop-drop (length (drop (length xs - m) xs) - n) (length xs - m) xs ∙ ap (λ k. drop k xs) e

pub last_all : (xs : List ℕ) → last_of (length xs) xs ≡ xs
unfolding last_of
last_all xs = let e : length xs - length xs ≡ 0 = omega arith in ap (λ k. drop k xs) e

pub last_drop : (n : ℕ) (xs : List ℕ) → n ≤ length xs → last_of (length (drop n xs)) xs ≡ drop n xs
unfolding last_of
last_drop n xs h = let e : length xs - length (drop n xs) ≡ n = omega (arith, length-drop n xs) in ap (λ k. drop k xs) e

pub last_none : (xs : List ℕ) → last_of 0 xs ≡ []
unfolding last_of
last_none xs = drop_all (length xs - 0) xs (omega arith)

pub last_moved : (a b : Source) → Moves a b → b.left ≡ last_of (length b.left) a.left
unfolding last_of
last_moved a b p = p.1

pub ruleset lasts = (last_last, last_all, last_drop, last_none, last_moved)

-- what calls one after another need
pub ruleset chain = (places_took)

-- some bytes were taken
pub place_after : (a b : Source) (n : ℕ) → Takes a n b → (length b.left ≤ length a.left) × (b.left ≡ last_of (length b.left) a.left)
place_after a b n p =
    let l : length b.left ≡ length a.left - n = ap length p.1 ∙ length-drop n a.left in
    (omega arith, p.1 ∙ sym (last_drop n a.left p.0) ∙ ap (λ xs. last_of (length xs) a.left) (sym p.1))

-- ---- what is kept

-- nothing was done
pub keeps_none : (m : ReaderState) → CallInvariant m None m
keeps_none m = record {
  buffer = (refl, (λ c. c), refl, (λ t. t));
  fault = λ x. cc;
  cost = λ t. (omega arith, omega arith);
  place = λ t. (omega arith, sym (last_all m.source.left));
}

-- one call after others
pub keeps_more : (start old new : ReaderState) (e : Option ErrorKind) → CallInvariant start None old → CallInvariant old e new → CallInvariant start e new
keeps_more start old new e p q = record {
  buffer = (
    q.buffer.0 ∙ p.buffer.0,
    (λ c. p.buffer.1 (q.buffer.1 c)),
    q.buffer.2 ∙ ap (λ n. faults_after n e) p.buffer.2,
    (λ t. q.buffer.3 (p.buffer.3 t)),
  );
  fault = λ x. p.buffer.1 (q.fault x);
  cost = λ t. let a = p.cost t in let b = q.cost (p.buffer.3 t) in (omega (arith, a.0, b.0), omega (arith, a.1, b.1));
  place = λ t. let a = p.place t in let b = q.place (p.buffer.3 t) in (
    omega (arith, a.0, b.0),
    b.1 ∙ ap (last_of (length new.source.left)) a.1 ∙ last_last (length new.source.left) (length old.source.left) start.source.left b.0 a.0,
  );
}

abbrev pub TakesOrFails : Source → ℕ → Option ErrorKind → Source → Type 0
TakesOrFails old n None new = Takes old n new
TakesOrFails old n (Some e) new = FailsToTake old n e new

pub can_fault : (old : Source) (e : Option ErrorKind) → CanFail old e → is_external e ≡ true → IsTrue old.can_fault
can_fault old None c x = cc
can_fault old (Some Eof) c x = cc
can_fault old (Some InvalidRecord) c x = cc
can_fault old (Some UnsupportedConfig) c x = cc
can_fault old (Some UnsupportedData) c x = cc
can_fault old (Some External) c x = c
can_fault old (Some OutOfMemory) c x = cc

moved : (old new : Source) (n : ℕ) (e : Option ErrorKind) → 0 < n → TakesOrFails old n e new → (1 + length new.left ≤ length old.left + one_if_refused e) × Moves old new
moved old new n None some p = let l : length new.left ≡ length old.left - n = ap length p.1 ∙ length-drop n old.left in (omega arith, takes_moves old new n p)
moved old new n (Some Eof) some p =
    let l : length new.left ≡ 0 = ap length p.1 in
    (omega arith, (omega arith, p.1 ∙ sym (drop_all (length old.left - length new.left) old.left (omega arith))))
moved old new n (Some External) some p = (omega (arith, p.1.0), p.1)
moved old new n (Some InvalidRecord) some p = absurd p
moved old new n (Some UnsupportedConfig) some p = absurd p
moved old new n (Some UnsupportedData) some p = absurd p
moved old new n (Some OutOfMemory) some p = absurd p

failed_in_rest : (old new : Source) (e : ErrorKind) → FailsInRest old e new → Moves old new
failed_in_rest old new Eof p = absurd p
failed_in_rest old new InvalidRecord p = absurd p
failed_in_rest old new UnsupportedConfig p = absurd p
failed_in_rest old new UnsupportedData p = absurd p
failed_in_rest old new External p = p
failed_in_rest old new OutOfMemory p = p

-- the next n bytes were taken, or were not
pub array_keeps : (start old new : ReaderState) (n : ℕ) (e : Option ErrorKind) → CallInvariant start None old → 0 < n → new.reads ≡ old.reads + 1 → BufferInvariant old.source e new.source → CanFail old.source e →
    (IsTrue old.source.told → TakesOrFails old.source n e new.source) → CallInvariant start e new
array_keeps start old new n e p some count stays can took = keeps_more start old new e p (record {
  buffer = stays;
  fault = can_fault old.source e can;
  cost = λ t. let m = moved old.source new.source n e some (took t) in (omega (arith, count), omega (arith, count, m.0));
  place = λ t. let m = moved old.source new.source n e some (took t) in (m.1.0, last_moved old.source new.source m.1);
})

kept_moved : (old new : Source) (n : ℕ) (e : ErrorKind) → 0 < n → FailsToKeep old n e new → (1 + length new.left ≤ length old.left + 1) × Moves old new
kept_moved old new n Eof some p =
    let l : length new.left ≡ 0 = ap length p.1 in
    (omega arith, (omega arith, p.1 ∙ sym (drop_all (length old.left - length new.left) old.left (omega arith))))
kept_moved old new n External some p = (omega (arith, p.1.0), p.1)
kept_moved old new n OutOfMemory some p = (omega (arith, p.1.0), p.1)
kept_moved old new n InvalidRecord some p = absurd p
kept_moved old new n UnsupportedConfig some p = absurd p
kept_moved old new n UnsupportedData some p = absurd p

-- the next n bytes were to be kept, and that was refused
pub kept_keeps : (start old new : ReaderState) (n : ℕ) (e : ErrorKind) → CallInvariant start None old → 0 < n → new.reads ≡ old.reads + 1 → BufferInvariant old.source (Some e) new.source → CanFail old.source (Some e) →
    (IsTrue old.source.told → FailsToKeep old.source n e new.source) → CallInvariant start (Some e) new
kept_keeps start old new n e p some count stays can took = keeps_more start old new (Some e) p (record {
  buffer = stays;
  fault = can_fault old.source (Some e) can;
  cost = λ t. let m = kept_moved old.source new.source n e some (took t) in (omega (arith, count), omega (arith, count, m.0));
  place = λ t. let m = kept_moved old.source new.source n e some (took t) in (m.1.0, last_moved old.source new.source m.1);
})

-- all was taken
pub rest_keeps : (start old new : ReaderState) (bytes : List ℕ) → CallInvariant start None old → new.reads ≡ old.reads + one_if_any (length bytes) → BufferInvariant old.source None new.source →
    (IsTrue old.source.told → (bytes ≡ old.source.left) × (new.source.left ≡ [])) → CallInvariant start None new
rest_keeps start old new bytes p count stays took = keeps_more start old new None p (record {
  buffer = stays;
  fault = λ x. cc;
  cost = λ t.
      let m = took t in let l : length new.source.left ≡ 0 = ap length m.1 in let b : length bytes ≡ length old.source.left = ap length m.0 in
      (omega (arith, count), omega (arith, count, any_le (length bytes)));
  place = λ t. let m = took t in let l : length new.source.left ≡ 0 = ap length m.1 in
      (omega arith, m.1 ∙ sym (ap (λ n. last_of n old.source.left) l ∙ last_none old.source.left));
})

pub rest_fails : (start old new : ReaderState) (e : ErrorKind) → CallInvariant start None old → new.reads ≡ old.reads + 1 → BufferInvariant old.source (Some e) new.source → CanFail old.source (Some e) →
    (IsTrue old.source.told → FailsInRest old.source e new.source) → CallInvariant start (Some e) new
rest_fails start old new e p count stays can took = keeps_more start old new (Some e) p (record {
  buffer = stays;
  fault = can_fault old.source (Some e) can;
  cost = λ t. let m = failed_in_rest old.source new.source e (took t) in (omega (arith, count), omega (arith, count, m.0));
  place = λ t. let m = failed_in_rest old.source new.source e (took t) in (m.0, last_moved old.source new.source m);
})

-- ---- how much was taken

-- exactly n bytes
pub within_taken : (old new : Source) (n : ℕ) → Takes old n new → MovesWithin old n new
within_taken old new n p =
    let left : length new.left ≡ length old.left - n = ap length p.1 ∙ length-drop n old.left in
    (omega arith, takes_moves old new n p)
