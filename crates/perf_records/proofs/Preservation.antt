-- What a call on a frame keeps.
use Rattle.std.proofs.Common.{◌≡◌, ℕ, ◌+◌, ◌-◌, ◌≤◌, ◌<◌, [], length, Bool, true, false, refl, arith, sym, ◌∙◌, ap, length-drop}
use Rattle.std.proofs.lemmas.List.{drop_all}
use Rattle.std.specs.Prelude.{Option, None, Some, IsTrue, ◌≢◌}
use Rattle.perf_base.specs.declared.error.ErrorKind.{ErrorKind}
use Rattle.perf_base.specs.declared.error.ErrorKind.TheVariants.{Eof, InvalidRecord, UnsupportedConfig, UnsupportedData, External, OutOfMemory}
use Rattle.perf_buffers.specs.Buffer.{Source, BufferInvariant}
use Rattle.perf_buffers.specs.Taking.{bytes_between, Moves, MovesWithin, Takes, FailsToKeep}
use Rattle.perf_reader.specs.ReaderState.{ReaderState}
use Rattle.perf_reader.specs.Reading.{CallInvariant, is_external, of_layout, one_if_refused}
use Rattle.perf_reader.proofs.Calls.{last_moved}

-- k reads, and some bytes that pay for them
pub moved_keeps : (old new : ReaderState) (e : Option ErrorKind) (k : ℕ) → new.reads ≡ old.reads + k → BufferInvariant old.source e new.source → (is_external e ≡ true → IsTrue old.source.can_fault) →
    (IsTrue old.source.told → Moves old.source new.source × (k + length new.source.left ≤ length old.source.left + one_if_refused e)) → CallInvariant old e new
moved_keeps old new e k count stays can moves = record {
  buffer = stays;
  fault = can;
  cost = λ t. let m = moves t in (omega (arith, count), omega (arith, count, m.1));
  place = λ t. let m = moves t in (m.0.0, last_moved old.source new.source m.0);
}

-- a refusal that is no fault counts none
pub stays_refused : (a b : Source) (e : ErrorKind) → is_external (Some e) ≡ false → BufferInvariant a None b → BufferInvariant a (Some e) b
stays_refused a b Eof x p = p
stays_refused a b InvalidRecord x p = p
stays_refused a b UnsupportedConfig x p = p
stays_refused a b UnsupportedData x p = p
stays_refused a b External x p = absurd (cc)
stays_refused a b OutOfMemory x p = p

pub no_fault : (e : Option ErrorKind) (P : Type 0) → is_external e ≡ false → is_external e ≡ true → P
no_fault e P p q = absurd (cc)

pub within_all : (old new : Source) (n : ℕ) → length old.left ≤ n → new.left ≡ [] → MovesWithin old n new
within_all old new n short e =
    let nothing : length new.left ≡ 0 = ap length e in
    (omega arith, (omega arith, e ∙ sym (drop_all (bytes_between old new) old.left (omega arith))))

-- bytes that were to be kept
pub within_kept : (old new : Source) (n : ℕ) (e : ErrorKind) → FailsToKeep old n e new → MovesWithin old n new
within_kept old new n Eof p = within_all old new n (omega arith) p.1
within_kept old new n InvalidRecord p = absurd p
within_kept old new n UnsupportedConfig p = absurd p
within_kept old new n UnsupportedData p = absurd p
within_kept old new n External p = p
within_kept old new n OutOfMemory p = p

-- the reads of the bytes that were taken are paid for
pub taken_pays : (old new : Source) (n k : ℕ) → Takes old n new → k ≤ n → k + length new.left ≤ length old.left
taken_pays old new n k p less =
    let left : length new.left ≡ length old.left - n = ap length p.1 ∙ length-drop n old.left in
    omega (arith, p.0)

-- bytes that were taken are at most that many
pub taken_within : (old new : Source) (n : ℕ) → Takes old n new → length old.left ≤ length new.left + n
taken_within old new n p =
    let left : length new.left ≡ length old.left - n = ap length p.1 ∙ length-drop n old.left in
    omega (arith, p.0)

-- a read that has its bytes, needs no memory and cannot fault
pub never_refused : (P : Type 0) (e : ErrorKind) (have want : ℕ) → have ≡ want → e ≢ OutOfMemory → (is_external (Some e) ≡ true → IsTrue false) → (IsTrue (of_layout e) → have < want) → P
never_refused P Eof have want same memory fault lacks = absurd (omega (arith, same, lacks refl))
never_refused P InvalidRecord have want same memory fault lacks = absurd (omega (arith, same, lacks refl))
never_refused P UnsupportedConfig have want same memory fault lacks = absurd (omega (arith, same, lacks refl))
never_refused P UnsupportedData have want same memory fault lacks = absurd (omega (arith, same, lacks refl))
never_refused P External have want same memory fault lacks = let no : IsTrue false = fault refl in cc
never_refused P OutOfMemory have want same memory fault lacks = absurd (memory refl)

-- ---- inside a frame

pub inside_cannot_fault : (e : Option ErrorKind) → (is_external e ≡ true → IsTrue false) → is_external e ≡ false
inside_cannot_fault e fault = go (is_external e) refl
  where
    go : (b : Bool) → is_external e ≡ b → is_external e ≡ false
    go false h = h
    go true h = let no : IsTrue false = fault h in cc

pub inside_pays : (total made start have had left one : ℕ) → total ≡ made → start ≡ 0 → had ≡ have → made + left ≤ start + had + one → total ≤ have + one
inside_pays total made start have had left one t s h cost = omega (arith, t, s, h, cost)
