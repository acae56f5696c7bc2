-- What the chunk that a call asked for means for the call: it was shown, or refused.
use Rattle.std.proofs.Common.{◌≡◌, ℕ, ◌<◌, ◌≤◌, List, [], length, take, drop, arith, ap, sym, ◌∙◌, subst, refl}
use Rattle.std.proofs.lemmas.List.{take-take, length-take}
use Rattle.std.specs.Prelude.{None, Some, IsTrue, Result, Ok, Err, IfOk, IfErr, IsErrAnd, min, Bool, ◌≢◌}
use Rattle.perf_base.specs.Errors.{kind_of}
use Rattle.perf_base.specs.declared.error.ErrorKind.{ErrorKind}
use Rattle.perf_base.specs.declared.error.ErrorKind.TheVariants.{Eof, InvalidRecord, UnsupportedConfig, UnsupportedData, External, OutOfMemory}
use Rattle.perf_base.specs.declared.error.ParseError.{ParseError}
use Rattle.perf_buffers.specs.declared.parsebuf.ParseBufChunk.{ParseBufChunk}
use Rattle.perf_buffers.specs.Buffer.{Source, kind_if_failed, BufferInvariant, Refuses, Shows, KeepsChunk, Advances, chunk_bytes, chunk_is_borrowed}
use Rattle.perf_buffers.specs.Taking.{Takes, MovesWithin, Moves, FailsToTake, FailsToKeep, FailsInRest, CanFail, bytes_between}
use Rattle.perf_buffers.proofs.Chunks.{stays_then}

-- ---- a refused chunk

-- why a chunk is refused, and what that leaves
pub record RefusedChunk (old : Source) (e : ErrorKind) (new : Source) : Type 0 where
  pub why : Refuses old e
  pub stays : BufferInvariant old (Some e) new
  pub same : IsTrue old.told → new.left ≡ old.left

-- A chunk whose result is a refusal was refused for its kind.
pub refused_chunk : (old new : Source) (r : Result ParseBufChunk ParseError) (e : ParseError) (k : ErrorKind) (ready : List ℕ) → k ≡ kind_of e → r ≡ Err e → IfErr r (λ e. Refuses old (kind_of e)) → KeepsChunk old r new ready → RefusedChunk old k new
refused_chunk old new (Ok x) e k ready p q w h = cc
refused_chunk old new (Err f) e k ready p q w h =
    let kinds : kind_of f ≡ k = cc in
    subst (λ (x : ErrorKind). RefusedChunk old x new) kinds (record { why = w; stays = h.0; same = h.1 })

-- a refused chunk is a fault only of a buffer that can fault
pub refused_can_fail : (old : Source) (e : ErrorKind) → Refuses old e → CanFail old (Some e)
refused_can_fail old Eof w = tt
refused_can_fail old External w = w
refused_can_fail old InvalidRecord w = tt
refused_can_fail old UnsupportedConfig w = tt
refused_can_fail old UnsupportedData w = tt
refused_can_fail old OutOfMemory w = tt

-- a chunk is never refused for lack of memory
pub refused_no_memory : (old : Source) (e : ErrorKind) → Refuses old e → e ≢ OutOfMemory
refused_no_memory old Eof w = λ p. cc
refused_no_memory old External w = λ p. cc
refused_no_memory old InvalidRecord w = absurd w
refused_no_memory old UnsupportedConfig w = absurd w
refused_no_memory old UnsupportedData w = absurd w
refused_no_memory old OutOfMemory w = absurd w

-- a buffer with the same bytes left has moved by none
pub moves_none : (old new : Source) → new.left ≡ old.left → Moves old new
moves_none old new p =
    let lengths : length new.left ≡ length old.left = ap length p in
    let none : bytes_between old new ≡ 0 = omega arith in
    (omega arith, p ∙ sym (ap (λ k. drop k old.left) none))

-- the same, within n bytes
pub moves_none_within : (old new : Source) (n : ℕ) → new.left ≡ old.left → MovesWithin old n new
moves_none_within old new n p =
    let lengths : length new.left ≡ length old.left = ap length p in (omega arith, moves_none old new p)

-- a read of n bytes whose first chunk is refused
pub refused_take : (old new : Source) (n : ℕ) (e : ErrorKind) → 0 < n → RefusedChunk old e new → IsTrue old.told → FailsToTake old n e new
refused_take old new n Eof some r told =
    let none : length old.left ≡ 0 = ap length (r.why told) in (omega arith, r.same told ∙ r.why told)
refused_take old new n External some r told = moves_none_within old new n (r.same told)
refused_take old new n InvalidRecord some r told = r.why
refused_take old new n UnsupportedConfig some r told = r.why
refused_take old new n UnsupportedData some r told = r.why
refused_take old new n OutOfMemory some r told = r.why

-- the same, for a read that keeps them
pub refused_keep : (old new : Source) (n : ℕ) (e : ErrorKind) → 0 < n → RefusedChunk old e new → IsTrue old.told → FailsToKeep old n e new
refused_keep old new n Eof some r told =
    let none : length old.left ≡ 0 = ap length (r.why told) in (omega arith, r.same told ∙ r.why told)
refused_keep old new n External some r told = moves_none_within old new n (r.same told)
refused_keep old new n InvalidRecord some r told = r.why
refused_keep old new n UnsupportedConfig some r told = r.why
refused_keep old new n UnsupportedData some r told = r.why
refused_keep old new n OutOfMemory some r told = absurd r.why

-- nothing is left if the refusal is the end
pub refused_end : (old new : Source) (e : ErrorKind) → e ≡ Eof → RefusedChunk old e new → IsTrue old.told → old.left ≡ []
refused_end old new e p r told = (subst (λ (k : ErrorKind). Refuses old k) p r.why) told

-- a read of all that is left, whose refusal is not the end
pub refused_rest : (old new : Source) (e : ErrorKind) → e ≢ Eof → RefusedChunk old e new → IsTrue old.told → FailsInRest old e new
refused_rest old new Eof more r told = let same : ◌≡◌ {A = ErrorKind} Eof Eof = refl in more same
refused_rest old new External more r told = moves_none old new (r.same told)
refused_rest old new InvalidRecord more r told = r.why
refused_rest old new UnsupportedConfig more r told = r.why
refused_rest old new UnsupportedData more r told = r.why
refused_rest old new OutOfMemory more r told = absurd r.why

-- a read that keeps what it takes, and reached the end
pub keeps_end : (old new : Source) (n : ℕ) (e : ErrorKind) → e ≡ Eof → FailsToKeep old n e new → new.left ≡ []
keeps_end old new n e p h = (subst (λ (k : ErrorKind). FailsToKeep old n k new) p h).1

-- the same read of all that is left, which failed before the end
pub keeps_rest : (old new : Source) (n : ℕ) (e : ErrorKind) → e ≢ Eof → FailsToKeep old n e new → FailsInRest old e new
keeps_rest old new n Eof more h = let same : ◌≡◌ {A = ErrorKind} Eof Eof = refl in more same
keeps_rest old new n External more h = h.1
keeps_rest old new n InvalidRecord more h = h
keeps_rest old new n UnsupportedConfig more h = h
keeps_rest old new n UnsupportedData more h = h
keeps_rest old new n OutOfMemory more h = h.1

-- ---- a chunk that was shown

-- what a chunk shows, and what showing it leaves
pub record ShownChunk (old : Source) (c : ParseBufChunk) (new : Source) (ready : List ℕ) : Type 0 where
  pub shows : Shows old c
  pub stays : BufferInvariant old None new
  pub same : IsTrue old.told → new.left ≡ old.left
  pub is_ready : ready ≡ chunk_bytes c

-- A chunk whose result is no refusal was shown.
pub shown_chunk : (old new : Source) (r : Result ParseBufChunk ParseError) (c : ParseBufChunk) (ready : List ℕ) → r ≡ Ok c → IfOk r (λ c. Shows old c) → KeepsChunk old r new ready → ShownChunk old c new ready
shown_chunk old new (Err f) c ready q w h = cc
shown_chunk old new (Ok x) c ready q w h =
    let same : x ≡ c = cc in
    subst (λ (y : ParseBufChunk). ShownChunk old y new ready) same (record { shows = w; stays = h.0; same = h.1; is_ready = h.2 })

-- a chunk of a whole buffer is borrowed
pub whole_is_lent : (old new : Source) (ready : List ℕ) (c : ParseBufChunk) (b : Bool) → ShownChunk old c new ready → chunk_is_borrowed c ≡ b → IsTrue old.whole → IsTrue b
whole_is_lent old new ready c b s p w = sym p ∙ (s.shows.2 w).1

-- a prefix is no longer than what is left
pub shown_within : (xs ys : List ℕ) → take (length ys) xs ≡ ys → length ys ≤ length xs
shown_within xs ys p = let l : length (take (length ys) xs) ≡ length ys = ap length p in omega (arith, length-take (length ys) xs)

-- what taking n bytes of a chunk leaves, and which they are
pub record TakenChunk (old : Source) (c : ParseBufChunk) (n : ℕ) (new : Source) : Type 0 where
  pub stays : BufferInvariant old None new
  pub takes : IsTrue old.told → Takes old n new
  pub bytes : IsTrue old.told → take n (chunk_bytes c) ≡ take n old.left

-- n bytes of a chunk that was shown are taken
pub taken_chunk : (old mid new : Source) (c : ParseBufChunk) (ready : List ℕ) (n : ℕ) → ShownChunk old c mid ready → n ≤ length (chunk_bytes c) → Advances mid n new → TakenChunk old c n new
taken_chunk old mid new c ready n s within a = record {
  stays = stays_then old mid new None s.stays a.0;
  takes = λ told.
      let enough : length (chunk_bytes c) ≤ length old.left = shown_within old.left (chunk_bytes c) (s.shows.1 told) in
      (omega arith, a.1 (s.stays.3 told) ∙ ap (λ xs. drop n xs) (s.same told));
  bytes = λ told. sym (ap (λ xs. take n xs) (s.shows.1 told)) ∙ take-take n (length (chunk_bytes c)) old.left within;
}

-- A whole buffer shows all that is left: if that is too few, so is what is left.
pub whole_is_short : (old new : Source) (ready bytes : List ℕ) (c : ParseBufChunk) (n : ℕ) → ShownChunk old c new ready → bytes ≡ chunk_bytes c → length bytes < n → IsTrue old.whole → IsTrue old.told × (length old.left < n)
whole_is_short old new ready bytes c n s p short w =
    let all = s.shows.2 w in (all.2, subst (λ (xs : List ℕ). length xs < n) (p ∙ all.0) short)

-- what is taken of a chunk, at most a number of bytes
pub shown_most : (shown bytes : List ℕ) (most n : ℕ) → bytes ≡ shown → n ≡ min (length bytes) most → 0 < length shown → 0 < most → (n ≤ length shown) × (n ≤ most) × (0 < n)
shown_most shown bytes most n p q some any =
    let l : length bytes ≡ length shown = ap length p in (omega arith, omega arith, omega arith)

-- ---- a refusal that is returned as it is

-- an error that passes through `?` unchanged
pub passed_on : {A : Type 0} (r : Result A ParseError) (e : ParseError) → IsErrAnd r (λ x. x ≡ e) → r ≡ Err e
passed_on (Ok x) e h = absurd h
passed_on (Err x) e h = ap (λ y. Err y) h

-- a refusal has no value, so any fact holds of it
pub no_value : {A : Type 0} (Q : A → Type 0) (r : Result A ParseError) (e : ParseError) → r ≡ Err e → IfOk r Q
no_value Q (Ok x) e p = cc
no_value Q (Err x) e p = tt

-- a fact of the error holds of the refusal
pub if_refused : {A : Type 0} (Q : ParseError → Type 0) (r : Result A ParseError) (e : ParseError) → r ≡ Err e → Q e → IfErr r Q
if_refused Q (Ok x) e p h = tt
if_refused Q (Err x) e p h = let same : e ≡ x = cc in subst Q same h

-- the invariant, for a refusal
pub stays_refused : {A : Type 0} (old new : Source) (r : Result A ParseError) (e : ParseError) → r ≡ Err e → BufferInvariant old (Some (kind_of e)) new → BufferInvariant old (kind_if_failed r) new
stays_refused {A} old new r e p h = subst (λ (x : Result A ParseError). BufferInvariant old (kind_if_failed x) new) (sym p) h

-- the same of a fault
pub can_fail_refused : {A : Type 0} (old : Source) (r : Result A ParseError) (e : ParseError) → r ≡ Err e → CanFail old (Some (kind_of e)) → CanFail old (kind_if_failed r)
can_fail_refused {A} old r e p h = subst (λ (x : Result A ParseError). CanFail old (kind_if_failed x)) (sym p) h
