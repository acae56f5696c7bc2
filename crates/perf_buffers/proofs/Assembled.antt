-- A frame that the next chunk does not contain, and what the hint said before it was asked for.
use Rattle.std.proofs.Common.{rules, ◌≡◌, ℕ, zero, suc, ◌+◌, ◌-◌, ◌<◌, ◌≤◌, [], drop, Bool, true, false, List, length, take, refl, arith, ap, sym, ◌∙◌, subst}
use Rattle.std.specs.Option.{is_some}
use Rattle.std.specs.Prelude.{Option, None, Some, IsTrue, IsSome, IfSome, Result, Ok, Err, IfOk, IfErr, OnErr}
use Rattle.perf_base.specs.Refusals.{kinds, refusal_kind}
use Rattle.perf_base.specs.declared.refusal.Refusal.{Refusal}
use Rattle.std.proofs.lemmas.Bool.{false≢true, lt-ltb}
use Rattle.perf_base.specs.declared.error.ErrorKind.{ErrorKind}
use Rattle.perf_base.specs.declared.error.ErrorKind.TheVariants.{Eof, InvalidRecord, UnsupportedConfig, UnsupportedData, External, OutOfMemory}
use Rattle.perf_buffers.specs.Buffer.{Source, BufferInvariant}
use Rattle.perf_buffers.specs.FrameBytes.{GivesNextBytes, FindsFrame}
use Rattle.perf_buffers.specs.declared.frame_reader.Found.{Found}
use Rattle.perf_buffers.specs.declared.frame_reader.Found.TheVariants as found
use Rattle.perf_buffers.specs.Room.{falls_short, is_made_beforehand, makes_all_room}
use Rattle.perf_buffers.specs.Taking.{Takes, FailsToKeep, CanFail}

-- ---- what the hint says

-- no buffer falls short of no bytes
pub nothing_is_short : (hint : Option ℕ) (n : ℕ) → n ≡ 0 → falls_short hint n ≡ true → ⊥
nothing_is_short None n none few = cc
nothing_is_short (Some left) zero none few = search rules
nothing_is_short (Some left) (suc n) none few = cc

-- no bytes are taken from where a buffer is
pub takes_nothing : (old : Source) (n : ℕ) → n ≡ 0 → Takes old n old × ([] ≡ take n old.left)
takes_nothing old zero none = ((omega arith, refl), refl)
takes_nothing old (suc n) none = cc

-- the hint was asked for, and does not fall short
pub enough_said : (hint : Option ℕ) (n : ℕ) (asked : Option ℕ) (few : Bool) → asked ≡ hint → few ≡ falls_short asked n → few ≡ false → falls_short hint n ≡ false
enough_said hint n asked few p q r = ap (λ h. falls_short h n) (sym p) ∙ sym q ∙ r

-- a hint cannot fall short and not fall short
pub not_both : (hint : Option ℕ) (n : ℕ) → falls_short hint n ≡ false → falls_short hint n ≡ true → ⊥
not_both hint n p q = false≢true (sym p ∙ q)

-- a whole buffer that has too few bytes has said so
pub whole_has_said : (old : Source) (hint : Option ℕ) (n : ℕ) → (IsTrue old.whole → IsSome hint) → IfSome hint (λ m. IsTrue old.told → m ≡ length old.left) → falls_short hint n ≡ false → (IsTrue old.whole → IsTrue old.told × (length old.left < n)) → IsTrue old.whole → ⊥
whole_has_said old None n some exact p short w = let h = some w in cc
whole_has_said old (Some m) n some exact p short w =
    let s = short w in
    let same : m ≡ length old.left = exact s.0 in
    false≢true (sym p ∙ lt-ltb m n (omega arith))

-- all capacity is allocated first whether the hint or only its presence is known
pub makes_room : (hint asked : Option ℕ) (n : ℕ) (has : Bool) → asked ≡ hint → has ≡ is_some asked → is_made_beforehand hint n ≡ true → makes_all_room has n ≡ true
makes_room hint asked n has p q all =
    subst (λ (b : Bool). makes_all_room b n ≡ true) (sym (q ∙ ap is_some p)) (go hint all)
  where
    go : (h : Option ℕ) → is_made_beforehand h n ≡ true → makes_all_room (is_some h) n ≡ true
    go None e = e
    go (Some left) e = refl

-- ---- what the next chunk contains of a frame

-- a frame that was found complete
pub found_whole : {S O F : Type 0} (gives : List ℕ → Bool → S → O → S → Type 0) (reader : F) (old : Source) (n : ℕ) (was : S) (f : Found O F) (output : O) (new : Source) (now : S) →
    f ≡ found.Whole output → FindsFrame gives reader old n was f new now → GivesNextBytes gives old n was output new now
found_whole {S} {O} {F} gives reader old n was (found.Whole x) output new now p h =
    let same : x ≡ output = cc in subst (λ (y : O). GivesNextBytes gives old n was y new now) same h
found_whole {S} {O} {F} gives reader old n was (found.Cut x) output new now p h = cc

-- a frame that the chunk cuts: its reader and the state are as before, and nothing was taken
pub record CutFrame {S F : Type 0} (reader same : F) (old : Source) (n : ℕ) (was : S) (new : Source) (now : S) : Type 0 where
  pub reader_is : same ≡ reader
  pub state : now ≡ was
  pub left : IsTrue old.told → new.left ≡ old.left
  pub short : IsTrue old.whole → IsTrue old.told × (length old.left < n)

-- a frame that was found cut
pub found_cut : {S O F : Type 0} (gives : List ℕ → Bool → S → O → S → Type 0) (reader same : F) (old : Source) (n : ℕ) (was : S) (f : Found O F) (new : Source) (now : S) →
    f ≡ found.Cut same → FindsFrame gives reader old n was f new now → CutFrame reader same old n was new now
found_cut {S} {O} {F} gives reader same old n was (found.Whole x) new now p h = cc
found_cut {S} {O} {F} gives reader same old n was (found.Cut x) new now p h =
    let e : x ≡ same = cc in
    record { reader_is = sym e ∙ h.0; state = h.1; left = h.2; short = h.3 }

-- ---- a call after another that took nothing

-- a fault of the later call is one that the buffer could have before
pub can_fail_later : (old mid : Source) (e : Option ErrorKind) → (IsTrue mid.can_fault → IsTrue old.can_fault) → CanFail mid e → CanFail old e
can_fail_later old mid None p h = tt
can_fail_later old mid (Some Eof) p h = tt
can_fail_later old mid (Some InvalidRecord) p h = tt
can_fail_later old mid (Some UnsupportedConfig) p h = tt
can_fail_later old mid (Some UnsupportedData) p h = tt
can_fail_later old mid (Some External) p h = p h
can_fail_later old mid (Some OutOfMemory) p h = tt

-- what the later call takes when it fails, from the state before
fails_by_kind : (old mid new : Source) (n : ℕ) (e : ErrorKind) → mid.left ≡ old.left → FailsToKeep mid n e new → FailsToKeep old n e new
fails_by_kind old mid new n Eof p h = (subst (λ (xs : List ℕ). length xs < n) p h.0, h.1)
fails_by_kind old mid new n External p h =
    subst (λ (xs : List ℕ). (length xs ≤ length new.left + n) × ((length new.left ≤ length xs) × (new.left ≡ drop (length xs - length new.left) xs))) p h
fails_by_kind old mid new n InvalidRecord p h = h
fails_by_kind old mid new n UnsupportedConfig p h = h
fails_by_kind old mid new n UnsupportedData p h = h
fails_by_kind old mid new n OutOfMemory p h =
    subst (λ (xs : List ℕ). (length xs ≤ length new.left + n) × ((length new.left ≤ length xs) × (new.left ≡ drop (length xs - length new.left) xs))) p h

-- the same of its result
pub fails_later : {A : Type 0} (old mid new : Source) (n : ℕ) (r : Result A Refusal) → mid.left ≡ old.left → IfErr (kinds r) (λ e. FailsToKeep mid n e new) → IfErr (kinds r) (λ e. FailsToKeep old n e new)
fails_later old mid new n (Ok x) p h = tt
fails_later old mid new n (Err e) p h = fails_by_kind old mid new n (refusal_kind e) p h

-- the later call leaves the bytes of the state before if it is out of memory
pub out_of_memory_later : {A : Type 0} (old mid new : Source) (r : Result A Refusal) → mid.left ≡ old.left → IfErr (kinds r) (λ e. e ≡ OutOfMemory → new.left ≡ mid.left) → IfErr (kinds r) (λ e. e ≡ OutOfMemory → new.left ≡ old.left)
out_of_memory_later old mid new r p h =
    subst (λ (xs : List ℕ). IfErr (kinds r) (λ e. e ≡ OutOfMemory → new.left ≡ xs)) p h

-- the later call keeps the next bytes of the state before
pub keeps_later : {A : Type 0} (bytes : A → List ℕ) (old mid new : Source) (n : ℕ) (r : Result A Refusal) → mid.left ≡ old.left → IfOk (kinds r) (λ x. Takes mid n new × (bytes x ≡ take n mid.left)) → IfOk (kinds r) (λ x. Takes old n new × (bytes x ≡ take n old.left))
keeps_later bytes old mid new n r p h =
    subst (λ (xs : List ℕ). IfOk (kinds r) (λ x. ((n ≤ length xs) × (new.left ≡ drop n xs)) × (bytes x ≡ take n xs))) p h

-- a state that both calls leave unchanged
pub same_later : {S A : Type 0} (was mid now : S) (r : Result A Refusal) → mid ≡ was → OnErr r (now ≡ mid) → OnErr r (now ≡ was)
same_later {S} was mid now r p h = subst (λ (s : S). OnErr r (now ≡ s)) p h

-- what the later call gives belongs to the reader, the state and the buffer before
pub gives_later : {S O F : Type 0} (gives : F → List ℕ → Bool → S → O → S → Type 0) (reader same : F) (was half now : S) (old mid new : Source) (n : ℕ) (r : Result O Refusal) → CutFrame reader same old n was mid half → BufferInvariant old None mid →
    IfOk r (λ o. GivesNextBytes (gives same) mid n half o new now) → IfOk r (λ o. GivesNextBytes (gives reader) old n was o new now)
gives_later gives reader same was half now old mid new n (Err e) f b h = tt
gives_later {S} {O} {F} gives reader same was half now old mid new n (Ok o) f b h =
    let one = subst (λ (x : F). GivesNextBytes (gives x) mid n half o new now) f.reader_is h in
    let two = subst (λ (s : S). GivesNextBytes (gives reader) mid n s o new now) f.state one in (
      two.0,
      two.1,
      two.2,
      two.3,
      (λ told. let k = two.4 (b.3 told) in let left = f.left told in (
        (subst (λ (xs : List ℕ). n ≤ length xs) left k.0.0, k.0.1 ∙ ap (λ xs. drop n xs) left),
        k.1 ∙ ap (λ xs. take n xs) left,
      )),
      (λ whole. two.5 (b.0 ∙ whole)),
    )
