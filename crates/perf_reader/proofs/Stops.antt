-- How the header of a run's next frame is read, and how a run stops if there is none.
use Rattle.std.proofs.Common.{◌≡◌, ℕ, ◌+◌, ◌-◌, ◌<◌, ◌≤◌, List, [], ◌∷◌, length, take, drop, arith, refl, sym, ◌∙◌, ap, subst, length-drop, inl, inr}
use Rattle.std.specs.Prelude.{IsTrue, IfErr, Option, None, Some, Result, Ok, Err, ◌⊎◌}
use Rattle.std.proofs.lemmas.Bool.{cases_lt}
use Rattle.perf_base.specs.Configured.{endian_of}
use Rattle.perf_base.specs.Header.{header_of}
use Rattle.perf_base.specs.Layout.{byte_string}
use Rattle.perf_base.specs.Order.{Order}
use Rattle.perf_base.specs.Refusals.{refusal_kind}
use Rattle.perf_base.specs.Took.{Took, took, quit, one_took}
use Rattle.perf_base.specs.declared.error.ErrorKind.{ErrorKind}
use Rattle.perf_base.specs.declared.error.ErrorKind.TheVariants.{Eof, InvalidRecord, UnsupportedConfig, UnsupportedData, External, OutOfMemory}
use Rattle.perf_base.specs.declared.refusal.Refusal.{Refusal}
use Rattle.perf_base.specs.declared.sys.perf_event_header.{perf_event_header}
use Rattle.perf_buffers.specs.Buffer.{Source, Refuses}
use Rattle.perf_buffers.specs.Taking.{MovesWithin, Takes}
use Rattle.perf_buffers.proofs.Takes.{moves_more}
use Rattle.perf_reader.specs.Calls.{Call}
use Rattle.perf_reader.specs.Headers.{frame_length, MovesWithinFrame, ReadsHeader, ReadsShownHeader, StopsAt}
use Rattle.perf_reader.specs.ReaderState.{ReaderState, state_of}
use Rattle.perf_reader.specs.Reading.{of_layout, last_of}
use Rattle.perf_reader.specs.declared.header.Stop.{Stop}
use Rattle.perf_reader.specs.declared.header.Stop.TheVariants as stop
use Rattle.perf_reader.specs.declared.reader.Reader.{Reader}
use Rattle.perf_reader.proofs.Calls.{last_moved, last_all, within_taken}
use Rattle.perf_reader.proofs.Steps.{run_there, run_short}

-- ---- bytes of a header

-- bytes that were taken
pub taken : (o : Order) (k : ℕ) (bytes xs left : List ℕ) (n m : ℕ) → 0 < k → one_took o (byte_string k) bytes n ≡ took xs left m →
    (k ≤ length bytes) × (xs ≡ take k bytes) × (left ≡ drop k bytes) × (m ≡ n + 1)
taken o k bytes xs left n m some e = elim (cases_lt (length bytes) k) [
  | inl short ↦ absurd (cc (run_short o k bytes n short))
  | inr fits ↦
      let both : took (take k bytes) (drop k bytes) (n + 1) ≡ took xs left m = sym (run_there o k bytes n some fits) ∙ e in
      let same : take k bytes ≡ xs = cc in
      let after : drop k bytes ≡ left = cc in
      let count : n + 1 ≡ m = cc in
      (fits, sym same, sym after, sym count)
]

-- bytes that were missing
pub lacking : (o : Order) (k : ℕ) (bytes left : List ℕ) (e : ErrorKind) (n m : ℕ) → 0 < k → one_took o (byte_string k) bytes n ≡ quit e left m →
    (length bytes < k) × (e ≡ Eof) × (left ≡ []) × (m ≡ n + 1)
lacking o k bytes left e n m some h = elim (cases_lt (length bytes) k) [
  | inr fits ↦ absurd (cc (run_there o k bytes n some fits))
  | inl short ↦
      let both : ◌≡◌ {A = Took (List ℕ)} (quit Eof [] (n + 1)) (quit e left m) = sym (run_short o k bytes n short) ∙ h in
      let kind : Eof ≡ e = cc in
      let after : [] ≡ left = cc in
      let count : n + 1 ≡ m = cc in
      (short, sym kind, sym after, sym count)
]

no_bytes : (xs : List ℕ) → length xs < 1 → xs ≡ []
no_bytes [] h = refl
no_bytes (x ∷ xs) h = absurd (omega arith)

-- ---- how it stops

-- some bytes, and then a beginning of others
pub within_more : (a b c : Source) (n k : ℕ) → Takes a n b → MovesWithin b k c → MovesWithin a (n + k) c
within_more a b c n k p q =
    let first : MovesWithin a n b = within_taken a b n p in
    (omega arith, moves_more a b c first.1 q.1)

-- a beginning of the next frame
pub leaves : (o : Order) (old new : Source) (n : ℕ) → n ≤ frame_length o old.left → MovesWithin old n new → MovesWithinFrame o old.left new.left
leaves o old new n h p = (p.1.0, omega arith, last_moved old new p.1)

-- a kind of the layout, or another
layout_or_not : (e : ErrorKind) → IsTrue (of_layout e) ⊎ (IsTrue (of_layout e) → ⊥)
layout_or_not Eof = inl refl
layout_or_not InvalidRecord = inl refl
layout_or_not UnsupportedConfig = inl refl
layout_or_not UnsupportedData = inl refl
layout_or_not External = inr (λ h. cc)
layout_or_not OutOfMemory = inr (λ h. cc)

not_the_end : (e : ErrorKind) → (IsTrue (of_layout e) → ⊥) → e ≡ Eof → ⊥
not_the_end e other same = other (subst (λ (k : ErrorKind). IsTrue (of_layout k)) (sym same) refl)

-- of the layout's kinds a buffer refuses only with the end
refuses_layout : (a : Source) (e : ErrorKind) → IsTrue (of_layout e) → Refuses a e → e ≡ Eof
refuses_layout a Eof h p = refl
refuses_layout a InvalidRecord h p = absurd p
refuses_layout a UnsupportedConfig h p = absurd p
refuses_layout a UnsupportedData h p = absurd p
refuses_layout a External h p = cc
refuses_layout a OutOfMemory h p = cc

-- if the first byte of a header was refused
pub stops_first : (old new : ReaderState) (r : Refusal) (s : Stop) → (refusal_kind r ≡ Eof → s ≡ stop.Done) → ((refusal_kind r ≡ Eof → ⊥) → s ≡ stop.Refused r) →
    (IsTrue (of_layout (refusal_kind r)) → one_took old.order (byte_string 1) old.source.left old.reads ≡ quit (refusal_kind r) new.source.left new.reads) →
    MovesWithin old.source 1 new.source → StopsAt old s new
stops_first old new r s eof other gives within = elim (layout_or_not (refusal_kind r)) [
  | inl layout ↦
      let p = lacking old.order 1 old.source.left new.source.left (refusal_kind r) old.reads new.reads (omega arith) (gives layout) in
      subst (λ (x : Stop). StopsAt old x new) (sym (eof p.1)) (no_bytes old.source.left p.0, p.2, p.3)
  | inr none ↦
      subst (λ (x : Stop). StopsAt old x new) (sym (other (not_the_end (refusal_kind r) none))) (none, leaves old.order old.source new.source 1 (omega arith) within)
]

-- if one of the others was
pub stops_others : (old mid new : ReaderState) (r : Refusal) (s : Stop) (first : List ℕ) → (refusal_kind r ≡ Eof → s ≡ stop.CutHeader) → ((refusal_kind r ≡ Eof → ⊥) → s ≡ stop.Refused r) →
    one_took old.order (byte_string 1) old.source.left old.reads ≡ took first mid.source.left mid.reads →
    (IsTrue (of_layout (refusal_kind r)) → one_took mid.order (byte_string 7) mid.source.left mid.reads ≡ quit (refusal_kind r) new.source.left new.reads) →
    MovesWithin mid.source 7 new.source → StopsAt old s new
stops_others old mid new r s first eof other one gives within =
    let a = taken old.order 1 old.source.left first mid.source.left old.reads mid.reads (omega arith) one in
    let left : length mid.source.left ≡ length old.source.left - 1 = ap length a.2 ∙ length-drop 1 old.source.left in
    elim (layout_or_not (refusal_kind r)) [
      | inl layout ↦
          let p = lacking mid.order 7 mid.source.left new.source.left (refusal_kind r) mid.reads new.reads (omega arith) (gives layout) in
          subst (λ (x : Stop). StopsAt old x new) (sym (eof p.1)) (omega (arith, a.0), omega (arith, left, p.0), p.2, omega (arith, p.3, a.3))
      | inr none ↦
          subst (λ (x : Stop). StopsAt old x new) (sym (other (not_the_end (refusal_kind r) none)))
          (none, leaves old.order old.source new.source 8 (omega arith) (within_more old.source mid.source new.source 1 7 (a.0, a.2) within))
    ]

-- if the buffer showed no first byte of a header
pub stops_unshown : (old new : ReaderState) (r : Refusal) (s : Stop) → (refusal_kind r ≡ Eof → s ≡ stop.Done) → ((refusal_kind r ≡ Eof → ⊥) → s ≡ stop.Refused r) →
    Refuses old.source (refusal_kind r) → IsTrue old.source.told → new.source.left ≡ old.source.left → new.reads ≡ old.reads + 1 → StopsAt old s new
stops_unshown old new r s eof other why told same count = elim (layout_or_not (refusal_kind r)) [
  | inl layout ↦
      let kind = refuses_layout old.source (refusal_kind r) layout why in
      let none : old.source.left ≡ [] = subst (λ k. Refuses old.source k) kind why told in
      subst (λ (x : Stop). StopsAt old x new) (sym (eof kind)) (none, same ∙ none, count)
  | inr none ↦
      let long : length new.source.left ≡ length old.source.left = ap length same in
      subst (λ (x : Stop). StopsAt old x new) (sym (other (not_the_end (refusal_kind r) none))) (none, (omega (arith, long), omega (arith, long), same ∙ sym (last_all old.source.left) ∙ ap (λ k. last_of k old.source.left) (sym long)))
]

-- ---- a header of which the buffer did not show all, so that nothing was taken

header_unshown : (old mid new : ReaderState) (outcome : Result perf_event_header ErrorKind) → mid.order ≡ old.order → (mid.source.left ≡ old.source.left) × (mid.reads ≡ old.reads) → ReadsHeader mid outcome new → ReadsHeader old outcome new
header_unshown old mid new (Ok h) order same p = (
  subst (λ (xs : List ℕ). 8 ≤ length xs) same.0 p.0,
  p.1 ∙ ap (λ (k : Order). header_of k mid.source.left) order ∙ ap (header_of old.order) same.0,
  p.2 ∙ ap (drop 8) same.0,
  p.3 ∙ ap (λ n. n + 2) same.1,
)
header_unshown old mid new (Err e) order same p = tt

unshown_stop : (old mid new : ReaderState) (s : Stop) → mid.order ≡ old.order → (mid.source.left ≡ old.source.left) × (mid.reads ≡ old.reads) → StopsAt mid s new → StopsAt old s new
unshown_stop old mid new stop.Done order same p = (sym same.0 ∙ p.0, p.1, p.2 ∙ ap (λ n. n + 1) same.1)
unshown_stop old mid new stop.CutHeader order same p = (
  subst (λ (xs : List ℕ). 0 < length xs) same.0 p.0,
  subst (λ (xs : List ℕ). length xs < 8) same.0 p.1,
  p.2,
  p.3 ∙ ap (λ n. n + 2) same.1,
)
unshown_stop old mid new (stop.Refused r) order same p =
    (p.0, subst (λ (xs : List ℕ). MovesWithinFrame old.order xs new.source.left) same.0 (subst (λ (k : Order). MovesWithinFrame k mid.source.left new.source.left) order p.1))

unshown_stops : {A : Type 0} (old mid new : ReaderState) (result : Result A Stop) → mid.order ≡ old.order → (mid.source.left ≡ old.source.left) × (mid.reads ≡ old.reads) → IfErr result (λ s. StopsAt mid s new) → IfErr result (λ s. StopsAt old s new)
unshown_stops old mid new (Ok h) order same p = tt
unshown_stops old mid new (Err s) order same p = unshown_stop old mid new s order same p

module _ {I E : Type 0} {source : I → Source} {order : E → Order} {a b : Reader I E} where
  -- it is read in two parts instead
  pub read_in_two : {c : Reader I E} (shown : Option perf_event_header) (outcome : Result perf_event_header ErrorKind) → shown ≡ None → Call source order ReadsShownHeader a (Ok shown) b → Call source order ReadsHeader b outcome c → Call source order ReadsHeader a outcome c
  read_in_two (Some h) outcome none first next = cc
  read_in_two {c} None outcome none first next = record {
    config = next.config ∙ first.config;
    whole = next.whole ∙ first.whole;
    told = λ t. next.told (first.told t);
    answer = λ t. header_unshown (state_of source order a) (state_of source order b) (state_of source order c) outcome
        (ap (λ k. order (endian_of k)) first.config) (first.answer t) (next.answer (first.told t));
    keeps = λ start k. next.keeps start (first.keeps start k);
  }

  -- and a run stops there
  pub stops_in_two : {A : Type 0} (c : Reader I E) (shown : Option perf_event_header) (result : Result A Stop) → shown ≡ None → Call source order ReadsShownHeader a (Ok shown) b →
      (IsTrue (source b.input).told → IfErr result (λ s. StopsAt (state_of source order b) s (state_of source order c))) → IsTrue (source a.input).told → IfErr result (λ s. StopsAt (state_of source order a) s (state_of source order c))
  stops_in_two c (Some h) result none first next told = cc
  stops_in_two c None result none first next told = unshown_stops (state_of source order a) (state_of source order b) (state_of source order c) result (ap (λ k. order (endian_of k)) first.config) (first.answer told) (next (first.told told))
