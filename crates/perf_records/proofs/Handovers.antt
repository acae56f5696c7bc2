-- What a handler gets.
use Rattle.std.proofs.Common.{◌≡◌, ℕ, ◌<◌, ◌≤◌, List, Bool, length, take, drop, arith, refl, sym, ◌∙◌, ap, subst, true, false, nat_lt, [], inl, inr}
use Rattle.std.specs.Prelude.{IsTrue}
use Rattle.std.proofs.lemmas.Bool.{cases_lt, lt-ltb, le-ltb}
use Rattle.std.proofs.lemmas.List.{drop_all, take_all, take-take, drop-take, length-take-le}
use Rattle.perf_base.specs.declared.error.ErrorKind.{ErrorKind}
use Rattle.perf_base.specs.declared.error.ErrorKind.TheVariants.{Eof, InvalidRecord, UnsupportedConfig, UnsupportedData, External, OutOfMemory}
use Rattle.perf_base.specs.declared.sys.perf_event_header.{perf_event_header}
use Rattle.perf_buffers.specs.Buffer.{Source}
use Rattle.perf_base.specs.declared.refusal.Refusal.TheVariants as why
use Rattle.perf_buffers.specs.Taking.{FailsToKeep}
use Rattle.perf_reader.specs.Reading.{of_layout}
use Rattle.perf_base.specs.Header.{header_of}
use Rattle.perf_base.specs.Order.{Order}
use Rattle.perf_records.specs.Answers.{length_after}
use Rattle.perf_records.specs.Frames.{frame_length}
use Rattle.perf_records.proofs.Headers.{frame_body, header_alone}
use Rattle.perf_records.specs.Sights.{Sight, bad, whole, sight_after, sight_in, HandsAfter}

unfinished : (h : perf_event_header) (bytes : List ℕ) (borrowed : Bool) → 8 ≤ h.size → length bytes < length_after h → sight_after h bytes borrowed ≡ bad h why.Eof
unfinished h bytes borrowed sized short =
    let a : nat_lt h.size 8 ≡ false = le-ltb h.size 8 sized in
    let b : nat_lt (length bytes) (length_after h) ≡ true = lt-ltb (length bytes) (length_after h) short in
    rw (a, b) refl

pub finished : (h : perf_event_header) (bytes : List ℕ) (borrowed : Bool) → 8 ≤ h.size → length_after h ≤ length bytes → sight_after h bytes borrowed ≡ whole h (take (length_after h) bytes) borrowed
finished h bytes borrowed sized fits =
    let a : nat_lt h.size 8 ≡ false = le-ltb h.size 8 sized in
    let b : nat_lt (length bytes) (length_after h) ≡ false = le-ltb (length bytes) (length_after h) fits in
    rw (a, b) refl

-- a frame that is unfinished was passed on as that
pub hands_unfinished : {S : Type 0} (gets : S → Sight → Bool → S → Type 0) (h : perf_event_header) (old new : Source) (was now : S) (go : Bool) → 8 ≤ h.size → (length_after h ≡ 0 → ⊥) →
    (IsTrue old.told → FailsToKeep old (length_after h) Eof new) → gets was (bad h why.Eof) go now → HandsAfter gets h old was go new now
hands_unfinished {S} gets h old new was now go sized some fails got = by old.told refl
  where
    P : Sight → Type 0
    P x = gets was x go now

    by : (b : Bool) → old.told ≡ b → HandsAfter gets h old was go new now
    by true told =
        let f = fails told in
        let all : take (length_after h) old.left ≡ old.left = take_all (length_after h) old.left (omega arith) in
        let short : length (take (length_after h) old.left) < length_after h = omega (arith, f.0, ap length all) in
        (take (length_after h) old.left, true, subst P (sym (unfinished h (take (length_after h) old.left) true sized short)) got, (λ t. (refl, f.1 ∙ sym (drop_all (length_after h) old.left (omega arith)))), (λ whole. refl))
    by false untold =
        let n : length_after h ≡ 0 → ⊥ = some in
        let short : length {A = ℕ} [] < length_after h = omega (arith, n) in
        ([], true, subst P (sym (unfinished h [] true sized short)) got, (λ told. let never : false ≡ true = sym untold ∙ told in absurd (cc)), (λ whole. refl))

-- a refusal other than the end is none of the layout
pub stops_run : (old new : Source) (n : ℕ) (e : ErrorKind) → (e ≡ Eof → ⊥) → FailsToKeep old n e new → IsTrue (of_layout e) → ⊥
stops_run old new n Eof other p kind = other refl
stops_run old new n InvalidRecord other p kind = p
stops_run old new n UnsupportedConfig other p kind = p
stops_run old new n UnsupportedData other p kind = p
stops_run old new n External other p kind = absurd (cc)
stops_run old new n OutOfMemory other p kind = absurd (cc)

-- a frame looks the same whatever comes after it
pub sight_take : (h : perf_event_header) (bytes : List ℕ) (borrowed : Bool) → sight_after h (take (length_after h) bytes) borrowed ≡ sight_after h bytes borrowed
sight_take h bytes borrowed = elim (cases_lt h.size 8) [
  | inl small ↦ let a : nat_lt h.size 8 ≡ true = lt-ltb h.size 8 small in rw a refl
  | inr sized ↦ elim (cases_lt (length bytes) (length_after h)) [
    | inl short ↦ ap (λ xs. sight_after h xs borrowed) (take_all (length_after h) bytes (omega arith))
    | inr fits ↦
        let long : length (take (length_after h) bytes) ≡ length_after h = length-take-le (length_after h) bytes fits in
        let a : nat_lt h.size 8 ≡ false = le-ltb h.size 8 sized in
        let b : nat_lt (length bytes) (length_after h) ≡ false = le-ltb (length bytes) (length_after h) fits in
        let d : nat_lt (length (take (length_after h) bytes)) (length_after h) ≡ false = le-ltb (length (take (length_after h) bytes)) (length_after h) (omega (arith, long)) in
        let t : take (length_after h) (take (length_after h) bytes) ≡ take (length_after h) bytes = take-take (length_after h) (length_after h) bytes (omega arith) in
        rw (a, b, d, t) refl
  ]
]

pub sight_alone : (o : Order) (bytes : List ℕ) (borrowed : Bool) → sight_in o (take (frame_length o bytes) bytes) borrowed ≡ sight_in o bytes borrowed
sight_alone o bytes borrowed =
    let h : perf_event_header = header_of o bytes in
    let frame : List ℕ = take (frame_length o bytes) bytes in
    let rest : drop 8 frame ≡ take (length_after h) (drop 8 bytes) = ap (λ n. drop 8 (take n bytes)) (frame_body h) ∙ drop-take 8 (length_after h) bytes in
    ap (λ k. sight_after k (drop 8 frame) borrowed) (header_alone o bytes)
    ∙ ap (λ xs. sight_after h xs borrowed) rest
    ∙ sight_take h (drop 8 bytes) borrowed
