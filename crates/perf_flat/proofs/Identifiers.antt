-- The frame at the front of bytes, if a whole one is there.
use Rattle.std.specs.Prelude.{nat_le, nat_lt}
use Rattle.std.proofs.Common.{◌≡◌, ℕ, ◌-◌, ◌≤◌, ◌<◌, Bool, true, false, List, ◌∷◌, length, take, drop, refl, sym, ◌∙◌, ap, inl, inr, arith}
use Rattle.std.proofs.lemmas.Bool.{cases_lt, lt-ltb, le-ltb, le-leb, lt-leb}
use Rattle.std.proofs.lemmas.List.{length-drop, drop-take}
use Rattle.perf_base.specs.Header.{header_of}
use Rattle.perf_base.specs.Order.{Order}
use Rattle.perf_base.specs.declared.error.ErrorKind.{ErrorKind}
use Rattle.perf_base.specs.declared.refusal.Refusal.{Refusal}
use Rattle.perf_base.specs.declared.refusal.Refusal.TheVariants as why
use Rattle.perf_base.specs.declared.error.ErrorKind.TheVariants.{Eof, InvalidRecord}
use Rattle.perf_base.specs.declared.sys.perf_event_header.{perf_event_header}
use Rattle.perf_records.specs.Answers.{length_after}
use Rattle.perf_records.specs.FrameList.{sights}
use Rattle.perf_records.specs.Sights.{Sight, whole, bad, sight_after, sight_in}
use Rattle.perf_records.proofs.Handovers.{finished}
use Rattle.perf_records.proofs.Headers.{frame_body}
use Rattle.perf_flat.specs.Identifiers.{has_whole, first_rest}
use Rattle.perf_flat.proofs.FrameAnswers.{at_front}

rest_is : (o : Order) (bytes : List ℕ) → first_rest o bytes ≡ take (length_after (header_of o bytes)) (drop 8 bytes)
rest_is o bytes =
    let h : perf_event_header = header_of o bytes in
    ap (λ n. drop 8 (take n bytes)) (frame_body h) ∙ drop-take 8 (length_after h) bytes

-- what is there if no whole frame is
sight_small : (h : perf_event_header) (bytes : List ℕ) → h.size < 8 → sight_after h bytes true ≡ bad h why.SmallHeader
sight_small h bytes small = let a : nat_lt h.size 8 ≡ true = lt-ltb h.size 8 small in rw a refl

sight_short : (h : perf_event_header) (bytes : List ℕ) → 8 ≤ h.size → length bytes < length_after h → sight_after h bytes true ≡ bad h why.Eof
sight_short h bytes sized short =
    let a : nat_lt h.size 8 ≡ false = le-ltb h.size 8 sized in
    let b : nat_lt (length bytes) (length_after h) ≡ true = lt-ltb (length bytes) (length_after h) short in
    rw (a, b) refl

-- there is none without a header, by its size, or by the bytes that are there
pub none_whole : (o : Order) (bytes : List ℕ) → length bytes < 8 → has_whole o bytes ≡ false
none_whole o bytes short = let a : nat_le 8 (length bytes) ≡ false = lt-leb 8 (length bytes) short in rw a refl

small_whole : (o : Order) (bytes : List ℕ) → 8 ≤ length bytes → (header_of o bytes).size < 8 → has_whole o bytes ≡ false
small_whole o bytes fits small =
    let a : nat_le 8 (length bytes) ≡ true = le-leb 8 (length bytes) fits in
    let b : nat_le 8 (header_of o bytes).size ≡ false = lt-leb 8 (header_of o bytes).size small in
    rw (a, b) refl

short_whole : (o : Order) (bytes : List ℕ) → 8 ≤ length bytes → 8 ≤ (header_of o bytes).size → length bytes < (header_of o bytes).size → has_whole o bytes ≡ false
short_whole o bytes fits sized short =
    let a : nat_le 8 (length bytes) ≡ true = le-leb 8 (length bytes) fits in
    let b : nat_le 8 (header_of o bytes).size ≡ true = le-leb 8 (header_of o bytes).size sized in
    let d : nat_le (header_of o bytes).size (length bytes) ≡ false = lt-leb (header_of o bytes).size (length bytes) short in
    rw (a, b, d) refl

all_whole : (o : Order) (bytes : List ℕ) → 8 ≤ length bytes → 8 ≤ (header_of o bytes).size → (header_of o bytes).size ≤ length bytes → has_whole o bytes ≡ true
all_whole o bytes fits sized long =
    let a : nat_le 8 (length bytes) ≡ true = le-leb 8 (length bytes) fits in
    let b : nat_le 8 (header_of o bytes).size ≡ true = le-leb 8 (header_of o bytes).size sized in
    let d : nat_le (header_of o bytes).size (length bytes) ≡ true = le-leb (header_of o bytes).size (length bytes) long in
    rw (a, b, d) refl

-- a whole frame is there, and this is it
pub record IsFirst (o : Order) (bytes rest : List ℕ) (h : perf_event_header) : Type 0 where
  pub whole : has_whole o bytes ≡ true
  pub header : h ≡ header_of o bytes
  pub after : rest ≡ first_rest o bytes

pub whole_is : (o : Order) (bytes rest : List ℕ) (h : perf_event_header) (borrowed : Bool) → 8 ≤ length bytes → sight_in o bytes true ≡ whole h rest borrowed → IsFirst o bytes rest h
whole_is o bytes rest h borrowed fits seen =
    let k : perf_event_header = header_of o bytes in
    let after : List ℕ = drop 8 bytes in
    let long : length after ≡ length bytes - 8 = length-drop 8 bytes in
    elim (cases_lt k.size 8) [
      | inl small ↦ let no = sym (sight_small k after small) ∙ seen in absurd (cc)
      | inr sized ↦ elim (cases_lt (length after) (length_after k)) [
        | inl short ↦ let no = sym (sight_short k after sized short) ∙ seen in absurd (cc)
        | inr there ↦
            let e = sym (finished k after true sized there) ∙ seen in
            let header : k ≡ h = cc in
            let bytes_are : take (length_after k) after ≡ rest = cc in
            record {
              whole = all_whole o bytes fits sized (omega (arith, long, there, fits));
              header = sym header;
              after = sym (rest_is o bytes ∙ bytes_are);
            }
      ]
    ]

pub bad_is : (o : Order) (bytes : List ℕ) (h : perf_event_header) (e : Refusal) → 8 ≤ length bytes → sight_in o bytes true ≡ bad h e → has_whole o bytes ≡ false
bad_is o bytes h e fits seen =
    let k : perf_event_header = header_of o bytes in
    let after : List ℕ = drop 8 bytes in
    let long : length after ≡ length bytes - 8 = length-drop 8 bytes in
    elim (cases_lt k.size 8) [
      | inl small ↦ small_whole o bytes fits small
      | inr sized ↦ elim (cases_lt (length after) (length_after k)) [
        | inl short ↦ short_whole o bytes fits sized (omega (arith, long, short, sized))
        | inr there ↦ let no = sym (finished k after true sized there) ∙ seen in absurd (cc)
      ]
    ]

-- ---- what the iterator returns

-- it is the whole frame at the front, or none is there
pub whole_at : (o p : Order) (bytes left rest : List ℕ) (h : perf_event_header) (borrowed : Bool) (xs : List Sight) → p ≡ o → left ≡ bytes → sights p left ≡ whole h rest borrowed ∷ xs → IsFirst o bytes rest h
whole_at o p bytes left rest h borrowed xs same front e =
    let there = at_front o p bytes left (whole h rest borrowed) xs same front e in
    whole_is o bytes rest h borrowed there.0 there.1

pub bad_at : (o p : Order) (bytes left : List ℕ) (h : perf_event_header) (e : Refusal) (xs : List Sight) → p ≡ o → left ≡ bytes → sights p left ≡ bad h e ∷ xs → has_whole o bytes ≡ false
bad_at o p bytes left h e xs same front steps =
    let there = at_front o p bytes left (bad h e) xs same front steps in
    bad_is o bytes h e there.0 there.1
