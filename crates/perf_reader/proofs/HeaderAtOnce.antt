-- A header that is taken at once.
use Rattle.std.proofs.Common.{◌≡◌, ℕ, ◌+◌, ◌-◌, ◌≤◌, List, length, take, drop, None, refl, sym, ◌∙◌, ap, arith, length-drop}
use Rattle.std.proofs.lemmas.List.{drop-drop, take-take, drop-take}
use Rattle.std.specs.Prelude.{IsTrue}
use Rattle.perf_base.specs.Header.{header, header_of}
use Rattle.perf_base.specs.FieldWords.{u16}
use Rattle.perf_base.specs.Layout.{Shape, ShapeValue, Parts, part, done, ◌>>=◌, number, w2, w4}
use Rattle.perf_base.specs.Order.{Order}
use Rattle.perf_base.specs.Took.{Took, took, quit, one_took, take_parts, took_by_places}
use Rattle.perf_base.specs.declared.error.ErrorKind.{ErrorKind}
use Rattle.perf_base.specs.declared.error.ErrorKind.TheVariants.{Eof, InvalidRecord, UnsupportedConfig, UnsupportedData, External, OutOfMemory}
use Rattle.perf_base.specs.declared.sys.perf_event_header.{perf_event_header}
use Rattle.perf_base.proofs.Took.{took_yes, places_took, then_take}
use Rattle.perf_buffers.specs.Buffer.{Source, BufferInvariant}
use Rattle.perf_buffers.specs.Taking.{FailsToTake, Takes}
use Rattle.perf_reader.specs.ReaderState.{ReaderState}
use Rattle.perf_reader.specs.Reading.{of_layout, CallInvariant}
use Rattle.perf_reader.proofs.Calls.{keeps_more, place_after}

-- one part, and then the others
take_step : {A : Type 0} (o : Order) (shape : Shape) (k : ShapeValue shape → Parts A) (bytes : List ℕ) (n : ℕ) →
    take_parts o (part shape k) bytes n ≡ then_take (λ v left m. take_parts o (k v) left m) (one_took o shape bytes n)
take_step {A} o shape k bytes n = go (one_took o shape bytes n)
  where
    go : (r : Took (ShapeValue shape)) → ◌≡◌ {A = Took A} (elim r [ took v left m ↦ take_parts o (k v) left m | quit e left m ↦ quit e left m ]) (then_take (λ v left m. take_parts o (k v) left m) r)
    go (took v left m) = refl
    go (quit e left m) = refl

-- what follows the type, and what follows misc
abbrev after_type : ℕ → Parts perf_event_header
after_type ty = u16 >>= λ misc. (u16 >>= λ size. done (record { type_ = ty; misc = misc; size = size }))

abbrev after_misc : ℕ → ℕ → Parts perf_event_header
after_misc ty misc = u16 >>= λ size. done (record { type_ = ty; misc = misc; size = size })

abbrev after_size : ℕ → ℕ → ℕ → Parts perf_event_header
after_size ty misc size = done (record { type_ = ty; misc = misc; size = size })

-- three numbers that are present
header_taken : (o : Order) (bytes : List ℕ) (n : ℕ) → 8 ≤ length bytes → took_by_places o header bytes n ≡ took (header_of o bytes) (drop 8 bytes) (n + 3)
header_taken o bytes n fits =
    let four : one_took o (number w4) bytes n ≡ took (o.four (take 4 bytes)) (drop 4 bytes) (n + 1) = took_yes o (number w4) bytes n (omega (arith, fits)) in
    let long : length (drop 4 bytes) ≡ length bytes - 4 = length-drop 4 bytes in
    let two : one_took o (number w2) (drop 4 bytes) (n + 1) ≡ took (o.two (take 2 (drop 4 bytes))) (drop 2 (drop 4 bytes)) (n + 1 + 1) = took_yes o (number w2) (drop 4 bytes) (n + 1) (omega (arith, fits, long)) in
    let six : drop 2 (drop 4 bytes) ≡ drop 6 bytes = drop-drop 2 4 bytes in
    let long6 : length (drop 6 bytes) ≡ length bytes - 6 = length-drop 6 bytes in
    let last : one_took o (number w2) (drop 6 bytes) (n + 1 + 1) ≡ took (o.two (take 2 (drop 6 bytes))) (drop 2 (drop 6 bytes)) (n + 1 + 1 + 1) = took_yes o (number w2) (drop 6 bytes) (n + 1 + 1) (omega (arith, fits, long6)) in
    let eight : drop 2 (drop 6 bytes) ≡ drop 8 bytes = drop-drop 2 6 bytes in
    let count : n + 1 + 1 + 1 ≡ n + 3 = omega arith in
    let ty : ℕ = o.four (take 4 bytes) in
    let misc : ℕ = o.two (take 2 (drop 4 bytes)) in
    places_took o header bytes n
    ∙ take_step o (number w4) after_type bytes n
    ∙ ap (then_take (λ v left m. take_parts o (after_type v) left m)) four
    ∙ take_step o (number w2) (after_misc ty) (drop 4 bytes) (n + 1)
    ∙ ap (then_take (λ v left m. take_parts o (after_misc ty v) left m)) (two ∙ ap (λ xs. took misc xs (n + 1 + 1)) six)
    ∙ take_step o (number w2) (after_size ty misc) (drop 6 bytes) (n + 1 + 1)
    ∙ ap (then_take (λ v left m. take_parts o (after_size ty misc v) left m)) last
    ∙ ap (λ xs. took (header_of o bytes) xs (n + 1 + 1 + 1)) eight
    ∙ ap (took (header_of o bytes) (drop 8 bytes)) count

-- a header is that of its eight bytes
pub header_front : (o : Order) (bytes : List ℕ) → header_of o bytes ≡ header_of o (take 8 bytes)
header_front o bytes =
    ap (λ xs. record { type_ = o.four xs; misc = o.two (take 2 (drop 4 bytes)); size = o.two (take 2 (drop 6 bytes)) }) (sym (take-take 4 8 bytes (omega arith)))
    ∙ ap (λ xs. record { type_ = o.four (take 4 (take 8 bytes)); misc = o.two xs; size = o.two (take 2 (drop 6 bytes)) }) (sym (ap (take 2) (drop-take 4 4 bytes) ∙ take-take 2 4 (drop 4 bytes) (omega arith)))
    ∙ ap (λ xs. record { type_ = o.four (take 4 (take 8 bytes)); misc = o.two (take 2 (drop 4 (take 8 bytes))); size = o.two xs }) (sym (ap (take 2) (drop-take 6 2 bytes) ∙ take-take 2 2 (drop 6 bytes) (omega arith)))

-- the same, of bytes that were taken at once
pub header_of_front : (o o2 : Order) (bytes xs : List ℕ) (h : perf_event_header) → xs ≡ take 8 bytes → o2 ≡ o → h ≡ header_of o2 xs → h ≡ header_of o bytes
header_of_front o o2 bytes xs h front order is = is ∙ ap (λ (p : Order). header_of p xs) order ∙ ap (header_of o) front ∙ sym (header_front o bytes)

pub header_at_once : (o o2 : Order) (bytes xs left : List ℕ) (n m : ℕ) (h : perf_event_header) → 8 ≤ length bytes → xs ≡ take 8 bytes → left ≡ drop 8 bytes → m ≡ n + 3 → o2 ≡ o → h ≡ header_of o2 xs → took_by_places o header bytes n ≡ took h left m
header_at_once o o2 bytes xs left n m h fits front after count order is =
    let same : header_of o bytes ≡ h = sym (header_of_front o o2 bytes xs h front order is) in
    header_taken o bytes n fits ∙ rw (same, after, count) refl

-- they are present, so the layout does not refuse them
pub never_short : (o : Order) (old new : Source) (e : ErrorKind) (n m : ℕ) → 8 ≤ length old.left → FailsToTake old 8 e new → IsTrue (of_layout e) → took_by_places o header old.left n ≡ quit e new.left m
never_short o old new Eof n m has p kind = absurd (omega (arith, has, p.0))
never_short o old new InvalidRecord n m has p kind = absurd p
never_short o old new UnsupportedConfig n m has p kind = absurd p
never_short o old new UnsupportedData n m has p kind = absurd p
never_short o old new External n m has p kind = cc
never_short o old new OutOfMemory n m has p kind = absurd p

-- they were taken, and counted
pub header_keeps : (start old new : ReaderState) (k : ℕ) → k ≤ 8 → CallInvariant start None old → new.reads ≡ old.reads + k → BufferInvariant old.source None new.source → (IsTrue old.source.told → Takes old.source 8 new.source) → CallInvariant start None new
header_keeps start old new k few p count stays moves = keeps_more start old new None p (record {
  buffer = stays;
  fault = λ x. cc;
  cost = λ t. let m = moves t in let l : length new.source.left ≡ length old.source.left - 8 = ap length m.1 ∙ length-drop 8 old.source.left in
      (omega (arith, count), omega (arith, count, few, l, m.0));
  place = λ t. place_after old.source new.source 8 (moves t);
})
