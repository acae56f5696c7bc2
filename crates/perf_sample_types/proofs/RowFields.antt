-- Fields of eight bytes that are taken one after another from bytes in memory.
use Rattle.std.proofs.Common.{◌≡◌, ℕ, ◌+◌, ◌-◌, ◌≤◌, ◌^◌, ◌==◌, List, [], ◌∷◌, ◌++◌, length, take, drop, Bool, true, false, refl, sym, ◌∙◌, ap, subst, arith}
use Rattle.std.proofs.lemmas.List.{take-append-drop, take-append-le, drop-append-le, append_assoc, length-append, length-take-le, length-drop, take-take, drop-take, drop-drop}
use Rattle.std.proofs.Math.Seq.{drop-append_seam}
use Rattle.std.specs.Prelude.{Option, Some, None, Ok, IsTrue}
use Rattle.std.specs.Int.RustNames.{bit_and}
use Rattle.perf_base.specs.Configuration.{Configuration}
use Rattle.perf_base.specs.Layout.{Shape, ShapeValue, size, shape_value, Parts, done, part, number, padding, w4, w8}
use Rattle.perf_base.specs.LayoutReads.{part_reads}
use Rattle.perf_base.specs.Order.{Order}
use Rattle.perf_base.specs.Table.{present_if}
use Rattle.perf_base.specs.Took.{Took, took, quit, take_parts}
use Rattle.perf_base.proofs.Took.{places_took, then_take, took_yes}
use Rattle.perf_buffers.specs.Buffer.{Source}
use Rattle.perf_reader.specs.AtOnce.{PassesOver}
use Rattle.perf_reader.specs.Calls.{Call}
use Rattle.perf_reader.specs.ReaderState.{ReaderState, state_of}
use Rattle.perf_reader.specs.TableRuns.{ReadsTable, before, table_took}
use Rattle.perf_reader.specs.declared.reader.Reader.{Reader}
use Rattle.perf_reader.proofs.TableRuns.{field_there, field_absent, places_table}
use Rattle.perf_sample_types.specs.Sample.{FieldValue, SampleValue, plain_field, task, cpu, number_is, task_is, has_one}
use Rattle.perf_sample_types.specs.SampleRows.{TakesFront, TakesField, TakesFields}
use Rattle.perf_sample_types.specs.declared.sample_row.Row.{Row}
use Rattle.perf_sample_types.proofs.FlaggedFields.{flag_asked}

-- ---- what eight bytes are

-- one part that is present, and then the others
step : {A : Type 0} (o : Order) (shape : Shape) (k : ShapeValue shape → Parts A) (bytes : List ℕ) (n : ℕ) → size shape (length bytes) ≤ length bytes →
    take_parts o (part shape k) bytes n
    ≡ take_parts o (k (shape_value o shape (take (size shape (length bytes)) bytes))) (drop (size shape (length bytes)) bytes) (n + part_reads shape (size shape (length bytes)))
step {A} o shape k bytes n fits =
    ap (λ r. elim r as (λ r. Took A) [ took v left m ↦ take_parts o (k v) left m | quit e left m ↦ quit e left m ]) (took_yes o shape bytes n fits)

-- the first half of a word, and the second
first_four : (bytes word : List ℕ) → take 8 bytes ≡ word → take 4 bytes ≡ take 4 word
first_four bytes word is = sym (take-take 4 8 bytes (omega arith)) ∙ ap (take 4) is

last_four : (bytes word : List ℕ) → take 8 bytes ≡ word → take 4 (drop 4 bytes) ≡ drop 4 word
last_four bytes word is = sym (drop-take 4 4 bytes) ∙ ap (drop 4) is

-- a number
pub word_number : (o : Order) (bytes word : List ℕ) (n : ℕ) → 8 ≤ length bytes → take 8 bytes ≡ word →
    take_parts o plain_field bytes n ≡ took (number_is (o.eight word)) (drop 8 bytes) (n + 1)
word_number o bytes word n fits is =
    step o (number w8) (λ v. done (number_is v)) bytes n fits
    ∙ ap (λ xs. took (number_is (o.eight xs)) (drop 8 bytes) (n + 1)) is

-- a process and its thread
pub word_task : (o : Order) (bytes word : List ℕ) (n : ℕ) → 8 ≤ length bytes → take 8 bytes ≡ word →
    take_parts o task bytes n ≡ took (task_is (Some (o.four (take 4 word))) (Some (o.four (drop 4 word)))) (drop 8 bytes) (n + 2)
word_task o bytes word n fits is =
    let left : 4 ≤ length (drop 4 bytes) = omega (arith, fits, length-drop 4 bytes) in
    step o (number w4) (λ pid. part (number w4) (λ tid. done (task_is (Some pid) (Some tid)))) bytes n (omega (arith, fits))
    ∙ step o (number w4) (λ tid. done (task_is (Some (o.four (take 4 bytes))) (Some tid))) (drop 4 bytes) (n + 1) left
    ∙ ap (λ xs. took (task_is (Some (o.four xs)) (Some (o.four (take 4 (drop 4 bytes))))) (drop 4 (drop 4 bytes)) (n + 1 + 1)) (first_four bytes word is)
    ∙ ap (λ xs. took (task_is (Some (o.four (take 4 word))) (Some (o.four xs))) (drop 4 (drop 4 bytes)) (n + 1 + 1)) (last_four bytes word is)
    ∙ ap (λ xs. took (task_is (Some (o.four (take 4 word))) (Some (o.four (drop 4 word)))) xs (n + 1 + 1)) (drop-drop 4 4 bytes)
    ∙ ap (took (task_is (Some (o.four (take 4 word))) (Some (o.four (drop 4 word)))) (drop 8 bytes)) (twice n)
  where
    twice : (n : ℕ) → n + 1 + 1 ≡ n + 2
    twice n = omega arith

-- a processor
pub word_cpu : (o : Order) (bytes word : List ℕ) (n : ℕ) → 8 ≤ length bytes → take 8 bytes ≡ word →
    take_parts o cpu bytes n ≡ took (number_is (o.four (take 4 word))) (drop 8 bytes) (n + 2)
word_cpu o bytes word n fits is =
    let left : 4 ≤ length (drop 4 bytes) = omega (arith, fits, length-drop 4 bytes) in
    step o (number w4) (λ number. part (padding 4) (λ u. done (number_is number))) bytes n (omega (arith, fits))
    ∙ step o (padding 4) (λ u. done (number_is (o.four (take 4 bytes)))) (drop 4 bytes) (n + 1) left
    ∙ ap (λ xs. took (number_is (o.four xs)) (drop 4 (drop 4 bytes)) (n + 1 + 1)) (first_four bytes word is)
    ∙ ap (λ xs. took (number_is (o.four (take 4 word))) xs (n + 1 + 1)) (drop-drop 4 4 bytes)
    ∙ ap (took (number_is (o.four (take 4 word))) (drop 8 bytes)) (twice n)
  where
    twice : (n : ℕ) → n + 1 + 1 ≡ n + 2
    twice n = omega arith

-- ---- one field after another

-- nothing was taken
pub front_none : (a : Row) → TakesFront a a
front_none a = ([], refl, omega arith)

-- a front, and then another
pub front_then : (a b c : Row) → TakesFront a b → TakesFront b c → TakesFront a c
front_then a b c first next = (
  first.0 ++ next.0,
  first.1 ∙ ap (λ xs. first.0 ++ xs) next.1 ∙ sym (append_assoc first.0 next.0 c.left.now),
  omega (arith, first.2, next.2, length-append first.0 next.0),
)

-- no field is left
pub row_ends : (o : Order) (a : Row) → TakesFields o [] [] a a
row_ends o a = (front_none a, λ tail n. refl)

-- a field, and then those after it
row_then : (o : Order) (field : Option (Parts FieldValue)) (fields : List (Option (Parts FieldValue))) (v : Option FieldValue) (vs : SampleValue) (a b c : Row) →
    TakesField o field v a b → TakesFields o fields vs b c → TakesFields o (field ∷ fields) (v ∷ vs) a c
row_then o field fields v vs a b c first next = (
  front_then a b c first.0 next.0,
  λ tail n.
      ap (λ r. elim r as (λ r. Took (List (Option FieldValue))) [ took v left m ↦ before v (table_took o fields left m) | quit e left m ↦ quit e left m ]) (first.1 tail n)
      ∙ ap (before v) (next.1 tail n),
)

-- a field of one flag
pub flag_in_row : (o : Order) (p : Parts FieldValue) (fields : List (Option (Parts FieldValue))) (v : Option FieldValue) (vs : SampleValue) (a b c : Row) {word type : ℕ} (bit : ℕ) →
    word ≡ type → TakesField o (present_if (bit_and word (2 ^ bit) == 2 ^ bit) p) v a b → TakesFields o fields vs b c →
    TakesFields o (present_if (has_one type (bit ∷ [])) p ∷ fields) (v ∷ vs) a c
flag_in_row o p fields v vs a b c {word} {type} bit asked first next =
    subst (λ t. TakesFields o (present_if t p ∷ fields) (v ∷ vs) a c) (sym (flag_asked bit asked)) (row_then o (present_if (bit_and word (2 ^ bit) == 2 ^ bit) p) fields v vs a b c first next)

-- ---- one field

-- it is absent
pub field_not_taken : (o : Order) (present : Bool) (p : Parts FieldValue) (a : Row) → present ≡ false → TakesField o (present_if present p) None a a
field_not_taken o present p a absent = (front_none a, λ tail n. field_absent o present p (a.left.now ++ tail) (n + a.reads) absent)

-- it is present, and takes eight bytes
pub field_taken : (o : Order) (present : Bool) (p : Parts FieldValue) (v : FieldValue) (word : List ℕ) (k : ℕ) (a b : Row) → present ≡ true →
    8 ≤ length a.left.now → take 8 a.left.now ≡ word → b.left.now ≡ drop 8 a.left.now → b.reads ≡ a.reads + k → k ≤ 8 →
    ((bytes : List ℕ) (n : ℕ) → 8 ≤ length bytes → take 8 bytes ≡ word → take_parts o p bytes n ≡ took v (drop 8 bytes) (n + k)) →
    TakesField o (present_if present p) (Some v) a b
field_taken o present p v word k a b there fits front rest count few runs =
    let long : length (take 8 a.left.now) ≡ 8 = length-take-le 8 a.left.now fits in (
      (take 8 a.left.now, sym (take-append-drop 8 a.left.now) ∙ ap (λ xs. take 8 a.left.now ++ xs) (sym rest), omega (arith, count, few, long)),
      λ tail n.
          let all : List ℕ = a.left.now ++ tail in
          let enough : 8 ≤ length all = omega (arith, fits, length-append a.left.now tail) in
          let same : take 8 all ≡ word = take-append-le 8 a.left.now tail fits ∙ front in
          let left : drop 8 all ≡ b.left.now ++ tail = drop-append-le 8 a.left.now tail fits ∙ ap (λ xs. xs ++ tail) (sym rest) in
          let reads : n + a.reads + k ≡ n + b.reads = omega (arith, count) in
          field_there o present p all (n + a.reads) there
          ∙ ap (then_take (λ v left m. took (Some v) left m)) (places_took o p all (n + a.reads) ∙ runs all (n + a.reads) enough same)
          ∙ ap (λ xs. took (Some v) xs (n + a.reads + k)) left
          ∙ ap (took (Some v) (b.left.now ++ tail)) reads,
    )

-- ---- all of them

-- how many bytes were taken
pub front_length : (a b : Row) → TakesFront a b → (length b.left.now ≤ length a.left.now) × (b.reads ≤ a.reads + (length a.left.now - length b.left.now))
front_length a b front =
    let long : length a.left.now ≡ length front.0 + length b.left.now = ap length front.1 ∙ length-append front.0 b.left.now in
    (omega (arith, long), omega (arith, long, front.2))

module _ {I E : Type 0} {source : I → Source} {order : E → Order} where
  -- a table whose fields were taken from the shown bytes, which were then skipped
  pub row_call : {Y : Type 0} {a b : Reader I E} {y : Y} (fields : Configuration → List (Option (Parts FieldValue))) (view : Y → SampleValue) (shown : List ℕ) (was now : Row) (len : ℕ) →
      (IsTrue (source a.input).told → (length shown ≤ length (source a.input).left) × (shown ≡ take (length shown) (source a.input).left)) →
      was.left.now ≡ shown → was.reads ≡ 0 → len ≡ length shown - length now.left.now →
      TakesFields (state_of source order a).order (fields (state_of source order a).settings) (view y) was now →
      Call {X = Unit {0}} source order (PassesOver len now.reads) a (Ok tt) b → Call source order (ReadsTable fields view (λ _. Unit {0})) a (Ok y) b
  row_call {Y} {a} {b} {y} fields view shown was now len shows begins none length_is takes call =
      let old : ReaderState = state_of source order a in
      let new : ReaderState = state_of source order b in record {
        config = call.config;
        whole = call.whole;
        told = call.told;
        answer = λ t.
            let o = old.order in
            let left = old.source.left in
            let tail : List ℕ = drop (length shown) left in
            let taken : List ℕ = takes.0.0 in
            let cut : shown ++ tail ≡ left = ap (λ xs. xs ++ tail) (shows t).1 ∙ take-append-drop (length shown) left in
            let parts : shown ≡ taken ++ now.left.now = sym begins ∙ takes.0.1 in
            let long : length shown ≡ length taken + length now.left.now = ap length parts ∙ length-append taken now.left.now in
            let count : len ≡ length taken = omega (arith, length_is, long) in
            let rest : drop len left ≡ now.left.now ++ tail =
            ap (λ k. drop k left) count
            ∙ ap (drop (length taken)) (sym cut ∙ ap (λ xs. xs ++ tail) parts ∙ append_assoc taken now.left.now tail)
            ∙ drop-append_seam taken (now.left.now ++ tail) in
            let first : left ≡ was.left.now ++ tail = sym cut ∙ ap (λ xs. xs ++ tail) (sym begins) in
            let reads : old.reads ≡ old.reads + was.reads = omega (arith, none) in (
              places_table o (fields old.settings) left old.reads
                  ∙ ap (λ xs. table_took o (fields old.settings) xs old.reads) first
                  ∙ ap (table_took o (fields old.settings) (was.left.now ++ tail)) reads
                  ∙ takes.1 tail old.reads
                  ∙ ap (λ xs. took (view y) xs (old.reads + now.reads)) (sym rest ∙ sym (call.answer t).1)
                  ∙ ap (took (view y) new.source.left) (sym (call.answer t).2),
              λ w. tt,
            );
        keeps = call.keeps;
      }
