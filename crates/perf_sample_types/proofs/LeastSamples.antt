-- No sample is shorter than eight bytes for each field that is present.
use Rattle.std.proofs.Common.{◌≡◌, ℕ, zero, suc, ◌+◌, ◌-◌, ◌*◌, ◌/◌, ◌%◌, ◌^◌, ◌≤◌, ◌<◌, Bool, true, false, List, [], ◌∷◌, length, drop, Option, Some, None, Ok, Err, refl, sym, ◌∙◌, ap, inl, inr, arith, mod-lt, pow-suc}
use Rattle.std.specs.Prelude.{IfOk, count_ones, nat_le, ◌==◌, ◌||◌, if◌then◌else◌}
use Rattle.std.proofs.lemmas.Bool.{cases_lt, le-leb, lt-leb}
use Rattle.std.proofs.Math.Arith.{mod-mul}
use Rattle.std.proofs.Math.Nat.{div-one, mod-one}
use Rattle.std.proofs.Math.Pow.{pow_pos}
use Rattle.std.proofs.lemmas.Nat.{ones_le_self, shr-shr}
use Rattle.std.specs.Int.Count.{ones_step}
use Rattle.perf_base.specs.Configuration.{Configuration}
use Rattle.perf_base.specs.Layout.{shape_value, size, Parts, done, part, check, ◌>>=◌, map_parts, slice, spots, ending, value, first_refusal, layout}
use Rattle.perf_base.specs.LayoutReads.{layout_reads}
use Rattle.perf_base.specs.Order.{Order}
use Rattle.perf_base.specs.Run.{Ran, ran, stopped, left_at}
use Rattle.perf_base.specs.Table.{present_if, slot, table}
use Rattle.perf_base.specs.Took.{took, with_reads, took_by_places}
use Rattle.perf_base.specs.declared.error.ErrorKind.{ErrorKind}
use Rattle.perf_base.specs.declared.error.ErrorKind.TheVariants.{Eof}
use Rattle.perf_base.proofs.Bridge.{taken, not_taken}
use Rattle.perf_counters.specs.ReadFormat.{has_group}
use Rattle.perf_counters.specs.ReadGroup.{read_group, group_of}
use Rattle.perf_counters.specs.ReadValue.{read_value}
use Rattle.perf_words.specs.Bits.{has_bit}
use Rattle.perf_sample_types.specs.Sample.{FieldValue, group_is, Field, SampleValue, plain_field, task, cpu, values, call_chain, raw, branch_stack, registers, stack, sized_bytes, settings_of, is_present, fields_under, sample_fields, sample}

-- ---- how many of the lowest bits are set

bits_from : (k at n : ℕ) → ℕ
bits_from zero at n = 0
bits_from (suc k) at n = n / 2 ^ at % 2 + bits_from k (at + 1) n

ones_of : (k n : ℕ) → count_ones (n % 2 ^ suc k) ≡ n % 2 + count_ones (n / 2 % 2 ^ k)
ones_of k n =
    let r : ℕ = n / 2 % 2 ^ k in
    let split : n % 2 ^ suc k ≡ r * 2 + n % 2 = ap (λ m. n % m) (pow-suc 2 k) ∙ mod-mul n (pow_pos k) (omega arith) in
    let low : (r * 2 + n % 2) % 2 ≡ n % 2 = omega arith in
    let high : (r * 2 + n % 2) / 2 ≡ r = omega arith in
    ap count_ones split ∙ ones_step (r * 2 + n % 2) ∙ ap (λ m. m + count_ones ((r * 2 + n % 2) / 2)) low
    ∙ ap (λ m. n % 2 + count_ones m) high

ones_from : (k at n : ℕ) → count_ones (n / 2 ^ at % 2 ^ k) ≡ bits_from k at n
unfolding bits_from
ones_from zero at n =
    let none : count_ones (n / 2 ^ at % 2 ^ 0) ≡ count_ones 0 = ap count_ones (mod-one (n / 2 ^ at)) in
    omega (arith, none, ones_le_self 0)
ones_from (suc k) at n =
    let next : n / 2 ^ at / 2 ≡ n / 2 ^ (at + 1) = shr-shr n at 1 in
    ones_of k (n / 2 ^ at) ∙ ap (λ m. n / 2 ^ at % 2 + count_ones (m % 2 ^ k)) next
    ∙ ap (λ m. n / 2 ^ at % 2 + m) (ones_from k (at + 1) n)

-- ---- how many bytes parts take at least

onwards : {A : Type 0} (o : Order) (body : List ℕ) (s : ℕ) (p : Parts A) → s ≤ ending o body s p
onwards o body s (done v) = omega arith
onwards o body s (part shape k) =
    let n : ℕ = size shape (length body - s) in
    let more : s + n ≤ ending o body (s + n) (k (shape_value o shape (slice body s n))) =
    onwards o body (s + n) (k (shape_value o shape (slice body s n))) in
    omega (arith, more)
onwards o body s (check t e p) = onwards o body s p

ending-bind : {A B : Type 0} (o : Order) (body : List ℕ) (s : ℕ) (p : Parts A) (f : A → Parts B) →
    ending o body s (p >>= f) ≡ ending o body (ending o body s p) (f (value o body s p))
ending-bind o body s (done v) f = refl
ending-bind o body s (part shape k) f =
    let n : ℕ = size shape (length body - s) in
    ending-bind o body (s + n) (k (shape_value o shape (slice body s n))) f
ending-bind o body s (check t e p) f = ending-bind o body s p f

-- a body that is not refused contains the end of its parts
ends_within : {A : Type 0} (o : Order) (body : List ℕ) (s : ℕ) (p : Parts A) → s ≤ length body →
    first_refusal (length body) (spots o body s p) ≡ None → ending o body s p ≤ length body
ends_within o body s (done v) within stands = within
ends_within o body s (check true e p) within stands = ends_within o body s p within stands
ends_within o body s (check false e p) within stands = absurd cc
ends_within o body s (part shape k) within stands =
    let n : ℕ = size shape (length body - s) in
    elim (cases_lt (length body) (s + n)) [
      | inr fits ↦
          let t : nat_le (s + n) (length body) ≡ true = le-leb (s + n) (length body) fits in
          ends_within o body (s + n) (k (shape_value o shape (slice body s n))) fits (sym (taken _ _ _ t) ∙ stands)
      | inl short ↦
          let t : nat_le (s + n) (length body) ≡ false = lt-leb (s + n) (length body) short in
          absurd (cc (not_taken {B = Option ErrorKind} (nat_le (s + n) (length body)) (first_refusal (length body) (spots o body (s + n) (k (shape_value o shape (slice body s n))))) (Some Eof) t))
    ]

-- eight bytes or more
AtLeastEight : {A : Type 0} → Parts A → Type 0
AtLeastEight p = (o : Order) (body : List ℕ) (s : ℕ) → s + 8 ≤ ending o body s p

of_plain : AtLeastEight plain_field
unfolding AtLeastEight
of_plain o body s = omega arith

of_task : AtLeastEight task
unfolding AtLeastEight
of_task o body s = omega arith

of_cpu : AtLeastEight cpu
unfolding AtLeastEight
of_cpu o body s = omega arith

of_read_group : (c : Configuration) → AtLeastEight (map_parts group_is (read_group c))
unfolding AtLeastEight
of_read_group c o body s = omega arith

of_read_value : (c : Configuration) → AtLeastEight (map_parts (λ one. group_is (group_of one)) (read_value c))
unfolding AtLeastEight
of_read_value c o body s = omega arith

of_one : {A : Type 0} (first : Bool) (p q : Parts A) → AtLeastEight p → AtLeastEight q → AtLeastEight (if first then p else q)
of_one true p q of_p of_q = of_p
of_one false p q of_p of_q = of_q

of_values : (c : Configuration) → AtLeastEight (values c)
unfolding values
of_values c = of_one (has_group c.read_format) _ _ (of_read_group c) (of_read_value c)

of_call_chain : AtLeastEight call_chain
unfolding AtLeastEight
of_call_chain o body s = omega arith

of_raw : AtLeastEight raw
unfolding AtLeastEight
of_raw o body s = omega arith

of_branch_stack : (c : Configuration) → AtLeastEight (branch_stack c)
unfolding AtLeastEight branch_stack
of_branch_stack c o body s = omega arith

of_registers : (mask : ℕ) → AtLeastEight (registers mask)
unfolding AtLeastEight registers
of_registers mask o body s = omega arith

of_stack : AtLeastEight stack
unfolding AtLeastEight
of_stack o body s = omega arith

of_sized_bytes : AtLeastEight sized_bytes
unfolding AtLeastEight
of_sized_bytes o body s = omega arith

-- ---- the table

one_if : Bool → ℕ
one_if true = 1
one_if false = 0

-- how many of these fields are present
present : Configuration → List Field → ℕ
unfolding one_if
present c [] = 0
present c (field ∷ fields) = one_if (is_present c field) + present c fields

AllAtLeastEight : Configuration → List Field → Type 0
AllAtLeastEight c [] = Unit {0}
AllAtLeastEight c (field ∷ fields) = AtLeastEight (field.parts (settings_of c)) × AllAtLeastEight c fields

-- a field that is present takes eight bytes or more
of_slot : (there : Bool) (p : Parts FieldValue) → AtLeastEight p → (o : Order) (body : List ℕ) (s : ℕ) →
    s + 8 * one_if there ≤ ending o body s (slot (present_if there p))
unfolding one_if AtLeastEight
of_slot false p least o body s = omega arith
of_slot true p least o body s =
    let same : ending o body s (p >>= λ v. done (Some v)) ≡ ending o body s p = ending-bind o body s p (λ v. done (Some v)) in
    omega (arith, least o body s, same)

of_table : (c : Configuration) (fields : List Field) → AllAtLeastEight c fields → (o : Order) (body : List ℕ) (s : ℕ) →
    s + 8 * present c fields ≤ ending o body s (table (fields_under c fields))
unfolding present AllAtLeastEight
of_table c [] all o body s = omega arith
of_table c (field ∷ fields) all o body s =
    let first : Parts (Option FieldValue) = slot (present_if (is_present c field) (field.parts (settings_of c))) in
    let others : Parts SampleValue = table (fields_under c fields) in
    let at : ℕ = ending o body s first in
    let v : Option FieldValue = value o body s first in
    let one : s + 8 * one_if (is_present c field) ≤ at = of_slot (is_present c field) (field.parts (settings_of c)) all.0 o body s in
    let more : at + 8 * present c fields ≤ ending o body at others = of_table c fields all.1 o body at in
    let whole : ending o body s (table (fields_under c (field ∷ fields))) ≡ ending o body at others =
    ending-bind o body s first (λ v. others >>= λ vs. done (v ∷ vs)) ∙ ending-bind o body at others (λ vs. done (v ∷ vs)) in
    omega (arith, one, more, whole)

all_fields : (c : Configuration) → AllAtLeastEight c sample_fields
unfolding AllAtLeastEight
all_fields c =
    (of_plain, (of_plain, (of_task, (of_plain, (of_plain, (of_plain, (of_plain, (of_cpu, (of_plain, (of_values _, (of_call_chain, (of_raw, (of_branch_stack _, (of_registers _, (of_stack, (of_plain, (of_plain, (of_plain, (of_registers _, (of_plain, (of_plain, (of_plain, (of_plain, (of_sized_bytes, tt))))))))))))))))))))))))

-- a flag is one bit
of_digit : (d : ℕ) → d < 2 → d ≤ one_if (d == 1)
unfolding one_if
of_digit zero small = omega arith
of_digit (suc zero) small = omega arith
of_digit (suc (suc d)) small = absurd (omega (arith, small))

first_of : (a b : Bool) → one_if a ≤ one_if (a || b)
unfolding one_if
first_of true b = omega arith
first_of false b = omega arith

of_flag : (word at : ℕ) (others : Bool) → word / 2 ^ at % 2 ≤ one_if (has_bit word at || others)
of_flag word at others =
    omega (arith, of_digit (word / 2 ^ at % 2) (mod-lt (word / 2 ^ at) (omega arith)), first_of (has_bit word at) others)

-- the order of the fields is not that of their flags
in_order : (x0 x1 x2 x3 x4 x5 x6 x7 x8 x9 x10 x11 x12 x13 x14 x15 x16 x17 x18 x19 x20 x21 x22 x23 y0 y1 y2 y3 y4 y5 y6 y7 y8 y9 y10 y11 y12 y13 y14 y15 y16 y17 y18 y19 y20 y21 y22 y23 : ℕ) → x0 ≤ y0 → x1 ≤ y1 → x2 ≤ y2 → x3 ≤ y3 → x4 ≤ y4 → x5 ≤ y5 → x6 ≤ y6 → x7 ≤ y7 → x8 ≤ y8 → x9 ≤ y9 → x10 ≤ y10 → x11 ≤ y11 → x12 ≤ y12 → x13 ≤ y13 → x14 ≤ y14 → x15 ≤ y15 → x16 ≤ y16 → x17 ≤ y17 → x18 ≤ y18 → x19 ≤ y19 → x20 ≤ y20 → x21 ≤ y21 → x22 ≤ y22 → x23 ≤ y23 →
    x0 + (x1 + (x2 + (x3 + (x4 + (x5 + (x6 + (x7 + (x8 + (x9 + (x10 + (x11 + (x12 + (x13 + (x14 + (x15 + (x16 + (x17 + (x18 + (x19 + (x20 + (x21 + (x22 + (x23 + 0))))))))))))))))))))))) ≤ y16 + (y0 + (y1 + (y2 + (y3 + (y6 + (y9 + (y7 + (y8 + (y4 + (y5 + (y10 + (y11 + (y12 + (y13 + (y14 + (y15 + (y17 + (y18 + (y19 + (y21 + (y22 + (y23 + (y20 + 0)))))))))))))))))))))))
in_order x0 x1 x2 x3 x4 x5 x6 x7 x8 x9 x10 x11 x12 x13 x14 x15 x16 x17 x18 x19 x20 x21 x22 x23 y0 y1 y2 y3 y4 y5 y6 y7 y8 y9 y10 y11 y12 y13 y14 y15 y16 y17 y18 y19 y20 y21 y22 y23 h0 h1 h2 h3 h4 h5 h6 h7 h8 h9 h10 h11 h12 h13 h14 h15 h16 h17 h18 h19 h20 h21 h22 h23 = omega (arith, h0, h1, h2, h3, h4, h5, h6, h7, h8, h9, h10, h11, h12, h13, h14, h15, h16, h17, h18, h19, h20, h21, h22, h23)

-- each of the flags 0 to 23 is that of another field
enough : (c : Configuration) → count_ones (c.sample_type % 2 ^ 24) ≤ present c sample_fields
unfolding present bits_from
enough c =
    let t = c.sample_type in
    let sum : count_ones (t % 2 ^ 24) ≡ bits_from 24 0 t = ap (λ m. count_ones (m % 2 ^ 24)) (sym (div-one t)) ∙ ones_from 24 0 t in
    let bits : bits_from 24 0 t ≤ present c sample_fields =
    in_order _ _ _ _ _ _ _ _ _ _ _ _ _ _ _ _ _ _ _ _ _ _ _ _ _ _ _ _ _ _ _ _ _ _ _ _ _ _ _ _ _ _ _ _ _ _ _ _
    (of_flag t 0 false) (of_flag t 1 false) (of_flag t 2 false) (of_flag t 3 false) (of_flag t 4 false) (of_flag t 5 false) (of_flag t 6 false) (of_flag t 7 false) (of_flag t 8 false) (of_flag t 9 false) (of_flag t 10 false) (of_flag t 11 false) (of_flag t 12 false) (of_flag t 13 false) (of_flag t 14 (has_bit t 24 || false)) (of_flag t 15 false) (of_flag t 16 false) (of_flag t 17 false) (of_flag t 18 false) (of_flag t 19 false) (of_flag t 20 false) (of_flag t 21 false) (of_flag t 22 false) (of_flag t 23 false) in
    omega (arith, sum, bits)

at_least : (o : Order) (c : Configuration) (body : List ℕ) → 8 * count_ones (c.sample_type % 2 ^ 24) ≤ ending o body 0 (sample c)
unfolding sample
at_least o c body = omega (arith, enough c, of_table c sample_fields (all_fields c) o body 0)

-- a shorter body is refused
pub short_sample : (c : Configuration) (o : Order) (body : List ℕ) → length body < 8 * count_ones (c.sample_type % 2 ^ 24) →
    IfOk (layout o (sample c) body) (λ v. ⊥)
short_sample c o body short = go (first_refusal (length body) (spots o body 0 (sample c))) refl
  where
    go : (f : Option ErrorKind) → first_refusal (length body) (spots o body 0 (sample c)) ≡ f → IfOk (elim f [ None ↦ Ok (value o body 0 (sample c)) | Some e ↦ Err e ]) (λ v. ⊥)
    go (Some e) is = tt
    go None is = absurd (omega (arith, short, at_least o c body, ends_within o body 0 (sample c) (omega arith) is))

-- the same of what a reader takes
pub short_took : (c : Configuration) (o : Order) (body : List ℕ) (n : ℕ) (v : SampleValue) (left : List ℕ) (m : ℕ) →
    length body < 8 * count_ones (c.sample_type % 2 ^ 24) → took_by_places o (sample c) body n ≡ took v left m → ⊥
unfolding took_by_places
short_took c o body n v left m short = go (first_refusal (length body) (spots o body 0 (sample c))) refl
  where
    go : (f : Option ErrorKind) → first_refusal (length body) (spots o body 0 (sample c)) ≡ f →
        with_reads (elim f as (λ f. Ran SampleValue) [
          | None ↦ ran (value o body 0 (sample c)) (drop (ending o body 0 (sample c)) body)
          | Some e ↦ stopped e (left_at body (spots o body 0 (sample c)))
        ]) (n + layout_reads o (sample c) body) ≡ took v left m → ⊥
    go (Some e) is read = absurd cc
    go None is read = absurd (omega (arith, short, at_least o c body, ends_within o body 0 (sample c) (omega arith) is))
