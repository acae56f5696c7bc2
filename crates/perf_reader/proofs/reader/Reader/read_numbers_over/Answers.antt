use Rattle.std.proofs.Common.{◌≡◌, ℕ, ◌*◌, Bool, true, false, Option, None, Some, Ok, Err, [], List, length, drop, arith, ap, sym, subst, ◌∙◌}
use Rattle.std.proofs.lemmas.Bool.Decides.{nat_tests}
use Rattle.std.proofs.lemmas.List.{take_at}
use Rattle.std.specs.Prelude.{option_map, nat_le, vec_len}
use Rattle.std.specs.Bool.{beq}
use Rattle.std.specs.Option.{option_eq}
use Rattle.perf_base.specs.Layout.{Shape, ShapeValue, words}
use Rattle.perf_base.specs.Order.{Order}
use Rattle.perf_base.specs.Refusals.{kinds, refusal_kind}
use Rattle.perf_base.specs.Took.{took}
use Rattle.perf_buffers.specs.Buffer.{Source}
use Rattle.perf_buffers.specs.Room.{falls_short}
use Rattle.perf_reader.specs.Calls.{Call}
use Rattle.perf_reader.specs.Reading.{ReadsOne}
use Rattle.perf_reader.specs.declared.reader.Reader.{Reader}
use Rattle.perf_reader.proofs.Fields.{refused_alike}
use Rattle.perf_reader.proofs.InRow.{row_none, row_starves}
use Rattle.perf_reader.proofs.reader.Reader.read_numbers_over.Goals.{then-count-gt0+then-shows_numbers+else-is_err+in-Ok-false, else-count-gt0}
use Rattle.perf_reader.proofs.reader.Reader.read_numbers_over.Goals as goal

-- an input that does not report too few bytes does not fall short
not_short : (hint : Option ℕ) (count : ℕ) (has : Option Bool) → has ≡ option_map (nat_le (count * 8)) hint → option_eq beq has (Some false) ≡ false → falls_short hint (8 * count) ≡ true → ⊥
not_short None count has is other short = cc
not_short (Some left) count has is other short =
    let seen : option_eq beq (Some (nat_le (count * 8) left)) (Some false) ≡ false = ap (λ h. option_eq beq h (Some false)) (sym is) ∙ other in grind (arith, nat_tests, seen, short)

pub returns-then-eq : goal.returns-then-eq
returns-then-eq g c =
    let e = c.read_to_the_end.ensures in record {
      length = tt;
      short = λ lacks. (e.memory, tt);
      enough = λ room. e.memory;
      call = refused_alike (words c.args.count) (λ numbers. numbers) (λ v. v.items) _
          (subst (λ k. Call g.I.Input.source g.E.Endian.order (ReadsOne (words k) (λ numbers. numbers)) c.args.self.now (Err (refusal_kind c.read_to_the_end.result)) c.read_to_the_end.new.self) (omega arith) e.call);
    }

pub returns-then-is_err-clause-call : goal.returns-then-is_err-clause-call
returns-then-is_err-clause-call g c = row_starves g.I.Input.source g.E.Endian.order (λ v. v.items) 0 c.args.count c.args.self.now c.args.self.now [] (row_none g.I.Input.source g.E.Endian.order c.args.self.now)

pub returns-then-is_err-clause-short : goal.returns-then-is_err-clause-short
returns-then-is_err-clause-short g c = λ lacks. absurd (not_short _ c.args.count c.has_items.result c.has_items.ensures.is (sym c.eq.ensures ∙ c.if-eq.false) lacks)

pub returns-in-Ok-true-clause-short : goal.returns-in-Ok-true-clause-short
returns-in-Ok-true-clause-short g c = λ lacks. absurd (not_short _ c.args.count c.has_items.result c.has_items.ensures.is (sym c.eq.ensures ∙ c.if-eq.false) lacks)

pub returns-in-Err-clause-short : goal.returns-in-Err-clause-short
returns-in-Err-clause-short g c = λ lacks. absurd (not_short _ c.args.count c.has_items.result c.has_items.ensures.is (sym c.eq.ensures ∙ c.if-eq.false) lacks)

pub returns-in_err-numbers-clause-short : goal.returns-in_err-numbers-clause-short
returns-in_err-numbers-clause-short g c = λ lacks. absurd (not_short _ c.args.count c.has_items.result c.has_items.ensures.is (sym c.eq.ensures ∙ c.if-eq.false) lacks)

pub returns-clause-short : goal.returns-clause-short
returns-clause-short g c = λ lacks. absurd (not_short _ c.args.count c.has_items.result c.has_items.ensures.is (sym c.eq.ensures ∙ c.if-eq.false) lacks)

pub returns-in-Ok-true-clause-enough : goal.returns-in-Ok-true-clause-enough
returns-in-Ok-true-clause-enough g c = λ room. tt

pub returns-in-Err-clause-enough : goal.returns-in-Err-clause-enough
returns-in-Err-clause-enough g c = λ room. c.in-Err.ensures.memory

pub returns-clause-length : goal.returns-clause-length
returns-clause-length g c = c.append_numbers.ensures.length

pub returns-clause-call : goal.returns-clause-call
returns-clause-call g c =
    let same : c.if-count-gt0.self ≡ c.args.self.now =
    elim c.if-count-gt0.branch [
      | then-count-gt0+then-shows_numbers+else-is_err+in-Ok-false w ↦ w.self-is ∙ w.in-Ok-false.ensures.nothing (ap Ok w.in-Ok-false.field-0-test)
      | else-count-gt0 w ↦ w.self-is
    ] in
    subst (λ r. Call g.I.Input.source g.E.Endian.order (ReadsOne (words c.args.count) (λ v. v.items)) r (kinds c.append_numbers.result) c.append_numbers.new.self) same c.append_numbers.ensures.call

pub returns-in-Err-clause-call : goal.returns-in-Err-clause-call
returns-in-Err-clause-call g c =
    let made : vec_len c.resize.new.self ≡ c.args.count = rw c.if-is_err.ensures.negation at c.resize.ensures.len in
    let long : length c.as_mut_slice.result.now ≡ c.args.count = c.as_mut_slice.ensures.len ∙ made in
    subst (λ k. Call g.I.Input.source g.E.Endian.order (ReadsOne (words k) (λ v. v.items)) c.args.self.now (Err (refusal_kind c.in-Err.refusal)) c.read_shown.new.self) long
    (refused_alike (words (length c.as_mut_slice.result.now)) (λ (_ : Bool). c.read_shown.new.numbers) (λ v. v.items) _ c.in-Err.ensures.refused)

-- numbers that were read, in a list that holds them
listed : {I E X Y : Type 0} {source : I → Source} {order : E → Order} {a b : Reader I E} (shape : Shape) (view : X → ShapeValue shape) (show : Y → ShapeValue shape) (x : X) (y : Y) → view x ≡ show y →
    Call source order (ReadsOne shape view) a (Ok x) b → Call source order (ReadsOne shape show) a (Ok y) b
listed {I} {E} {X} {Y} {source} {order} {a} {b} shape view show x y same call = record {
  config = call.config;
  whole = call.whole;
  told = call.told;
  answer = λ t. call.answer t ∙ ap (λ v. took v (source b.input).left b.reads) same;
  keeps = call.keeps;
}

pub returns-in-Ok-true-clause-length : goal.returns-in-Ok-true-clause-length
returns-in-Ok-true-clause-length g c =
    let xs : List ℕ = c.read_shown.new.numbers in
    let made : vec_len c.resize.new.self ≡ c.args.count = rw c.if-is_err.ensures.negation at c.resize.ensures.len in
    let long : length xs ≡ vec_len c.resize.new.self = c.read_shown.auto.numbers ∙ c.as_mut_slice.ensures.len in
    ap length (take_at xs (drop (length xs) c.resize.new.self.items) (vec_len c.resize.new.self) long) ∙ long ∙ made

pub returns-in-Ok-true-clause-call : goal.returns-in-Ok-true-clause-call
returns-in-Ok-true-clause-call g c =
    let xs : List ℕ = c.read_shown.new.numbers in
    let made : vec_len c.resize.new.self ≡ c.args.count = rw c.if-is_err.ensures.negation at c.resize.ensures.len in
    let long : length xs ≡ vec_len c.resize.new.self = c.read_shown.auto.numbers ∙ c.as_mut_slice.ensures.len in
    let all : length c.as_mut_slice.result.now ≡ c.args.count = c.as_mut_slice.ensures.len ∙ made in
    listed (words c.args.count) (λ (_ : Bool). xs) (λ v. v.items) true _ (sym (take_at xs (drop (length xs) c.resize.new.self.items) (vec_len c.resize.new.self) long))
    (subst (λ k. Call g.I.Input.source g.E.Endian.order (ReadsOne (words k) (λ (_ : Bool). xs)) c.args.self.now (Ok true) c.read_shown.new.self) all
    (c.in-Ok-true.ensures.shown (ap Ok c.in-Ok-true.field-0-test)))
