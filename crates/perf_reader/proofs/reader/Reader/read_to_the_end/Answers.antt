use Rattle.std.proofs.Common.{rules, ◌≡◌, ℕ, ◌+◌, ◌*◌, ◌/◌, ◌++◌, ◌∷◌, [], List, refl, ap, arith}
use Rattle.perf_base.specs.Refusals.{refusal_kind}
use Rattle.perf_reader.proofs.InRow.{InRow, row_none, row_cast, row_more, row_further}
use Rattle.perf_reader.proofs.Shortages.{row_begins, row_breaks, row_lacks, row_waits}
use Rattle.perf_reader.proofs.reader.Reader.read_to_the_end.Goals as goal
use Rattle.perf_reader.proofs.reader.Reader.read_to_the_end.Goals.{in-Some+in_default-pass, in_default}

pub loop-init : goal.loop-init
loop-init g c =
    let s = g.I.Input.source in let o = g.E.Endian.order in
    let none : 0 ≡ c.args.numbers * 0 = omega arith in (
      [],
      row_cast s o 0 (c.args.numbers * 0) c.match-remaining_hint.self c.match-remaining_hint.self [] [] none refl
          (row_none s o c.match-remaining_hint.self),
    )

pub loop-2-init : goal.loop-2-init
loop-2-init g c = ([], row_none g.I.Input.source g.E.Endian.order c.loop.self)

pub returns-in-Err-read_u64-clause-call : goal.returns-in-Err-read_u64-clause-call
returns-in-Err-read_u64-clause-call g c =
    let s = g.I.Input.source in let o = g.E.Endian.order in
    let n = c.args.numbers in
    let mid = c.match-remaining_hint.self in
    let first : (m : ℕ) × (us : List ℕ) × InRow s o m c.args.self.now us mid =
    elim c.match-remaining_hint.branch [
      | in-Some+in_default-pass w ↦ row_begins s o (w.in-Some.left / 8) w.of.result c.args.self.now w.pass.new.self mid tt w.self-is w.of.ensures w.in_default-pass.ensures.call
      | in_default w ↦ row_waits s o c.args.self.now mid w.self-is
    ] in
    let ys = c.loop.invariant.0 in
    let zs = c.loop-2.invariant.0 in
    let before = row_further s o (n * c.loop.counter) c.loop-2.counter mid c.loop.self c.loop-2.self ys zs
    c.loop.invariant.1 c.loop-2.invariant.1 in
    row_breaks s o (first.0 + (n * c.loop.counter + c.loop-2.counter)) (n * c.args.count) c.args.self.now c.loop-2.self
    c.read_u64.new.self (first.1 ++ (ys ++ zs)) (refusal_kind c.in-Err-read_u64.refusal) c.requires
    (row_further s o first.0 (n * c.loop.counter + c.loop-2.counter) c.args.self.now mid c.loop-2.self first.1 (ys ++ zs) first.2 before)
    c.in-Err-read_u64.ensures.call

pub loop-2-preserved : goal.loop-2-preserved
loop-2-preserved g c =
    let s = g.I.Input.source in let o = g.E.Endian.order in
    let ys = c.loop-2.invariant.0 in
    let zs = ys ++ c.in_default-read_u64.field-0 ∷ [] in (
      zs,
      row_cast s o _ (c.loop-2.counter + 1) c.loop.self c.read_u64.new.self zs zs (omega arith) refl
          (row_more s o c.loop-2.counter c.loop.self c.loop-2.self c.read_u64.new.self ys
          c.in_default-read_u64.field-0 c.loop-2.invariant.1 c.in_default-read_u64.ensures.call),
    )

pub loop-preserved : goal.loop-preserved
loop-preserved g c =
    let s = g.I.Input.source in let o = g.E.Endian.order in
    let n = c.args.numbers in
    let ys = c.loop.invariant.0 in
    let zs = c.loop-2.invariant.0 in
    let all : c.loop-2.counter ≡ n = search rules in
    let more : n * c.loop.counter + c.loop-2.counter ≡ n * (c.loop.counter + 1) = grind (arith, all) in (
      ys ++ zs,
      row_cast s o _ (n * (c.loop.counter + 1)) c.match-remaining_hint.self c.loop-2.self (ys ++ zs) (ys ++ zs) more refl
          (row_further s o (n * c.loop.counter) c.loop-2.counter c.match-remaining_hint.self c.loop.self c.loop-2.self ys zs
          c.loop.invariant.1 c.loop-2.invariant.1),
    )

pub returns-clause-call : goal.returns-clause-call
returns-clause-call g c =
    let s = g.I.Input.source in let o = g.E.Endian.order in
    let n = c.args.numbers in
    let mid = c.match-remaining_hint.self in
    let first : (m : ℕ) × (us : List ℕ) × InRow s o m c.args.self.now us mid =
    elim c.match-remaining_hint.branch [
      | in-Some+in_default-pass w ↦ row_begins s o (w.in-Some.left / 8) w.of.result c.args.self.now w.pass.new.self mid tt w.self-is w.of.ensures w.in_default-pass.ensures.call
      | in_default w ↦ row_waits s o c.args.self.now mid w.self-is
    ] in
    let ys = c.loop.invariant.0 in
    let all : n * c.loop.counter ≡ n * c.args.count = ap (λ k. n * k) (search rules) in
    row_lacks s o (first.0 + n * c.loop.counter) (n * c.args.count) c.args.self.now c.loop.self (first.1 ++ ys) (omega (arith, all)) c.requires
    (row_further s o first.0 (n * c.loop.counter) c.args.self.now mid c.loop.self first.1 ys first.2 c.loop.invariant.1)
