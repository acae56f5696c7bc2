use Rattle.std.proofs.Common.{rules, ◌+◌, ◌<◌, ℕ, suc, List, [], ◌∷◌, ◌++◌, length, take, sym, arith}
use Rattle.std.proofs.lemmas.List.{take_more_set}
use Rattle.perf_base.specs.Refusals.{refusal_kind}
use Rattle.perf_reader.proofs.InRow.{row_none, row_cast, row_more, row_stops}
use Rattle.perf_reader.proofs.reader.Reader.read_unshown.Goals as goal

pub loop-i-init : goal.loop-i-init
loop-i-init g c = row_none g.I.Input.source g.E.Endian.order c.args.self.now

pub returns-in-Err-clause-call : goal.returns-in-Err-clause-call
returns-in-Err-clause-call g c =
    let s = g.I.Input.source in let o = g.E.Endian.order in
    let i = c.loop-i.i in
    let more : i < length c.args.numbers.now = search rules in
    row_stops s o _ i (length c.args.numbers.now) c.args.self.now c.loop-i.self c.read_u64.new.self (take i c.loop-i.numbers)
    (refusal_kind c.in-Err.refusal) more c.loop-i.invariant c.in-Err.ensures.call

pub loop-i-preserved : goal.loop-i-preserved
loop-i-preserved g c =
    let s = g.I.Input.source in let o = g.E.Endian.order in
    let i = c.loop-i.i in
    let ys : List ℕ = take i c.loop-i.numbers in
    let n = c.in-Ok.number in
    row_cast s o (suc i) (i + 1) c.args.self.now c.read_u64.new.self (ys ++ n ∷ []) _ (omega arith)
    (sym (take_more_set c.loop-i.numbers i n (omega (arith, c.loop-i-test.true))))
    (row_more s o i c.args.self.now c.loop-i.self c.read_u64.new.self ys n c.loop-i.invariant c.in-Ok.ensures.call)
