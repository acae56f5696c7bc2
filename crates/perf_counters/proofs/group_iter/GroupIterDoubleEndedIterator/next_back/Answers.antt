use Rattle.std.proofs.Common.{◌≡◌, ◌+◌, ◌*◌, ◌-◌, ◌++◌, suc, length, sym, arith, ap}
use Rattle.std.proofs.lemmas.List.{take-append-drop}
use Rattle.perf_counters.specs.GroupEntry.{block_len}
use Rattle.perf_counters.proofs.Blocks.{length-entries_left, length-entries_of, entries-back}
use Rattle.perf_counters.proofs.group_iter.GroupIterDoubleEndedIterator.next_back.Goals as goal

pub returns-clause-steps : goal.returns-clause-steps
returns-clause-steps c =
    let it = c.args.self.now in
    let n = block_len it.with_id it.with_lost in
    let others = it.left - 1 in
    let front = c.split_at.result.0.now in
    let back = c.split_at.result.1.now in
    let cut = c.split_at.ensures in
    let is : it.left ≡ suc others = omega (arith, c.if-self-eq0.false) in
    let more : it.left * n ≡ suc others * n = ap (λ k. k * n) is in
    let whole : length it.words.now ≡ n + others * n = grind (arith, it.whole, more) in
    let size = c.block_len.ensures in
    let before : length front ≡ others * n = grind (arith, cut.front_len, size, whole) in
    let last : length back ≡ n = omega (arith, cut.back_len, before, whole) in
    let parts : it.words.now ≡ front ++ back =
    rw (cut.front, cut.back) (sym (take-append-drop _ it.words.now)) in
    let with_id = it.with_id in
    let with_lost = it.with_lost in
    rw c.of_block.ensures
    (entries-back with_id with_lost others it.left it.words.now front back is parts before last)

pub returns-clause-goes : goal.returns-clause-goes
returns-clause-goes c =
    let it = c.args.self.now in
    let front = c.split_at.result.0.now in
    let after = length-entries_of it.with_id it.with_lost (it.left - 1) front in
    let some = c.if-self-eq0.false in
    let all = length-entries_left it in
    record { on = λ _. (tt, tt, omega (arith, all, after, some)); keeps = tt; rests = λ _. tt }
