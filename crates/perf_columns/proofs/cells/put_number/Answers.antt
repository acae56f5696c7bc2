use Rattle.std.proofs.Common.{◌∙◌, arith, ◌-◌}
use Rattle.perf_columns.proofs.Digits.{room_two, room_pair, room_left, pair_written, two_written, one_written, before_lower, spelled}
use Rattle.perf_columns.proofs.cells.put_number.Goals as goal

pub loop-left-preserved : goal.loop-left-preserved
loop-left-preserved c =
    let l = c.loop-left in
    let four = room_pair l.left l.at c.loop-left-test.true l.invariant.room in record {
      room = room_left l.left l.at l.invariant.low l.invariant.room;
      low = omega (arith, four);
      high = omega (arith, l.invariant.high);
      before = before_lower _ _ _ (l.at - 2) l.at (omega arith) c.put_pair.ensures.before l.invariant.before;
      written = pair_written l.left l.at _ _ c.loop-left-test.true l.invariant.low c.put_pair.ensures.after ∙ l.invariant.written;
    }

pub returns-then-left-ge16-clause-start : goal.returns-then-left-ge16-clause-start
returns-then-left-ge16-clause-start c =
    let three = room_two c.loop-left.left c.loop-left.at c.if-left-ge16.true c.loop-left.invariant.room in
    (omega (arith, three), omega (arith, c.loop-left.invariant.high))

pub returns-then-left-ge16-clause-before : goal.returns-then-left-ge16-clause-before
returns-then-left-ge16-clause-before c =
    before_lower _ _ _ (c.loop-left.at - 2) c.loop-left.at (omega arith) c.put_pair-then-left-ge16.ensures.before c.loop-left.invariant.before

pub returns-then-left-ge16-clause-after : goal.returns-then-left-ge16-clause-after
returns-then-left-ge16-clause-after c =
    let l = c.loop-left in
    two_written l.left l.at _ _ c.if-left-ge16.true (omega (arith, c.loop-left-test.false)) l.invariant.low c.put_pair-then-left-ge16.ensures.after
    ∙ l.invariant.written ∙ spelled c.args.number _

pub returns-clause-before : goal.returns-clause-before
returns-clause-before c =
    before_lower _ _ _ (c.loop-left.at - 1) c.loop-left.at (omega arith) c.put_digit.ensures.before c.loop-left.invariant.before

pub returns-clause-after : goal.returns-clause-after
returns-clause-after c =
    let l = c.loop-left in
    one_written l.left l.at _ _ (omega (arith, c.if-left-ge16.false)) (omega (arith, l.invariant.low)) c.put_digit.ensures.after
    ∙ l.invariant.written ∙ spelled c.args.number _
