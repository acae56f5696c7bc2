use Rattle.std.proofs.Common.{refl, arith, append_assoc}
use Rattle.perf_text.proofs.Hex.{length_digits, length_pair, length_two, length_one, digits_pair, digits_two, digits_one}
use Rattle.perf_text.proofs.hexadecimal.put_digits.Goals as goal

pub loop-left-init : goal.loop-left-init
loop-left-init c = record {
  room = omega (arith, length_digits c.args.number c.ranges.number.fits);
  within = omega arith;
  start = refl;
  written = refl;
}

pub put_pair-requires : goal.put_pair-requires
put_pair-requires c = omega (arith, length_pair c.loop-left.left c.loop-left-test.true c.loop-left.auto.left-fits.fits)

pub overflow_sub-at : goal.overflow_sub-at
overflow_sub-at c = omega (arith, length_pair c.loop-left.left c.loop-left-test.true c.loop-left.auto.left-fits.fits)

pub loop-left-preserved : goal.loop-left-preserved
loop-left-preserved c =
    let l = c.loop-left in
    let long = length_pair l.left c.loop-left-test.true l.auto.left-fits.fits in record {
      room = omega arith;
      within = omega arith;
      start = omega arith;
      written = rw c.put_pair.ensures (rw (digits_pair l.left c.loop-left-test.true l.auto.left-fits.fits, append_assoc) at l.invariant.written);
    }

pub put_pair-requires-then-left-ge16 : goal.put_pair-requires-then-left-ge16
put_pair-requires-then-left-ge16 c = omega (arith, length_two c.loop-left.left c.if-left-ge16.true (omega arith))

pub overflow_sub-result : goal.overflow_sub-result
overflow_sub-result c = omega (arith, length_two c.loop-left.left c.if-left-ge16.true (omega arith))

pub returns-then-left-ge16-clause-start : goal.returns-then-left-ge16-clause-start
returns-then-left-ge16-clause-start c = omega (arith, length_two c.loop-left.left c.if-left-ge16.true (omega arith), length_digits c.args.number c.ranges.number.fits)

pub returns-then-left-ge16-clause-written : goal.returns-then-left-ge16-clause-written
returns-then-left-ge16-clause-written c =
    rw c.put_pair-then-left-ge16.ensures (rw (digits_two c.loop-left.left c.if-left-ge16.true (omega arith)) at c.loop-left.invariant.written)

pub put_digit-requires : goal.put_digit-requires
put_digit-requires c = omega (arith, length_one c.loop-left.left (omega arith))

pub returns-clause-written : goal.returns-clause-written
returns-clause-written c =
    rw c.put_digit.ensures.written (rw (digits_one c.loop-left.left (omega arith)) at c.loop-left.invariant.written)

pub returns-clause-start : goal.returns-clause-start
returns-clause-start c = omega (arith, length_one c.loop-left.left (omega arith), length_digits c.args.number c.ranges.number.fits)
