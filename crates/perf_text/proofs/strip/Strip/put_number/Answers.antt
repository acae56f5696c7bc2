use Rattle.std.proofs.Common.{◌≤◌, length, decimal, subst, sym, arith}
use Rattle.std.specs.Str.{IsUtf8}
use Rattle.std.proofs.lemmas.Fmt.{length-decimal-le, IsAscii-decimal}
use Rattle.std.proofs.lemmas.Str.{IsUtf8-append, IsUtf8-had, IsUtf8-from_ascii}
use Rattle.perf_text.proofs.strip.Strip.put_number.Goals as goal

pub write_digits-self-requires : goal.write_digits-self-requires
write_digits-self-requires c =
    let short : length (decimal c.args.number) ≤ 20 = length-decimal-le 20 c.args.number (omega arith) (omega arith) c.ranges.number.fits in
    (omega arith, omega arith)

pub invariant_of-self : goal.invariant_of-self
invariant_of-self c = record {
  within = omega arith;
  is_text = ∣ subst IsUtf8 (sym c.write_digits-self.ensures.written) (IsUtf8-append _ _ (IsUtf8-from_ascii _ (IsAscii-decimal c.args.number c.ranges.number.fits)) (IsUtf8-had _ c.args.self.now.is_text)) ∣₁;
}

pub returns-clause-room : goal.returns-clause-room
returns-clause-room c =
    let short : length (decimal c.args.number) ≤ 20 = length-decimal-le 20 c.args.number (omega arith) (omega arith) c.ranges.number.fits in
    omega arith
