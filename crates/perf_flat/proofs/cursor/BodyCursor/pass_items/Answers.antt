use Rattle.std.proofs.Common.{◌≡◌, ℕ, ◌*◌, ◌^◌, ◌<◌, length, subst, sym, ap, ◌∙◌, arith, inl, inr}
use Rattle.std.proofs.Math.Nat.{mul_comm, mul_assoc}
use Rattle.std.proofs.lemmas.Bool.{cases_lt}
use Rattle.perf_flat.proofs.CursorRuns.{Passed, passed_numbers, lacks_numbers}
use Rattle.perf_flat.proofs.cursor.BodyCursor.pass_items.Goals as goal

-- the number of bytes
bytes_of : (count each n : ℕ) → n ≡ each * count → count * (8 * each) ≡ 8 * n
bytes_of count each n is = mul_comm count (8 * each) ∙ mul_assoc 8 each count ∙ ap (λ m. 8 * m) (sym is)

pub returns-in-Some : goal.returns-in-Some
returns-in-Some c = λ o n is.
    let a = c.args.self.now in
    let len : c.in-Some.len ≡ 8 * n = c.in-Some.ensures.1 ∙ bytes_of c.args.count c.args.each n is in
    let passed : Passed c.in-Some.len a c.pass.result c.pass.new.self = record { bytes = c.pass.ensures.bytes; short = c.pass.ensures.short; fits = c.pass.ensures.fits } in
    passed_numbers o n a c.pass.new.self c.pass.result a.within (subst (λ m. Passed m a c.pass.result c.pass.new.self) len passed)

pub returns-in-None : goal.returns-in-None
returns-in-None c = λ o n is.
    let a = c.args.self.now in
    let same : c.args.count * (8 * c.args.each) ≡ 8 * n = bytes_of c.args.count c.args.each n is in
    let room : length a.bytes.now < 2 ^ 63 = c.pass-in-None.ensures.room in
    let many : length a.bytes.now < 8 * n = elim (cases_lt (c.args.count * (8 * c.args.each)) (2 ^ 64)) [
      | inl few ↦ absurd (c.in-None.ensures few)
      | inr most ↦ omega arith
    ] in
    lacks_numbers o n a c.pass-in-None.new.self _ many (c.pass-in-None.ensures.short (omega arith)) c.pass-in-None.ensures.bytes
