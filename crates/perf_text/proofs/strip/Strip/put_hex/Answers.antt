use Rattle.std.proofs.Common.{◌≡◌, ◌++◌, ◌-◌, ◌∙◌, drop, ap, subst, sym, arith, codes}
use Rattle.std.specs.Str.{IsUtf8}
use Rattle.std.proofs.lemmas.Str.{IsUtf8-append, IsUtf8-had}
use Rattle.perf_text.specs.Numbers.{hex}
use Rattle.perf_text.proofs.Hex.{IsUtf8-hex}
use Rattle.perf_text.proofs.strip.Strip.put_hex.Goals as goal

pub invariant_of-self : goal.invariant_of-self
invariant_of-self c =
    let s = c.args.self.now in
    let written : drop (c.put_digits-digits.result - 2) c.put_two.new.bytes ≡ hex c.args.number ++ drop s.start s.bytes = c.put_two.ensures ∙ ap (λ xs. codes "0x" ++ xs) c.put_digits-digits.ensures.written in record {
      within = omega arith;
      is_text = ∣ subst IsUtf8 (sym written) (IsUtf8-append _ _ (IsUtf8-hex c.args.number) (IsUtf8-had _ s.is_text)) ∣₁;
    }

pub returns-clause-text : goal.returns-clause-text
returns-clause-text c = c.put_two.ensures ∙ ap (λ xs. codes "0x" ++ xs) c.put_digits-digits.ensures.written
