use Rattle.std.proofs.Common.{◌≡◌, ◌++◌, ◌∙◌, drop, ap, subst, sym, arith, rules}
use Rattle.std.specs.Str.{IsUtf8}
use Rattle.std.proofs.lemmas.Str.{IsUtf8-append, IsUtf8-had}
use Rattle.perf_text.proofs.Hex.{pair, hex_byte_is_pair, IsUtf8-pair}
use Rattle.perf_text.proofs.strip.Strip.put_hex_byte.Goals as goal

pub invariant_of-self : goal.invariant_of-self
invariant_of-self c =
    let same : c.from.result ≡ c.args.byte = search rules in
    let written = rw same at c.put_pair.ensures in record {
      within = omega arith;
      is_text = ∣ subst IsUtf8 (sym written) (IsUtf8-append (pair c.args.byte) _ (IsUtf8-pair c.args.byte (omega arith)) (IsUtf8-had _ c.args.self.now.is_text)) ∣₁;
    }

pub returns-clause-text : goal.returns-clause-text
returns-clause-text c =
    let s = c.args.self.now in
    let same : c.from.result ≡ c.args.byte = search rules in
    let written = rw same at c.put_pair.ensures in
    written ∙ ap (λ digits. digits ++ drop s.start s.bytes) (sym (hex_byte_is_pair c.args.byte (omega arith)))
