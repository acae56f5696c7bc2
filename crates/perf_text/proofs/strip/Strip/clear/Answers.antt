use Rattle.std.proofs.Common.{arith, subst, sym}
use Rattle.std.specs.Str.{IsUtf8}
use Rattle.std.proofs.lemmas.List.{drop_all}
use Rattle.std.proofs.lemmas.Str.{IsUtf8-nil}
use Rattle.perf_text.proofs.strip.Strip.clear.Goals as goal

pub invariant_of-self : goal.invariant_of-self
invariant_of-self c = record {
  within = omega arith;
  is_text = ∣ subst IsUtf8 (sym (drop_all 256 c.args.self.now.bytes (omega arith))) IsUtf8-nil ∣₁;
}

pub returns-clause-text : goal.returns-clause-text
returns-clause-text c = drop_all 256 c.args.self.now.bytes (omega arith)
