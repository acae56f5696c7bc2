use Rattle.std.proofs.Common.{◌≡◌, true, sym, ◌∙◌}
use Rattle.perf_script.specs.ScriptText.{has_counters}
use Rattle.perf_script.proofs.script.push_shown.Goals as goal

pub returns-then-has_bit : goal.returns-then-has_bit
returns-then-has_bit c = λ f all changes older events history counted.
    let there : has_counters c.args.shown.now.fields ≡ true = sym c.has_bit.ensures ∙ c.if-has_bit.true in
    rw there (c.push_counters.ensures f all changes older events history counted)
