use Rattle.std.proofs.Common.{◌∙◌, arith, rules, sym, append_assoc}
use Rattle.perf_reports.proofs.Escaped.{escaped_chunk, escaped_plain}
use Rattle.perf_reports.proofs.names.push_name.Goals as goal

pub returns-in-Ok : goal.returns-in-Ok
returns-in-Ok c =
    let plain = escaped_plain c.args.bytes.now (sym c.is_plain.ensures ∙ c.if-is_plain.true) in
    rw plain (search rules)

pub loop-chunk-preserved : goal.loop-chunk-preserved
loop-chunk-preserved c =
    let steps = c.in-Some.ensures.steps in
    let chunk = escaped_chunk _ _ _ _ (omega (arith, steps.1)) steps.0 steps.3.0 steps.3.1 in
    rw (c.in_ok-push_escaped.ensures, c.invalid.ensures, c.in_ok-push_text.ensures, c.valid.ensures, append_assoc, append_assoc) (rw chunk at c.loop-chunk.invariant)
