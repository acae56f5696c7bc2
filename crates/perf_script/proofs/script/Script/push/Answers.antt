use Rattle.std.proofs.Common.{◌==◌, ◌||◌, not, sym, ◌∙◌, ap}
use Rattle.std.proofs.lemmas.Result.{on_ok_weaker}
use Rattle.perf_base.specs.Dynamic.{order_of}
use Rattle.perf_flat.specs.declared.frame.FlatFrame.{FlatFrame}
use Rattle.perf_script.proofs.Refused.{refused_is}
use Rattle.perf_script.proofs.script.Script.push.Goals as goal

pub returns-clause-pushes : goal.returns-clause-pushes
returns-clause-pushes c = λ f all m older is events frame past counted.
    let old = c.args.self.now in
    on_ok_weaker c.push_found.result (λ pair. record {
      counted = pair.0;
      text = pair.1;
      refused =
          ap (λ (g : FlatFrame). old.refused || not (g.refusal == 0)) c.frame.ensures
          ∙ ap (λ b. old.refused || b) (sym (refused_is m.config (order_of f.order) m.frame old.walk.frame frame.states));
    }) (c.push_found.ensures f all m older is events frame past counted)
