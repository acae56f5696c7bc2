use Rattle.std.proofs.Common.{◌||◌, not, sym, ◌∙◌, ap}
use Rattle.perf_flat.specs.declared.frame.FlatFrame.{FlatFrame}
use Rattle.perf_script.specs.ScriptText.{is_guest}
use Rattle.perf_script.proofs.Found.{hidden_is}
use Rattle.perf_script.proofs.script.is_hidden.Goals as goal

pub returns-then-is_guest : goal.returns-then-is_guest
returns-then-is_guest c = λ f m s found frame past sampled same.
    let flat : FlatFrame = c.args.walk.now.frame in
    c.if-is_guest.true ∙ ap (λ b. b || not c.takes-taken.result) (sym c.if-is_guest.true)
    ∙ hidden_is f c.args.filter.now m flat s c.is_guest.result c.takes-taken.result frame.states (c.is_guest.ensures ∙ ap (λ (g : FlatFrame). is_guest g.misc) c.frame.ensures)
    (c.takes-taken.ensures f m s found frame past sampled same)

pub returns-else-is_guest : goal.returns-else-is_guest
returns-else-is_guest c = λ f m s found frame past sampled same.
    let flat : FlatFrame = c.args.walk.now.frame in
    ap (λ b. b || not c.takes-taken.result) (sym c.if-is_guest.false)
    ∙ hidden_is f c.args.filter.now m flat s c.is_guest.result c.takes-taken.result frame.states (c.is_guest.ensures ∙ ap (λ (g : FlatFrame). is_guest g.misc) c.frame.ensures)
    (c.takes-taken.ensures f m s found frame past sampled same)
