use Rattle.std.proofs.Common.{◌≡◌, ◌++◌, ◌∷◌, [], ◌+◌, List, ℕ, take, length, min, get_or, ap, sym, ◌∙◌, append-nil, append_assoc, arith}
use Rattle.std.proofs.lemmas.List.{take_all, take_more}
use Rattle.perf_outlines.specs.FlatNames.{over}
use Rattle.perf_outlines.proofs.event_name.put.Goals as goal

pub loop-byte-init : goal.loop-byte-init
loop-byte-init c = λ done old is at.
    (is ∙ ap (λ (d : List ℕ). over d old) (sym (append-nil done)), at ∙ ap (λ (d : List ℕ). min (length d) (length old)) (sym (append-nil done)))

pub loop-byte-preserved : goal.loop-byte-preserved
loop-byte-preserved c = λ done old is at.
    let text = c.args.text.now in
    let i = c.loop-byte.byte-index in
    let inv = c.loop-byte.invariant done old is at in
    let more = c.put_byte-at.ensures (done ++ take i text) old inv.0 inv.1 in
    let next : (done ++ take i text) ++ get_or text i 0 ∷ [] ≡ done ++ take (i + 1) text = append_assoc done (take i text) (get_or text i 0 ∷ []) ∙ ap (λ (t : List ℕ). done ++ t) (sym (take_more text i 0 (omega arith))) in
    (more.0 ∙ ap (λ (d : List ℕ). over d old) next, more.1 ∙ ap (λ (d : List ℕ). min (length d) (length old)) next)

pub returns : goal.returns
returns c = λ done old is at.
    let text = c.args.text.now in
    let inv = c.loop-byte.invariant done old is at in
    let all : done ++ take c.loop-byte.byte-index text ≡ done ++ text = ap (λ (t : List ℕ). done ++ t) (take_all c.loop-byte.byte-index text (omega arith)) in
    (inv.0 ∙ ap (λ (d : List ℕ). over d old) all, inv.1 ∙ ap (λ (d : List ℕ). min (length d) (length old)) all)
