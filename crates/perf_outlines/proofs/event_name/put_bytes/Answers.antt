use Rattle.std.proofs.Common.{◌≡◌, ◌++◌, ◌∷◌, [], ◌+◌, List, ℕ, take, length, min, get_or, flat_map, ap, sym, ◌∙◌, append-nil, arith}
use Rattle.std.proofs.lemmas.Grind.{flat_map-append}
use Rattle.std.proofs.lemmas.List.{take_more}
use Rattle.perf_sections.specs.Names.{escaped}
use Rattle.perf_outlines.specs.FlatNames.{over}
use Rattle.perf_outlines.proofs.event_name.put_bytes.Goals as goal

pub loop-byte-preserved : goal.loop-byte-preserved
loop-byte-preserved c =
    let name = c.args.name.now in
    let old = c.args.out.now in
    let i = c.loop-byte.byte-index in
    let more = c.put_escaped-at.ensures (flat_map escaped (take i name)) old c.loop-byte.invariant.0 c.loop-byte.invariant.1 in
    let next : flat_map escaped (take i name) ++ escaped (get_or name i 0) ≡ flat_map escaped (take (i + 1) name) =
    sym (ap (flat_map escaped) (take_more name i 0 (omega arith)) ∙ flat_map-append escaped (take i name) (get_or name i 0 ∷ []) ∙ ap (λ (t : List ℕ). flat_map escaped (take i name) ++ t) (append-nil (escaped (get_or name i 0)))) in
    (more.0 ∙ ap (λ (d : List ℕ). over d old) next, more.1 ∙ ap (λ (d : List ℕ). min (length d) (length old)) next)
