use Rattle.std.proofs.Common.{◌≡◌, ℕ, ◌+◌, ◌-◌, ◌<◌, ◌≤◌, ◌++◌, ◌∷◌, List, Ok, map, take, drop, get_or, length, zip, ap, sym, ◌∙◌, arith}
use Rattle.std.proofs.lemmas.Grind.{take-set_at}
use Rattle.std.proofs.lemmas.List.{take_all, append-nil}
use Rattle.std.proofs.lemmas.Result.{err_from_is_err_and}
use Rattle.perf_sections.specs.Attributes.{attribute_at}
use Rattle.perf_sections.specs.IdSections.{entry_count}
use Rattle.perf_sections.specs.Opens.{◌>>=◌, each_from}
use Rattle.perf_sections.specs.declared.section.Section.{Section}
use Rattle.perf_outlines.proofs.Stepping.{step, stop, over, front_more}
use Rattle.perf_outlines.specs.FileEvents.{flat_event}
use Rattle.perf_outlines.specs.declared.file_events.FlatEvent.{FlatEvent}
use Rattle.perf_outlines.proofs.FileLaws.{drop_some}
use Rattle.perf_outlines.proofs.file_events.fill_events.Goals as goal

pub loop-index-init : goal.loop-index-init
loop-index-init c =
    let count = entry_count c.args.head in
    let all : count - 0 ≡ count = omega arith in
    ap (λ (n : ℕ). each_from (attribute_at c.args.bytes.now c.args.head) 0 n >>= λ ats. Ok (map (flat_event c.args.head.order) (zip ats c.args.sections.now))) all

pub returns-in_err-attr : goal.returns-in_err-attr
returns-in_err-attr c =
    let p = err_from_is_err_and c.from_residual.result c.from_residual.ensures.1 in
    let i = c.loop-index.index in
    rw (p.1, p.2) (sym c.loop-index.invariant ∙ stop (attribute_at c.args.bytes.now c.args.head) (entry_count c.args.head) i c.in_err-attr.field-0.0 (λ ats. Ok (take i c.loop-index.all ++ map (flat_event c.args.head.order) (zip ats (drop i c.args.sections.now)))) c.loop-index-test.true (sym c.in_err-attr.ensures))

pub loop-index-preserved : goal.loop-index-preserved
loop-index-preserved c =
    let item = attribute_at c.args.bytes.now c.args.head in
    let count = entry_count c.args.head in
    let f = flat_event c.args.head.order in
    let i = c.loop-index.index in
    let all = c.loop-index.all in
    let ss = c.args.sections.now in
    let a = c.in_ok-attr.attr in
    let zero_section : Section = record { start = 0; size = 0 } in
    let s = get_or ss i zero_section in
    let v = c.flat_event.result in
    let room : i < length all = omega (arith, c.loop-index.auto.all, c.requires.room, c.loop-index-test.true) in
    let there : i < length ss = omega (arith, c.requires.sections, c.loop-index-test.true) in
    let read = each_from item (i + 1) (count - (i + 1)) in
    ap (λ (front : List FlatEvent). read >>= λ ats. Ok (front ++ map f (zip ats (drop (i + 1) ss)))) (take-set_at all i (i + 1) v (omega arith) room)
    ∙ sym (front_more (take i all) v (λ ats. map f (zip ats (drop (i + 1) ss))) read)
    ∙ ap (λ (w : FlatEvent). read >>= λ ats. Ok (take i all ++ (w ∷ map f (zip ats (drop (i + 1) ss))))) c.flat_event.ensures
    ∙ ap (λ (rest : List Section). read >>= λ ats. Ok (take i all ++ map f (zip (a ∷ ats) rest))) (sym (drop_some ss i zero_section there))
    ∙ sym (step item count i a (λ ats. Ok (take i all ++ map f (zip ats (drop i ss)))) c.loop-index-test.true (sym c.in_ok-attr.ensures))
    ∙ c.loop-index.invariant

pub returns : goal.returns
returns c =
    let i = c.loop-index.index in
    let all = c.loop-index.all in
    let full : length all ≤ i = omega (arith, c.loop-index.auto.all, c.requires.room, c.loop-index-test.false) in
    sym c.loop-index.invariant
    ∙ over (attribute_at c.args.bytes.now c.args.head) (entry_count c.args.head) i (λ ats. Ok (take i all ++ map (flat_event c.args.head.order) (zip ats (drop i c.args.sections.now)))) c.loop-index-test.false
    ∙ ap (λ (xs : List FlatEvent). Ok xs) (append-nil (take i all) ∙ take_all i all full)
