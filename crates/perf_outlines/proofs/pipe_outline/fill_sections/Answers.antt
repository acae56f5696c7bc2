use Rattle.std.proofs.Common.{◌≤◌, ◌++◌, List, Ok, length, take, ap, sym, ◌∙◌, arith}
use Rattle.std.specs.List.{filter}
use Rattle.std.proofs.lemmas.List.{take_all, append-nil}
use Rattle.perf_outlines.specs.PipeOutlines.{from_notes}
use Rattle.perf_file.specs.Pipes.{FrameNote, is_of, noted_ids}
use Rattle.perf_sections.specs.declared.section.Section.{Section}
use Rattle.perf_outlines.proofs.PipeCounts.{none_left}
use Rattle.perf_outlines.proofs.pipe_outline.fill_sections.Goals as goal

pub returns-clause-exact : goal.returns-clause-exact
returns-clause-exact c =
    let item = noted_ids c.args.order c.args.bytes.now in
    let i = c.loop-note.index in
    let now = c.loop-note.sections in
    let none = ap (λ (ns : List FrameNote). length (filter (is_of 64) ns)) c.in-None.ensures.steps.0 in
    let full : length now ≤ i = omega (arith, c.loop-note.invariant.0, none) in
    sym c.loop-note.invariant.2
    ∙ ap (λ ns. from_notes item i ns (λ all. Ok (take i now ++ all))) c.in-None.ensures.steps.0
    ∙ none_left item i (λ all. Ok (take i now ++ all))
    ∙ ap (λ (xs : List Section). Ok xs) (append-nil (take i now) ∙ take_all i now full)
