use Rattle.std.proofs.Common.{◌≤◌, ◌++◌, List, Ok, map, length, take, drop, zip, ap, sym, ◌∙◌, arith}
use Rattle.std.specs.List.{filter}
use Rattle.std.proofs.lemmas.List.{take_all, append-nil}
use Rattle.perf_base.specs.declared.sys.perf_event_attr.{perf_event_attr}
use Rattle.perf_outlines.specs.PipeOutlines.{from_notes}
use Rattle.perf_file.specs.Pipes.{FrameNote, is_of, noted_attribute}
use Rattle.perf_outlines.proofs.PipeCounts.{none_left}
use Rattle.perf_outlines.specs.FileEvents.{flat_event}
use Rattle.perf_outlines.specs.declared.file_events.FlatEvent.{FlatEvent}
use Rattle.perf_outlines.proofs.file_events.fill_note_events.Goals as goal

pub returns : goal.returns
returns c =
    let item = noted_attribute c.args.order in
    let i = c.loop-note.index in
    let now = c.loop-note.all in
    let made : List perf_event_attr → List FlatEvent = λ ats. map (flat_event c.args.order) (zip ats (drop i c.args.sections.now)) in
    let none = ap (λ (ns : List FrameNote). length (filter (is_of 64) ns)) c.in-None.ensures.steps.0 in
    let full : length now ≤ i = omega (arith, c.loop-note.invariant.0, none) in
    sym c.loop-note.invariant.1
    ∙ ap (λ ns. from_notes item i ns (λ ats. Ok (take i now ++ made ats))) c.in-None.ensures.steps.0
    ∙ none_left item i (λ ats. Ok (take i now ++ made ats))
    ∙ ap (λ (es : List FlatEvent). Ok es) (append-nil (take i now) ∙ take_all i now full)
