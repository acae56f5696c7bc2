use Rattle.std.proofs.Common.{rules, ◌<◌, ◌^◌, List, length, ap, subst, sym, ◌∙◌, arith}
use Rattle.std.proofs.lemmas.List.{length-map}
use Rattle.perf_sections.specs.Opened.{event_view}
use Rattle.perf_file.specs.Pieces.{pieces, piece_of}
use Rattle.perf_file.specs.Views.{view}
use Rattle.perf_sections.specs.declared.events.Event.{Event}
use Rattle.perf_summary.specs.CountSteps.{IsNew}
use Rattle.perf_summary.proofs.Counted.{way_start, way_more, way_end}
use Rattle.perf_summary.proofs.counting.counts_of.Goals as goal

pub loop-found-init : goal.loop-found-init
loop-found-init c =
    let f = view c.args.recording.now in
    let items = c.args.recording.now.events.items in
    let number = ap (λ (es : List Event). length es) c.events.ensures.are ∙ sym (length-map items event_view) in
    let new = subst (λ n. IsNew n c.in_ok-counts.counts) number c.in_ok-counts.ensures in
    way_start f (pieces (view c.into_iter-found-iterator.result.recording.now) c.into_iter-found-iterator.result.left.now) c.in_ok-counts.counts
    (search rules) new

pub loop-found-preserved : goal.loop-found-preserved
loop-found-preserved c =
    let f = view c.args.recording.now in
    way_more f (pieces (view c.loop-found.found-iterator.recording.now) c.loop-found.found-iterator.left.now)
    (pieces (view c.next.new.self.recording.now) c.next.new.self.left.now) (piece_of c.in-Some.found)
    c.contents_of-contents.result c.loop-found.counts c.add.new.self c.loop-found.invariant
    c.in-Some.ensures.steps c.contents_of-contents.ensures c.add.ensures

pub returns : goal.returns
returns c =
    let f = view c.args.recording.now in
    let small : length f.frames < 2 ^ 64 = omega (arith, c.args.recording.now.inside) in
    way_end f (pieces (view c.loop-found.found-iterator.recording.now) c.loop-found.found-iterator.left.now) c.loop-found.counts small c.loop-found.invariant c.in-None.ensures.steps.0
