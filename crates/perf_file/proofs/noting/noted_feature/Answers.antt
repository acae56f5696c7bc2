use Rattle.std.proofs.Common.{◌+◌, List, drop, map, ap, sym, ◌∙◌}
use Rattle.std.specs.Prelude.{option_map}
use Rattle.perf_base.specs.Dynamic.{order_of}
use Rattle.perf_file.specs.NoteViews.{note_of}
use Rattle.perf_file.specs.Pipes.{FrameNote, noted_feature, own_feature, newer}
use Rattle.perf_file.proofs.EachNote.{here, none_left}
use Rattle.perf_file.proofs.Noted.{newer_older, newer_none}
use Rattle.perf_file.proofs.noting.noted_feature.Goals as goal

pub loop-index-init : goal.loop-index-init
loop-index-init c = newer_none (noted_feature (order_of c.args.order) c.args.feature (map note_of c.args.notes.now))

pub loop-index-preserved : goal.loop-index-preserved
loop-index-preserved c =
    let o = order_of c.args.order in
    let f = c.args.feature in
    let i = c.loop-index.index in
    let rest : List FrameNote = map note_of (drop (i + 1) c.args.notes.now) in
    let old = option_map (λ b. b.now) c.loop-index.found in
    ap (λ x. newer (noted_feature o f rest) x) (c.newer-found.ensures ∙ ap (λ x. newer x old) c.own_feature.ensures)
    ∙ sym (newer_older (noted_feature o f rest) (own_feature o f (note_of c.index-notes-index.result)) old)
    ∙ sym (ap (λ (ns : List FrameNote). newer (noted_feature o f ns) old) (here c.args.notes.now i c.index-notes-index.result c.loop-index-test.true c.index-notes-index.is))
    ∙ c.loop-index.invariant

pub returns : goal.returns
returns c =
    let o = order_of c.args.order in
    let old = option_map (λ b. b.now) c.loop-index.found in
    sym (ap (λ (ns : List FrameNote). newer (noted_feature o c.args.feature ns) old) (none_left c.args.notes.now c.loop-index.index c.loop-index-test.false)) ∙ c.loop-index.invariant
