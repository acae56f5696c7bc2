use Rattle.std.proofs.Common.{◌≡◌, ℕ, ◌+◌, ◌/◌, List, Ok, min, length, ap, sym, ◌∙◌, arith}
use Rattle.perf_file.specs.NoteViews.{notes_left}
use Rattle.perf_outlines.specs.Outlines.{id_count}
use Rattle.perf_outlines.specs.PipeOutlines.{from_notes}
use Rattle.perf_file.specs.Pipes.{FrameNote, all_frames, noted_ids}
use Rattle.perf_outlines.proofs.PipeCounts.{few_notes, made_alike, none_left}
use Rattle.perf_outlines.proofs.Stepping.{count_done}
use Rattle.perf_outlines.proofs.pipe_outline.count_all_ids.Goals as goal

pub loop-note-init : goal.loop-note-init
loop-note-init c =
    let all = all_frames c.args.order c.args.frames.now in
    let item = noted_ids c.args.order c.args.bytes.now in
    let most = length c.args.bytes.now / 8 in
    let same : notes_left c.into_iter-note-iterator.result ≡ all = ap notes_left c.into_iter-note-iterator.ensures.into_iter_gives ∙ c.frames_of-note-items.ensures in (
      omega (arith, ap (λ (ns : List FrameNote). length ns) same, few_notes c.args.order c.args.frames.now),
      omega arith,
      ap (λ ns. from_notes item 0 ns (λ sections. Ok (min (0 + id_count sections) most))) same
          ∙ made_alike item 0 all (λ sections. Ok (min (0 + id_count sections) most)) (λ sections. Ok (min (id_count sections) most)) (λ sections. ap (λ (n : ℕ). Ok n) (omega arith)),
    )

pub returns : goal.returns
returns c =
    let item = noted_ids c.args.order c.args.bytes.now in
    let most = length c.args.bytes.now / 8 in
    let n = c.loop-note.count in
    count_done n.ids most c.loop-note.invariant.1
    ∙ sym (none_left item n.events (λ sections. Ok (min (n.ids + id_count sections) most)))
    ∙ sym (ap (λ ns. from_notes item n.events ns (λ sections. Ok (min (n.ids + id_count sections) most))) c.in-None.ensures.steps.0)
    ∙ c.loop-note.invariant.2
