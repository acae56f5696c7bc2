use Rattle.std.proofs.Common.{◌≡◌, ℕ, ◌+◌, List, Ok, length, ap, sym, ◌∙◌, arith}
use Rattle.perf_file.specs.NoteViews.{notes_left}
use Rattle.perf_outlines.specs.PipeOutlines.{from_notes}
use Rattle.perf_file.specs.Pipes.{FrameNote, all_frames, noted_attribute}
use Rattle.perf_outlines.proofs.PipeCounts.{few_notes, made_alike, none_left}
use Rattle.perf_outlines.proofs.pipe_outline.count_attributes.Goals as goal

pub loop-note-init : goal.loop-note-init
loop-note-init c =
    let all = all_frames c.args.order c.args.frames.now in
    let same : notes_left c.into_iter-note-iterator.result ≡ all = ap notes_left c.into_iter-note-iterator.ensures.into_iter_gives ∙ c.frames_of-note-items.ensures in (
      omega (arith, ap (λ (ns : List FrameNote). length ns) same, few_notes c.args.order c.args.frames.now),
      ap (λ ns. from_notes (noted_attribute c.args.order) 0 ns (λ attributes. Ok (0 + length attributes))) same
          ∙ made_alike (noted_attribute c.args.order) 0 all (λ attributes. Ok (0 + length attributes)) (λ attributes. Ok (length attributes)) (λ attributes. ap (λ (n : ℕ). Ok n) (omega arith)),
    )

pub returns : goal.returns
returns c =
    let item = noted_attribute c.args.order in
    let n = c.loop-note.count in
    let e : n ≡ n + 0 = omega arith in
    ap (λ (k : ℕ). Ok k) e ∙ sym (none_left item n (λ attributes. Ok (n + length attributes)))
    ∙ sym (ap (λ ns. from_notes item n ns (λ attributes. Ok (n + length attributes))) c.in-None.ensures.steps.0)
    ∙ c.loop-note.invariant.1
