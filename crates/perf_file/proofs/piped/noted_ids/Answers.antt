use Rattle.std.proofs.Common.{◌≡◌, ◌+◌, List, ℕ, length, ap, ◌∙◌}
use Rattle.perf_base.specs.Dynamic.{order_of}
use Rattle.perf_sections.specs.IdSections.{checked_ids}
use Rattle.perf_file.specs.NoteViews.{note_of}
use Rattle.perf_file.specs.Pieces.{take_most, drop_most}
use Rattle.perf_file.specs.Pipes.{attribute_bytes, id_bytes}
use Rattle.perf_file.proofs.piped.noted_ids.Goals as goal

pub returns-clause-value : goal.returns-clause-value
returns-clause-value c =
    let n = c.args.note.now in
    let o = order_of c.args.order in
    let front : c.split_most.result.0.now ≡ attribute_bytes o (note_of n) = c.split_most.ensures.front ∙ ap (λ k. take_most k n.body.now) c.attribute_size.ensures in
    let back : c.split_most.result.1.now ≡ id_bytes o (note_of n) = c.split_most.ensures.back ∙ ap (λ k. drop_most k n.body.now) c.attribute_size.ensures in
    c.checked_ids.ensures.value
    ∙ ap (λ (xs : List ℕ). checked_ids c.args.bytes.now c.args.index (record { start = n.at + 8 + length xs; size = length c.split_most.result.1.now })) front
    ∙ ap (λ (xs : List ℕ). checked_ids c.args.bytes.now c.args.index (record { start = n.at + 8 + length (attribute_bytes o (note_of n)); size = length xs })) back
