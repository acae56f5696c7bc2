use Rattle.std.proofs.Common.{◌≡◌, ℕ, ◌+◌, ◌∷◌, Ok, true, length, sym, ap, ◌∙◌, arith}
use Rattle.std.proofs.lemmas.Bool.{eq-eqb}
use Rattle.std.proofs.lemmas.Result.{err_from_is_err_and}
use Rattle.perf_file.specs.NoteViews.{note_of}
use Rattle.perf_file.specs.Pipes.{is_of, noted_attribute}
use Rattle.perf_outlines.proofs.PipeCounts.{reads_one, stops_at, made_alike}
use Rattle.perf_outlines.proofs.pipe_outline.count_attribute.Goals as goal

pub returns-in_err-noted_attribute-clause-read : goal.returns-in_err-noted_attribute-clause-read
returns-in_err-noted_attribute-clause-read c rest =
    let p = err_from_is_err_and c.from_residual.result c.from_residual.ensures.1 in
    let on : is_of 64 (note_of c.args.note.now) ≡ true = eq-eqb c.args.note.now.header.type_ 64 (omega (arith, c.if-note-ne-HEADER_ATTR.false)) in
    rw (p.1, p.2) (stops_at (noted_attribute c.args.order) c.args.index (note_of c.args.note.now) rest c.in_err-noted_attribute.field-0.0 (λ all. Ok (c.args.index + length all)) on (sym c.in_err-noted_attribute.ensures))

pub returns-clause-read : goal.returns-clause-read
returns-clause-read c rest =
    let item = noted_attribute c.args.order in
    let x = note_of c.args.note.now in
    let i = c.args.index in
    let a = c.in_ok-noted_attribute.field-0 in
    let on : is_of 64 x ≡ true = eq-eqb c.args.note.now.header.type_ 64 (omega (arith, c.if-note-ne-HEADER_ATTR.false)) in
    reads_one item i x rest a (λ all. Ok (i + length all)) on (sym c.in_ok-noted_attribute.ensures)
    ∙ made_alike item (i + 1) rest (λ all. Ok (i + length (a ∷ all))) (λ all. Ok (i + 1 + length all)) (λ all. ap (λ (n : ℕ). Ok n) (omega arith))
