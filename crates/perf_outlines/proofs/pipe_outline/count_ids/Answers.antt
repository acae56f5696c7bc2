use Rattle.std.proofs.Common.{◌≡◌, ℕ, ◌+◌, ◌/◌, ◌∷◌, Ok, true, min, length, sym, ap, ◌∙◌, arith}
use Rattle.std.proofs.lemmas.Bool.{eq-eqb}
use Rattle.std.proofs.lemmas.List.Sums.{sum_by-cons}
use Rattle.std.proofs.lemmas.Result.{err_from_is_err_and}
use Rattle.perf_file.specs.NoteViews.{note_of}
use Rattle.perf_outlines.specs.Outlines.{ids_in, id_count}
use Rattle.perf_file.specs.Pipes.{is_of, noted_ids}
use Rattle.perf_outlines.proofs.PipeCounts.{reads_one, stops_at, made_alike}
use Rattle.perf_outlines.proofs.pipe_outline.count_ids.Goals as goal

pub returns-in_err-ids-clause-read : goal.returns-in_err-ids-clause-read
returns-in_err-ids-clause-read c rest =
    let p = err_from_is_err_and c.from_residual.result c.from_residual.ensures.1 in
    let on : is_of 64 (note_of c.args.note.now) ≡ true = eq-eqb c.args.note.now.header.type_ 64 (omega (arith, c.if-note-ne-HEADER_ATTR.false)) in
    rw (p.1, p.2) (stops_at (noted_ids c.args.order c.args.bytes.now) c.args.before.events (note_of c.args.note.now) rest c.in_err-ids.field-0.0 (λ all. Ok (min (c.args.before.ids + id_count all) (length c.args.bytes.now / 8))) on (sym c.in_err-ids.ensures.value))

pub returns-clause-read : goal.returns-clause-read
returns-clause-read c rest =
    let item = noted_ids c.args.order c.args.bytes.now in
    let x = note_of c.args.note.now in
    let n = c.args.before.ids in
    let most = length c.args.bytes.now / 8 in
    let s = c.in_ok-ids.ids in
    let on : is_of 64 x ≡ true = eq-eqb c.args.note.now.header.type_ 64 (omega (arith, c.if-note-ne-HEADER_ATTR.false)) in
    let now : c.min-total.result ≡ min (n + s.size / 8) most = omega (arith, c.min-total.ensures) in
    reads_one item c.args.before.events x rest s (λ all. Ok (min (n + id_count all) most)) on (sym c.in_ok-ids.ensures.value)
    ∙ made_alike item (c.args.before.events + 1) rest (λ all. Ok (min (n + id_count (s ∷ all)) most)) (λ all. Ok (min (c.min-total.result + id_count all) most))
    (λ all. let sum : id_count (s ∷ all) ≡ s.size / 8 + id_count all = sum_by-cons ids_in s all in ap (λ (k : ℕ). Ok k) (omega (arith, sum, now)))
