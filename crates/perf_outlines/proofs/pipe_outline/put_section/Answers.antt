use Rattle.std.proofs.Common.{◌≡◌, ◌+◌, ◌<◌, ◌++◌, ◌∷◌, [], List, Ok, true, length, take, sym, ap, subst, All, ◌∙◌, arith}
use Rattle.std.proofs.lemmas.Bool.{eq-eqb}
use Rattle.std.proofs.lemmas.Grind.{take-set_at}
use Rattle.std.proofs.lemmas.List.{append_assoc}
use Rattle.std.proofs.lemmas.List.Elements.{All-push}
use Rattle.std.proofs.lemmas.Result.{err_from_is_err_and}
use Rattle.perf_file.specs.NoteViews.{note_of}
use Rattle.perf_outlines.specs.PipeOutlines.{from_notes}
use Rattle.perf_file.specs.Pipes.{is_of, noted_ids}
use Rattle.perf_sections.specs.Sections.{IsInside}
use Rattle.perf_sections.specs.declared.section.Section.{Section}
use Rattle.perf_outlines.proofs.PipeCounts.{reads_one, stops_at, made_alike, counts_one}
use Rattle.perf_outlines.proofs.pipe_outline.put_section.Goals as goal

pub returns-in_err-ids-clause-read : goal.returns-in_err-ids-clause-read
returns-in_err-ids-clause-read c rest =
    let p = err_from_is_err_and c.from_residual.result c.from_residual.ensures.1 in
    let on : is_of 64 (note_of c.args.note.now) ≡ true = eq-eqb c.args.note.now.header.type_ 64 (omega (arith, c.if-note-ne-HEADER_ATTR.false)) in
    rw (p.1, p.2) (stops_at (noted_ids c.args.order c.args.bytes.now) c.args.index (note_of c.args.note.now) rest c.in_err-ids.field-0.0 (λ all. Ok (take c.args.index c.args.sections.now ++ all)) on (sym c.in_err-ids.ensures.value))

pub returns-clause-read : goal.returns-clause-read
returns-clause-read c rest =
    let item = noted_ids c.args.order c.args.bytes.now in
    let x = note_of c.args.note.now in
    let i = c.args.index in
    let old = c.args.sections.now in
    let s = c.in_ok-ids.ids in
    let on : is_of 64 x ≡ true = eq-eqb c.args.note.now.header.type_ 64 (omega (arith, c.if-note-ne-HEADER_ATTR.false)) in
    let room : i < length old = omega (arith, c.requires, counts_one x on) in
    reads_one item i x rest s (λ all. Ok (take i old ++ all)) on (sym c.in_ok-ids.ensures.value)
    ∙ made_alike item (i + 1) rest (λ all. Ok (take i old ++ (s ∷ all))) (λ all. Ok ((take i old ++ s ∷ []) ++ all)) (λ all. ap (λ (xs : List Section). Ok xs) (sym (append_assoc (take i old) (s ∷ []) all)))
    ∙ ap (λ (front : List Section). from_notes item (i + 1) rest (λ all. Ok (front ++ all))) (sym (take-set_at old i (i + 1) s (omega arith) room))

pub returns-clause-inside : goal.returns-clause-inside
returns-clause-inside c before =
    let x = note_of c.args.note.now in
    let i = c.args.index in
    let old = c.args.sections.now in
    let on : is_of 64 x ≡ true = eq-eqb c.args.note.now.header.type_ 64 (omega (arith, c.if-note-ne-HEADER_ATTR.false)) in
    let room : i < length old = omega (arith, c.requires, counts_one x on) in
    subst (All (IsInside c.args.bytes.now)) (sym (take-set_at old i (i + 1) c.in_ok-ids.ids (omega arith) room)) (All-push (IsInside c.args.bytes.now) _ _ before c.in_ok-ids.ensures.inside)
