use Rattle.std.proofs.Common.{◌≡◌, ◌+◌, ◌<◌, ◌++◌, ◌∷◌, [], List, Ok, true, map, length, take, drop, get_or, zip, sym, ap, ◌∙◌, arith}
use Rattle.std.proofs.lemmas.Bool.{eq-eqb}
use Rattle.std.proofs.lemmas.Grind.{take-set_at}
use Rattle.std.proofs.lemmas.List.{append_assoc}
use Rattle.std.proofs.lemmas.Result.{err_from_is_err_and}
use Rattle.perf_file.specs.NoteViews.{note_of}
use Rattle.perf_outlines.specs.PipeOutlines.{from_notes}
use Rattle.perf_file.specs.Pipes.{is_of, noted_attribute}
use Rattle.perf_sections.specs.declared.section.Section.{Section}
use Rattle.perf_outlines.proofs.PipeCounts.{reads_one, stops_at, made_alike, counts_one}
use Rattle.perf_outlines.specs.FileEvents.{flat_event}
use Rattle.perf_outlines.specs.declared.file_events.FlatEvent.{FlatEvent}
use Rattle.perf_outlines.proofs.FileLaws.{drop_some}
use Rattle.perf_outlines.proofs.file_events.put_event.Goals as goal

pub returns-in_err-attr-clause-read : goal.returns-in_err-attr-clause-read
returns-in_err-attr-clause-read c rest =
    let p = err_from_is_err_and c.from_residual.result c.from_residual.ensures.1 in
    let i = c.args.index in
    let on : is_of 64 (note_of c.args.note.now) ≡ true = eq-eqb c.args.note.now.header.type_ 64 (omega (arith, c.if-note-ne-HEADER_ATTR.false)) in
    rw (p.1, p.2) (stops_at (noted_attribute c.args.order) i (note_of c.args.note.now) rest c.in_err-attr.field-0.0 (λ ats. Ok (take i c.args.all.now ++ map (flat_event c.args.order) (zip ats (drop i c.args.sections.now)))) on (sym c.in_err-attr.ensures))

pub returns-clause-read : goal.returns-clause-read
returns-clause-read c rest =
    let item = noted_attribute c.args.order in
    let f = flat_event c.args.order in
    let x = note_of c.args.note.now in
    let i = c.args.index in
    let old = c.args.all.now in
    let ss = c.args.sections.now in
    let a = c.in_ok-attr.attr in
    let v = c.flat_event.result in
    let zero_section : Section = record { start = 0; size = 0 } in
    let s = get_or ss i zero_section in
    let on : is_of 64 x ≡ true = eq-eqb c.args.note.now.header.type_ 64 (omega (arith, c.if-note-ne-HEADER_ATTR.false)) in
    let room : i < length old = omega (arith, c.requires.room, counts_one x on) in
    let there : i < length ss = omega (arith, room, c.requires.sections) in
    reads_one item i x rest a (λ ats. Ok (take i old ++ map f (zip ats (drop i ss)))) on (sym c.in_ok-attr.ensures)
    ∙ ap (λ (left : List Section). from_notes item (i + 1) rest (λ ats. Ok (take i old ++ map f (zip (a ∷ ats) left)))) (drop_some ss i zero_section there)
    ∙ ap (λ (y : FlatEvent). from_notes item (i + 1) rest (λ ats. Ok (take i old ++ (y ∷ map f (zip ats (drop (i + 1) ss)))))) (sym c.flat_event.ensures)
    ∙ made_alike item (i + 1) rest (λ ats. Ok (take i old ++ (v ∷ map f (zip ats (drop (i + 1) ss))))) (λ ats. Ok ((take i old ++ v ∷ []) ++ map f (zip ats (drop (i + 1) ss))))
    (λ ats. ap (λ (es : List FlatEvent). Ok es) (sym (append_assoc (take i old) (v ∷ []) (map f (zip ats (drop (i + 1) ss))))))
    ∙ ap (λ (front : List FlatEvent). from_notes item (i + 1) rest (λ ats. Ok (front ++ map f (zip ats (drop (i + 1) ss))))) (sym (take-set_at old i (i + 1) v (omega arith) room))
