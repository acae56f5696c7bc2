use Rattle.std.proofs.Common.{◌≡◌, ℕ, List, Ok, length, map, drop, zip, ap, sym, subst, ◌∙◌, arith}
use Rattle.std.specs.List.{filter}
use Rattle.std.proofs.lemmas.List.{length-drop}
use Rattle.std.proofs.lemmas.Result.{err_from_is_err_and}
use Rattle.perf_outlines.specs.PipeOutlines.{note_sections}
use Rattle.perf_file.specs.Pipes.{is_of, all_frames, opened_pipe, each_of, noted_attribute}
use Rattle.perf_sections.specs.declared.section.Section.{Section}
use Rattle.perf_outlines.proofs.PipeCounts.{ids_fit}
use Rattle.perf_outlines.proofs.PipeInMemory.{has_note_events, outline_count, sections_refused, attributes_refused}
use Rattle.perf_outlines.specs.FileEvents.{flat_event, note_events, HaveIds}
use Rattle.perf_outlines.proofs.FileLaws.{opens_pipe, note_list, places_refused, read_ends, only_first}
use Rattle.perf_outlines.proofs.NameLaws.{ids_inside, always_ok}
use Rattle.perf_outlines.proofs.file_events.read_note_events.Goals as goal

pub fill_sections-requires-clause-room : goal.fill_sections-requires-clause-room
fill_sections-requires-clause-room c =
    let out = c.requires.outline in
    let count = outline_count c.args.order c.args.bytes.now out.0 out.1 in
    let same = ap (λ (xs : List ℕ). length (filter (is_of 64) (all_frames c.args.order xs))) c.split_at.ensures.back in
    let rest = ap (λ (ss : List Section). length ss) c.split_at_mut-sections.ensures.back in
    let left = length-drop 3 c.args.parts.now in
    omega (arith, count, out.2, c.requires.parts_room, same, rest, left)

pub fill_note_events-requires-clause-room : goal.fill_note_events-requires-clause-room
fill_note_events-requires-clause-room c =
    let out = c.requires.outline in
    let count = outline_count c.args.order c.args.bytes.now out.0 out.1 in
    let same = ap (λ (xs : List ℕ). length (filter (is_of 64) (all_frames c.args.order xs))) c.split_at.ensures.back in
    omega (arith, count, out.2, same)

pub returns-in_err-fill_sections-clause-file : goal.returns-in_err-fill_sections-clause-file
returns-in_err-fill_sections-clause-file c =
    let order = c.args.order in
    let bytes = c.args.bytes.now in
    let out = c.requires.outline in
    absurd (sections_refused order bytes out.0 c.in_err-fill_sections.field-0.0 out.1 (sym (ap (λ xs. note_sections order bytes (all_frames order xs)) c.split_at.ensures.back) ∙ c.in_err-fill_sections.ensures.exact))

pub returns-in_err-fill_note_events-clause-file : goal.returns-in_err-fill_note_events-clause-file
returns-in_err-fill_note_events-clause-file c =
    let order = c.args.order in
    let bytes = c.args.bytes.now in
    let out = c.requires.outline in
    let ss = c.fill_sections.new.sections in
    let e = c.in_err-fill_note_events.field-0.0 in
    absurd (attributes_refused order bytes out.0 e out.1 (only_first (each_of (noted_attribute order) 0 (filter (is_of 64) (all_frames order (drop 16 bytes)))) (λ ats. map (flat_event order) (zip ats ss)) e
    (sym (ap (λ xs. note_events order (all_frames order xs) ss) c.split_at.ensures.back) ∙ c.in_err-fill_note_events.ensures)))

pub returns-in_err-check_places-clause-file : goal.returns-in_err-check_places-clause-file
returns-in_err-check_places-clause-file c =
    let p = err_from_is_err_and c.from_residual-in_err-check_places.result c.from_residual-in_err-check_places.ensures.1 in
    let order = c.args.order in
    let bytes = c.args.bytes.now in
    let out = c.requires.outline in
    let ss = c.fill_sections.new.sections in
    let all = c.fill_note_events.new.all in
    let has = has_note_events order bytes out.0 ss out.1 (sym (ap (λ xs. note_sections order bytes (all_frames order xs)) c.split_at.ensures.back) ∙ c.in_ok-fill_sections.ensures.exact) in
    let list = note_list all has (sym (ap (λ xs. note_events order (all_frames order xs) ss) c.split_at.ensures.back) ∙ c.in_ok-fill_note_events.ensures) in
    rw (p.1, p.2) (places_refused order bytes (opened_pipe order bytes) has.attributes ss all c.in_err-check_places.field-0.0 (opens_pipe order bytes out.0 ss has) list (sym c.in_err-check_places.ensures))

pub fill_ids-requires-clause-room : goal.fill_ids-requires-clause-room
fill_ids-requires-clause-room c =
    let order = c.args.order in
    let bytes = c.args.bytes.now in
    let out = c.requires.outline in
    let ss = c.fill_sections.new.sections in
    let read : note_sections order bytes (all_frames order (drop 16 bytes)) ≡ Ok ss = sym (ap (λ xs. note_sections order bytes (all_frames order xs)) c.split_at.ensures.back) ∙ c.in_ok-fill_sections.ensures.exact in
    let has = has_note_events order bytes out.0 ss out.1 read in
    let fit = ids_fit order bytes ss read in
    omega (arith, has.ids, fit, out.3)

pub returns-clause-file : goal.returns-clause-file
returns-clause-file c =
    let order = c.args.order in
    let bytes = c.args.bytes.now in
    let out = c.requires.outline in
    let ss = c.fill_sections.new.sections in
    let all = c.fill_note_events.new.all in
    let has = has_note_events order bytes out.0 ss out.1 (sym (ap (λ xs. note_sections order bytes (all_frames order xs)) c.split_at.ensures.back) ∙ c.in_ok-fill_sections.ensures.exact) in
    let list = note_list all has (sym (ap (λ xs. note_events order (all_frames order xs) ss) c.split_at.ensures.back) ∙ c.in_ok-fill_note_events.ensures) in
    read_ends c.check_ids.result order bytes (opened_pipe order bytes) has.attributes ss all c.fill_ids.new.ids c.check_ids.new.ids (opens_pipe order bytes out.0 ss has) list (sym c.in_ok-check_places.ensures)
    c.fill_ids.ensures c.check_ids.ensures.value c.check_ids.ensures.same c.check_ids.ensures.sorted c.check_ids.ensures.found

pub returns-clause-inside : goal.returns-clause-inside
returns-clause-inside c =
    let order = c.args.order in
    let bytes = c.args.bytes.now in
    let out = c.requires.outline in
    let ss = c.fill_sections.new.sections in
    let all = c.fill_note_events.new.all in
    let has = has_note_events order bytes out.0 ss out.1 (sym (ap (λ xs. note_sections order bytes (all_frames order xs)) c.split_at.ensures.back) ∙ c.in_ok-fill_sections.ensures.exact) in
    let list = note_list all has (sym (ap (λ xs. note_events order (all_frames order xs) ss) c.split_at.ensures.back) ∙ c.in_ok-fill_note_events.ensures) in
    always_ok c.check_ids.result (subst (HaveIds bytes) (sym list) (ids_inside order bytes has.attributes ss c.in_ok-fill_sections.ensures.inside))
