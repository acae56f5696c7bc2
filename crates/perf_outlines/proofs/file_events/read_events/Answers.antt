use Rattle.std.proofs.Common.{◌≡◌, List, Ok, All, length, drop, ap, sym, subst, ◌∙◌}
use Rattle.std.proofs.lemmas.Result.{err_from_is_err_and}
use Rattle.perf_base.specs.Dynamic.{order_of}
use Rattle.perf_sections.specs.Opened.{opened_file}
use Rattle.perf_outlines.specs.Outlines.{id_count, table_in}
use Rattle.perf_sections.specs.Sections.{IsInside}
use Rattle.perf_sections.specs.declared.section.Section.{Section}
use Rattle.perf_outlines.proofs.InMemory.{has_events, parts_refused}
use Rattle.perf_outlines.specs.FileEvents.{flat_events}
use Rattle.perf_outlines.proofs.FileLaws.{opens_file, event_list, file_table, places_refused, read_ends, ids_room, rest_is, all_after}
use Rattle.perf_outlines.proofs.NameLaws.{have_ids, always_ok}
use Rattle.perf_outlines.proofs.file_events.read_events.Goals as goal

pub returns-in_err-read_parts-clause-file : goal.returns-in_err-read_parts-clause-file
returns-in_err-read_parts-clause-file c =
    let p = err_from_is_err_and c.from_residual.result c.from_residual.ensures.1 in
    rw (p.1, p.2) (parts_refused c.args.bytes.now c.args.head c.in_err-read_parts.field-0.0 c.requires.head c.requires.attributes c.in_err-read_parts.ensures.exact)

pub returns-in_err-check_places-clause-file : goal.returns-in_err-check_places-clause-file
returns-in_err-check_places-clause-file c =
    let p = err_from_is_err_and c.from_residual-in_err-check_places.result c.from_residual-in_err-check_places.ensures.1 in
    let bytes = c.args.bytes.now in
    let head = c.args.head in
    let parts = c.read_parts.new.parts in
    let all = c.fill_events.new.all in
    let has = has_events bytes head parts c.requires.head c.requires.attributes c.in_ok-read_parts.ensures.exact in
    let is : flat_events bytes head (drop 3 parts) ≡ Ok all = subst (λ (ss : List Section). flat_events bytes head ss ≡ Ok all) (rest_is parts) c.in_ok-fill_events.ensures in
    rw (p.1, p.2) (places_refused head.order bytes (opened_file bytes) has.attributes has.ids all c.in_err-check_places.field-0.0 (opens_file bytes head parts has) (event_list all has is) (sym c.in_err-check_places.ensures))

pub fill_ids-requires-clause-inside : goal.fill_ids-requires-clause-inside
fill_ids-requires-clause-inside c =
    let parts = c.read_parts.new.parts in
    subst (All (IsInside c.args.bytes.now)) (sym (rest_is parts)) (all_after (IsInside c.args.bytes.now) 3 parts c.in_ok-read_parts.ensures.inside)

pub fill_ids-requires-clause-room : goal.fill_ids-requires-clause-room
fill_ids-requires-clause-room c =
    let parts = c.read_parts.new.parts in
    ids_room c.args.bytes.now c.args.head parts (length c.args.ids.now) c.in_ok-read_parts.ensures.exact c.requires.ids_room c.in_ok-read_parts.ensures.nothing c.in_ok-read_parts.ensures.inside ∙ ap id_count (sym (rest_is parts))

pub returns-clause-file : goal.returns-clause-file
returns-clause-file c =
    let bytes = c.args.bytes.now in
    let head = c.args.head in
    let parts = c.read_parts.new.parts in
    let all = c.fill_events.new.all in
    let has = has_events bytes head parts c.requires.head c.requires.attributes c.in_ok-read_parts.ensures.exact in
    let is : flat_events bytes head (drop 3 parts) ≡ Ok all = subst (λ (ss : List Section). flat_events bytes head ss ≡ Ok all) (rest_is parts) c.in_ok-fill_events.ensures in
    read_ends c.check_ids.result head.order bytes (opened_file bytes) has.attributes has.ids all c.fill_ids.new.ids c.check_ids.new.ids (opens_file bytes head parts has) (event_list all has is) (sym c.in_ok-check_places.ensures)
    (file_table c.fill_ids.new.ids has (c.fill_ids.ensures ∙ ap (table_in (order_of head.order) bytes) (rest_is parts))) c.check_ids.ensures.value c.check_ids.ensures.same c.check_ids.ensures.sorted c.check_ids.ensures.found

pub returns-clause-inside : goal.returns-clause-inside
returns-clause-inside c =
    let bytes = c.args.bytes.now in
    let parts = c.read_parts.new.parts in
    let rest = subst (All (IsInside bytes)) (sym (rest_is parts)) (all_after (IsInside bytes) 3 parts c.in_ok-read_parts.ensures.inside) in
    always_ok c.check_ids.result (have_ids bytes c.args.head _ c.fill_events.new.all c.in_ok-fill_events.ensures rest)
