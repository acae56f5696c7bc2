use Rattle.std.proofs.Common.{◌≡◌, ◌-◌, ℕ, List, drop, nat_lt, true, ap, ◌∙◌}
use Rattle.perf_base.specs.Dynamic.{order_of}
use Rattle.perf_base.specs.declared.endian.Dynamic.{Dynamic}
use Rattle.perf_file.specs.Finders.{Finds}
use Rattle.perf_file.specs.Pieces.{after_piece}
use Rattle.perf_records.specs.Sights.{sight_of, sight_in}
use Rattle.perf_outlines.specs.Entries.{left_from}
use Rattle.perf_outlines.proofs.NextLaws.{is_placed, same_count, same_ids, same_place, same_time, order_is, no_frames, same_frames, start_is, next_is, next_none}
use Rattle.perf_outlines.proofs.file_entries.next_entry.Goals as goal

pub returns-in_default-frames_of : goal.returns-in_default-frames_of
returns-in_default-frames_of c o f sketched whole file read =
    absurd (no_frames c.args.bytes.now o f c.args.file.now (is_placed c.args.bytes.now o f sketched whole) file c.in_default-frames_of.ensures)

pub returns-in-Some-first_in : goal.returns-in-Some-first_in
returns-in-Some-first_in c o f sketched whole file read =
    let bytes = c.args.bytes.now in
    let all = c.args.all.now in
    let at = c.args.at.now in
    let start = c.args.file.now.frames.start in
    let left = c.left_from-left.result.now in
    let found = sight_of c.in-Some-first_in.frame in
    let placed = is_placed bytes o f sketched whole in
    let order : c.in-Some.order ≡ f.order = c.in-Some.ensures.1 ∙ order_is bytes o f c.args.file.now placed file in
    let begins = start_is bytes o f c.args.file.now placed file in
    let frames = same_frames bytes o f c.args.file.now c.in-Some-frames_of.frames.now placed file c.in-Some-frames_of.ensures in
    let rest : left ≡ left_from f at = c.left_from-left.ensures ∙ ap (λ n. drop (at - n) c.in-Some-frames_of.frames.now) begins ∙ ap (λ (xs : List ℕ). drop (at - f.start) xs) frames in
    let by : Finds f _ = record {
      order = order;
      single = ap (λ n. nat_lt n 2) (same_count f.order bytes all f.events read.all);
      first = c.first_has_ids.ensures ∙ same_ids f.order bytes all f.events read.all;
      place = c.first_place.ensures ∙ same_place f.order bytes all f.events read.all;
      table = read.table;
    } in
    next_is f at start c.time_of.result c.owner_code-kind.result.0 c.owner_code-kind.result.1 c.in-Some-frames_of.frames.now left c.in-Some-first_in.after.now c.owner_of_found-owner.result found c.args.entry.now
    frames begins rest c.in-Some-first_in.ensures.0
    (c.in-Some-first_in.ensures.1 ∙ ap (λ (d : Dynamic). sight_in (order_of d) left true) order)
    (c.in-Some-first_in.ensures.2 ∙ ap (λ (d : Dynamic). after_piece (order_of d) left) order)
    (c.owner_of_found-owner.ensures f by)
    (c.time_of.ensures ∙ same_time f bytes all c.owner_of_found-owner.result found read.all)
    c.owner_code-kind.ensures.kind c.owner_code-kind.ensures.number

pub returns-in-None : goal.returns-in-None
returns-in-None c o f sketched whole file read =
    let bytes = c.args.bytes.now in
    let at = c.args.at.now in
    let left = c.left_from-left.result.now in
    let placed = is_placed bytes o f sketched whole in
    let begins = start_is bytes o f c.args.file.now placed file in
    let frames = same_frames bytes o f c.args.file.now c.in-Some-frames_of.frames.now placed file c.in-Some-frames_of.ensures in
    let rest : left ≡ left_from f at = c.left_from-left.ensures ∙ ap (λ n. drop (at - n) c.in-Some-frames_of.frames.now) begins ∙ ap (λ (xs : List ℕ). drop (at - f.start) xs) frames in
    next_none f at c.end_before.result left c.args.entry.now rest c.in-None.ensures (c.end_before.ensures c.in-None.ensures)
