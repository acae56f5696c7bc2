use Rattle.std.proofs.Common.{◌≡◌, ◌-◌, ℕ, List, drop, ap, ◌∙◌}
use Rattle.perf_outlines.specs.Entries.{left_from}
use Rattle.perf_outlines.proofs.NextLaws.{is_placed, no_frames, same_frames, start_is}
use Rattle.perf_outlines.proofs.ReadLaws.{has_event, no_event_of, foreign_entry, not_other, entry_read}
use Rattle.perf_event_c.proofs.file_read.read_entry.Goals as goal

pub returns-in_default : goal.returns-in_default
returns-in_default c o f sketched whole file states =
    absurd (no_frames c.args.bytes.now o f c.args.file.now (is_placed c.args.bytes.now o f sketched whole) file c.in_default.ensures)

pub returns-in_default-event_of : goal.returns-in_default-event_of
returns-in_default-event_of c o f sketched whole file states =
    foreign_entry f c.args.entry.now c.args.frame.now c.refuse-in_default-event_of.new.frame (no_event_of f c.args.bytes.now c.args.all.now c.args.entry.now states c.in_default-event_of.ensures) c.refuse-in_default-event_of.ensures

pub returns-in_default-config : goal.returns-in_default-config
returns-in_default-config c o f sketched whole file states =
    let has = has_event f c.args.bytes.now c.args.all.now c.args.entry.now c.in-Some-event_of.event.now states c.in-Some-event_of.ensures in
    absurd (not_other f.order c.in-Some-event_of.event.now.config has.0 has.1 c.in_default-config.ensures)

pub returns : goal.returns
returns c o f sketched whole file states =
    let bytes = c.args.bytes.now in
    let at = c.args.entry.now.at in
    let has = has_event f bytes c.args.all.now c.args.entry.now c.in-Some-event_of.event.now states c.in-Some-event_of.ensures in
    let placed = is_placed bytes o f sketched whole in
    let begins = start_is bytes o f c.args.file.now placed file in
    let frames = same_frames bytes o f c.args.file.now c.in-Some.frames.now placed file c.in-Some.ensures in
    let rest : c.left_from.result.now ≡ left_from f at = c.left_from.ensures ∙ ap (λ n. drop (at - n) c.in-Some.frames.now) begins ∙ ap (λ (xs : List ℕ). drop (at - f.start) xs) frames in
    entry_read f c.args.entry.now c.in-Some-event_of.event.now has.0 c.in-Some-config.config c.left_from.result.now c.args.frame.now c.read_left.new.frame rest c.in-Some-config.ensures has.1 has.2 c.read_left.ensures
