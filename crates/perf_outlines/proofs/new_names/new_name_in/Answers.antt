use Rattle.std.proofs.Common.{Bool, None, ap, sym, ◌∙◌}
use Rattle.std.specs.Prelude.{if◌then◌else◌}
use Rattle.perf_base.specs.Dynamic.{order_of}
use Rattle.perf_sections.specs.IdTables.{event_of}
use Rattle.perf_file.specs.NoteViews.{note_of}
use Rattle.perf_sections.specs.Numbers.{number}
use Rattle.perf_outlines.proofs.NotePlacing.{name_is, placed_name}
use Rattle.perf_outlines.proofs.new_names.new_name_in.Goals as goal

pub returns : goal.returns
returns c rises bytes placed =
    let o = order_of c.args.order in
    let n = note_of c.args.note.now in
    let has = c.in_ok-name.ensures.value in
    let long = name_is o n has.0 in (
      ap (λ (b : Bool). if b then event_of c.args.table.now (number o n.body 8) else None) has.0 ∙ ap (event_of c.args.table.now) (sym c.number_at.ensures) ∙ sym (c.in_ok-event.ensures rises),
      placed_name bytes c.in_ok-name.name.now n placed long.0 has.1,
      long.1,
    )
