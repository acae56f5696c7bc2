use Rattle.std.proofs.Common.{ℕ, get_or, ap, ◌∙◌}
use Rattle.perf_base.specs.Dynamic.{order_of}
use Rattle.perf_file.specs.NoteViews.{note_of}
use Rattle.perf_file.specs.Pipes.{new_name}
use Rattle.perf_outlines.specs.FlatNames.{flat_name}
use Rattle.perf_outlines.proofs.NameLaws.{renamed}
use Rattle.perf_outlines.proofs.file_names.rename_by.Goals as goal

pub returns-clause-named : goal.returns-clause-named
returns-clause-named c rises bytes placed k d rest lt =
    let x = note_of c.args.note.now in
    let found = c.in-Some.ensures rises bytes placed in
    renamed (order_of c.args.order) c.args.ids.now k c.in-Some.event x rest c.rename_at.new.all c.args.all.now bytes d found.0
    (λ same. ap (λ (i : ℕ). flat_name bytes (get_or c.rename_at.new.all i d)) same ∙ c.rename_at.ensures.there bytes (new_name x) d found.1 found.2)
    (λ other. c.rename_at.ensures.others k d other)
