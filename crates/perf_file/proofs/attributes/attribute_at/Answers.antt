use Rattle.std.proofs.Common.{ap, ◌∙◌}
use Rattle.perf_sections.specs.Attributes.{attribute_in, of_event}
use Rattle.perf_file.proofs.attributes.attribute_at.Goals as goal

pub returns-in-Ok : goal.returns-in-Ok
returns-in-Ok c = ap (of_event c.args.index) (c.in-Ok.ensures ∙ ap (attribute_in c.args.head.order) c.bytes_at-entry.ensures)

pub returns-in-Err : goal.returns-in-Err
returns-in-Err c = ap (of_event c.args.index) (c.in-Err.ensures ∙ ap (attribute_in c.args.head.order) c.bytes_at-entry.ensures)
