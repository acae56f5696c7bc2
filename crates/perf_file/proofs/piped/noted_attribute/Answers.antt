use Rattle.std.proofs.Common.{ap, ◌∙◌}
use Rattle.perf_sections.specs.Attributes.{attribute_in, of_event}
use Rattle.perf_file.specs.Pieces.{take_most}
use Rattle.perf_file.proofs.piped.noted_attribute.Goals as goal

pub returns-in-Ok : goal.returns-in-Ok
returns-in-Ok c = ap (of_event c.args.index) (c.in-Ok.ensures ∙ ap (attribute_in c.args.order) (c.split_most.ensures.front ∙ ap (λ n. take_most n c.args.note.now.body.now) c.attribute_size.ensures))

pub returns-in-Err : goal.returns-in-Err
returns-in-Err c = ap (of_event c.args.index) (c.in-Err.ensures ∙ ap (attribute_in c.args.order) (c.split_most.ensures.front ∙ ap (λ n. take_most n c.args.note.now.body.now) c.attribute_size.ensures))
