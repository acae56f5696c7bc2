use Rattle.std.proofs.Common.{ap, sym, ◌∙◌}
use Rattle.perf_sections.specs.Opened.{File}
use Rattle.perf_outlines.proofs.PipeInMemory.{form_some, form_none, pipe_is}
use Rattle.perf_outlines.proofs.NameLaws.{noted_is, file_named}
use Rattle.perf_event_c.proofs.file_names.ped_file_names.Goals as goal

pub returns-in-Some-clause-file : goal.returns-in-Some-clause-file
returns-in-Some-clause-file c f whole read have room =
    let bytes = c.args.bytes.now in
    let order = c.in-Some.order in
    let piped = sym c.in-Some.ensures.value in
    let form = form_some bytes order piped in
    let made = pipe_is order bytes f (sym form.1 ∙ whole) in
    noted_is bytes f order c.args.all.now c.find_noted.new.all c.args.ids.now piped (ap (λ (x : File). x.order) made.1) read have (c.find_noted.ensures.named read.table.sorted)

pub returns-in-None-clause-file : goal.returns-in-None-clause-file
returns-in-None-clause-file c f whole read have room =
    let bytes = c.args.bytes.now in
    let plain = sym c.in-None.ensures.value in
    let form = form_none bytes plain in
    file_named bytes f c.args.all.now c.find_in_file.new.all plain (sym form.1 ∙ whole) read.all have (λ h is. (c.find_in_file.ensures.named h is).1)

pub returns-in-None-clause-refused : goal.returns-in-None-clause-refused
returns-in-None-clause-refused c e plain is room = c.find_in_file.ensures.refused e is
