use Rattle.std.proofs.Common.{sym, subst, ◌∙◌}
use Rattle.perf_outlines.proofs.PipeInMemory.{form_some, form_none}
use Rattle.perf_outlines.specs.FileEvents.{ReadsEvents}
use Rattle.perf_event_c.proofs.file_events.ped_file_events.Goals as goal

pub returns-in-Some-clause-opened : goal.returns-in-Some-clause-opened
returns-in-Some-clause-opened c o sketched room =
    let form = form_some c.args.bytes.now c.in-Some.order (sym c.in-Some.ensures.value) in
    subst (λ whole. ReadsEvents c.args.bytes.now whole c.read_pipe.result c.read_pipe.new.all c.read_pipe.new.ids) (sym form.1) (c.read_pipe.ensures.opened o (sym form.0 ∙ sketched) room)

pub returns-in-Some-clause-inside : goal.returns-in-Some-clause-inside
returns-in-Some-clause-inside c o f sketched room whole =
    let form = form_some c.args.bytes.now c.in-Some.order (sym c.in-Some.ensures.value) in
    c.read_pipe.ensures.inside o f (sym form.0 ∙ sketched) room (sym form.1 ∙ whole)

pub returns-in-Some-clause-other : goal.returns-in-Some-clause-other
returns-in-Some-clause-other c o sketched room =
    let form = form_some c.args.bytes.now c.in-Some.order (sym c.in-Some.ensures.value) in
    c.read_pipe.ensures.other o (sym form.0 ∙ sketched) room

pub returns-in-Some-clause-refused : goal.returns-in-Some-clause-refused
returns-in-Some-clause-refused c e is =
    let form = form_some c.args.bytes.now c.in-Some.order (sym c.in-Some.ensures.value) in
    let refused = c.read_pipe.ensures.refused e (sym form.0 ∙ is) in
    (form.1 ∙ refused.0, refused.1, refused.2, refused.3, refused.4)

pub returns-in-None-clause-opened : goal.returns-in-None-clause-opened
returns-in-None-clause-opened c o sketched room =
    let form = form_none c.args.bytes.now (sym c.in-None.ensures.value) in
    subst (λ whole. ReadsEvents c.args.bytes.now whole c.read_file.result c.read_file.new.all c.read_file.new.ids) (sym form.1) (c.read_file.ensures.opened o (sym form.0 ∙ sketched) room)

pub returns-in-None-clause-inside : goal.returns-in-None-clause-inside
returns-in-None-clause-inside c o f sketched room whole =
    let form = form_none c.args.bytes.now (sym c.in-None.ensures.value) in
    c.read_file.ensures.inside o f (sym form.0 ∙ sketched) room (sym form.1 ∙ whole)

pub returns-in-None-clause-other : goal.returns-in-None-clause-other
returns-in-None-clause-other c o sketched room =
    let form = form_none c.args.bytes.now (sym c.in-None.ensures.value) in
    c.read_file.ensures.other o (sym form.0 ∙ sketched) room

pub returns-in-None-clause-refused : goal.returns-in-None-clause-refused
returns-in-None-clause-refused c e is =
    let form = form_none c.args.bytes.now (sym c.in-None.ensures.value) in
    let refused = c.read_file.ensures.refused e (sym form.0 ∙ is) in
    (form.1 ∙ refused.0, refused.1, refused.2, refused.3, refused.4)
