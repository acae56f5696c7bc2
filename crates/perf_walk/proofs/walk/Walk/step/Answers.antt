use Rattle.std.proofs.Common.{option_map, sym, subst}
use Rattle.perf_base.specs.Dynamic.{order_of}
use Rattle.perf_file.specs.Views.{view}
use Rattle.perf_history.specs.declared.histories.History.{History}
use Rattle.perf_walk.specs.Plain.{IsPast, plain}
use Rattle.perf_walk.proofs.Walked.{stepped}
use Rattle.perf_walk.proofs.walk.Walk.step.Goals as goal

pub returns-clause-steps : goal.returns-clause-steps
returns-clause-steps c = λ older past.
    let f = view c.args.self.now.recording.now in
    let o = order_of f.order in
    let read = c.in-Some.ensures.found in
    let before : IsPast c.read.new.self.history older = subst (λ (h : History). IsPast h older) (sym c.in-Some.ensures.history) past in
    stepped f c.args.entry.now read.0 (record { bytes = c.in-Some.bytes; event = c.event_of.result }) c.read.new.self.frame c.apply.new.history older (option_map plain c.change_in-change.result)
    read.1 read.2 c.event_of.ensures (c.change_in-change.ensures read.0 o read.2) (c.in_ok-apply.ensures.ok older before)
