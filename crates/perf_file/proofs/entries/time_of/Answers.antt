use Rattle.std.proofs.Common.{Some, ap, ◌∙◌}
use Rattle.perf_base.specs.Configured.{configuration_of}
use Rattle.perf_base.specs.Dynamic.{order_of}
use Rattle.perf_base.specs.declared.endian.Dynamic.{Dynamic}
use Rattle.perf_records.specs.Sights.{sight_of}
use Rattle.perf_file.specs.Entries.{time_under}
use Rattle.perf_file.proofs.entries.time_of.Goals as goal

pub returns-in-Some : goal.returns-in-Some
returns-in-Some c =
    let found = sight_of c.args.found.now.frame in
    c.time_in.ensures
    ∙ ap (λ (o : Dynamic). time_under (Some (configuration_of c.in-Some.config.now)) (order_of o) found) c.in-Some.ensures.order
    ∙ ap (λ k. time_under k (order_of c.args.recording.now.order) found) c.in-Some.ensures.value

pub returns-in-None : goal.returns-in-None
returns-in-None c = ap (λ k. time_under k (order_of c.args.recording.now.order) (sight_of c.args.found.now.frame)) c.in-None.ensures.value
