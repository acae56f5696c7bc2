use Rattle.std.proofs.Common.{Some, None, ap, sym, ◌∙◌}
use Rattle.perf_base.specs.Dynamic.{order_of}
use Rattle.perf_base.specs.declared.endian.Dynamic.{Dynamic}
use Rattle.perf_flat.specs.FlatConfigs.{order_by}
use Rattle.perf_flat.specs.Identifiers.{first_identifier}
use Rattle.perf_outlines.specs.CallerConfigs as configs
use Rattle.perf_event_c.specs.Ends.{is_yes}
use Rattle.perf_event_c.proofs.AttributeEnds.{identifier_read, not_both}
use Rattle.perf_event_c.proofs.identifier.ped_identifier.Goals as goal

pub returns-in_default-clause-place : goal.returns-in_default-clause-place
returns-in_default-clause-place c = λ known. not_both (configs.is_order c.args.order) known c.in_default.ensures

pub returns-in_default-clause-read : goal.returns-in_default-clause-read
returns-in_default-clause-read c = λ known. not_both (configs.is_order c.args.order) known c.in_default.ensures

pub returns-in-Some-identifier-clause-other : goal.returns-in-Some-identifier-clause-other
returns-in-Some-identifier-clause-other c = λ known. not_both (configs.is_order c.args.order) c.in-Some.ensures.0 known

pub returns-in-Some-identifier-clause-place : goal.returns-in-Some-identifier-clause-place
returns-in-Some-identifier-clause-place c = λ known.
    sym c.in-Some-identifier.is ∙ c.identifier.ensures.place
    ∙ ap (λ (d : Dynamic). first_identifier (order_of d) (is_yes c.args.sample_id_all) c.args.bytes.now) c.in-Some.ensures.1

pub returns-in-None-clause-place : goal.returns-in-None-clause-place
returns-in-None-clause-place c = λ known.
    sym c.in-None.is ∙ c.identifier.ensures.place
    ∙ ap (λ (d : Dynamic). first_identifier (order_of d) (is_yes c.args.sample_id_all) c.args.bytes.now) c.in-Some.ensures.1

pub returns-in-Some-identifier-clause-read : goal.returns-in-Some-identifier-clause-read
returns-in-Some-identifier-clause-read c = λ known.
    identifier_read c.in-Some.order (order_by c.args.order) (is_yes c.args.sample_id_all) c.args.bytes.now c.identifier.result (Some c.in-Some-identifier.number) c.in-Some.ensures.1 c.in-Some-identifier.is c.identifier.ensures.read

pub returns-in-None-clause-read : goal.returns-in-None-clause-read
returns-in-None-clause-read c = λ known.
    identifier_read c.in-Some.order (order_by c.args.order) (is_yes c.args.sample_id_all) c.args.bytes.now c.identifier.result None c.in-Some.ensures.1 c.in-None.is c.identifier.ensures.read
