use Rattle.std.proofs.Common.{rules}
use Rattle.perf_flat.specs.FlatConfigs as plain
use Rattle.perf_outlines.specs.CallerConfigs as configs
use Rattle.perf_event_c.proofs.AttributeEnds.{attribute_read, attribute_refused, not_both}
use Rattle.perf_event_c.proofs.attr.ped_read_attr.Goals as goal

pub returns-in_default-clause-attribute : goal.returns-in_default-clause-attribute
returns-in_default-clause-attribute c = λ known. not_both (configs.is_order c.args.order) known c.in_default.ensures

pub returns-in-Ok-clause-other : goal.returns-in-Ok-clause-other
returns-in-Ok-clause-other c = λ known. not_both (configs.is_order c.args.order) c.in-Some.ensures.0 known

pub returns-in-Ok-clause-attribute : goal.returns-in-Ok-clause-attribute
returns-in-Ok-clause-attribute c = λ known.
    let e = c.in-Ok.ensures.read in
    attribute_read c.in-Some.order (plain.order_by c.args.order) c.args.bytes.now e.0 c.in-Ok.read c.args.config.now c.in-Ok.size c.args.taken.now c.in-Some.ensures.1 e.1 e.2 e.3

pub returns-in-Ok-clause-inside : goal.returns-in-Ok-clause-inside
returns-in-Ok-clause-inside c = λ known. c.in-Ok.ensures.read.4

pub returns-in-Err-clause-other : goal.returns-in-Err-clause-other
returns-in-Err-clause-other c = λ known. not_both (configs.is_order c.args.order) c.in-Some.ensures.0 known

pub returns-in-Err-clause-attribute : goal.returns-in-Err-clause-attribute
returns-in-Err-clause-attribute c = λ known.
    attribute_refused c.in-Some.order (plain.order_by c.args.order) c.args.bytes.now _ _ _ _ c.in-Some.ensures.1 c.in-Err.ensures.refused (search rules)
