use Rattle.perf_sample_types.specs.Sample.{plain_field}
use Rattle.perf_flat.proofs.Fields.{slot_there, slot_none, plain_read}
use Rattle.perf_flat.proofs.cursor.BodyCursor.number_if.Goals as goal

pub returns-then-present : goal.returns-then-present
returns-then-present g c = slot_there c.args.present plain_field c.if-present.true (plain_read c.read_u64.ensures)

pub returns-else-present : goal.returns-else-present
returns-else-present g c = slot_none c.args.present plain_field c.if-present.false
