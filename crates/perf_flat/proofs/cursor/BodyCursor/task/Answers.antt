use Rattle.std.proofs.Common.{[], ◌∷◌}
use Rattle.perf_sample_types.specs.Sample.{task, has_one}
use Rattle.perf_flat.proofs.Fields.{slot_there, slot_none, flag_is, task_read}
use Rattle.perf_flat.proofs.cursor.BodyCursor.task.Goals as goal

pub returns-then-contains : goal.returns-then-contains
returns-then-contains g c = λ settings asked.
    slot_there (has_one settings.sample_type (1 ∷ [])) task (flag_is 1 asked (c.contains.ensures tt) c.if-contains.true) (task_read c.read_u32-pid.ensures c.read_u32.ensures)

pub returns-else-contains : goal.returns-else-contains
returns-else-contains g c = λ settings asked. slot_none (has_one settings.sample_type (1 ∷ [])) task (flag_is 1 asked (c.contains.ensures tt) c.if-contains.false)
