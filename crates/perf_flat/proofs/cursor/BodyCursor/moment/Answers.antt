use Rattle.perf_flat.proofs.Groups.{none_left, next_field, flag_field}
use Rattle.perf_flat.proofs.cursor.BodyCursor.moment.Goals as goal

pub returns : goal.returns
returns g c = λ settings asked.
    next_field (flag_field 16 asked c.flagged.ensures) (next_field (flag_field 0 asked c.flagged-2.ensures) (next_field (c.task.ensures settings asked)
    (next_field (flag_field 2 asked c.flagged-3.ensures) (next_field (flag_field 3 asked c.flagged-4.ensures) none_left))))
