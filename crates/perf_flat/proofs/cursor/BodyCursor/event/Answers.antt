use Rattle.perf_flat.proofs.Groups.{none_left, next_field, flag_field}
use Rattle.perf_flat.proofs.cursor.BodyCursor.event.Goals as goal

pub returns : goal.returns
returns g c = λ settings asked.
    next_field (flag_field 6 asked c.flagged.ensures) (next_field (flag_field 9 asked c.flagged-2.ensures) (next_field (c.processor.ensures settings asked)
    (next_field (flag_field 8 asked c.flagged-3.ensures) none_left)))
