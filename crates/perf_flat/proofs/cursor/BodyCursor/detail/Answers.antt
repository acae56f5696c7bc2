use Rattle.std.proofs.Common.{sym, ap, ◌∙◌}
use Rattle.perf_base.specs.Misc.{build_id_bit}
use Rattle.perf_words.specs.Bits.{has_bit}
use Rattle.perf_flat.proofs.RecordWrites.{detail_there, detail_absent}
use Rattle.perf_flat.proofs.cursor.BodyCursor.detail.Goals as goal

pub returns-then-has_build_id : goal.returns-then-has_build_id
returns-then-has_build_id g c = λ settings asked.
    detail_there settings (ap (λ m. has_bit m build_id_bit) (sym asked) ∙ sym c.has_build_id.ensures ∙ c.if-has_build_id.true) c.build_id.ensures

pub returns-else-has_build_id : goal.returns-else-has_build_id
returns-else-has_build_id g c = λ settings asked.
    detail_absent settings (ap (λ m. has_bit m build_id_bit) (sym asked) ∙ sym c.has_build_id.ensures ∙ c.if-has_build_id.false) c.inode.ensures
