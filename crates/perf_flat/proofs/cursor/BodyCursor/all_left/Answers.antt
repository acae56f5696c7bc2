use Rattle.std.proofs.Common.{refl}
use Rattle.perf_flat.proofs.Names.{all_left_read}
use Rattle.perf_flat.proofs.cursor.BodyCursor.all_left.Goals as goal

pub returns : goal.returns
returns c = λ o.
    let a = c.args.self.now in
    all_left_read o _ a _ _ a.within refl refl refl refl c.short_span.ensures
