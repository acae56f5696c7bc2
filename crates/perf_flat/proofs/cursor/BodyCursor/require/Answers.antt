use Rattle.std.proofs.Common.{refl}
use Rattle.perf_flat.proofs.CursorRuns.{checked, refused_there, absurd_of}
use Rattle.perf_flat.proofs.cursor.BodyCursor.require.Goals as goal

pub returns-then-not-holds : goal.returns-then-not-holds
returns-then-not-holds c = λ o.
    let fails = c.if-not-holds.true in
    checked c.args.holds c.args.refusal c.refuse.ensures.bytes (refused_there c.args.holds fails) (refused_there c.args.holds fails) (λ _. c.refuse.ensures.refusal)

pub returns-else-not-holds : goal.returns-else-not-holds
returns-else-not-holds c = λ o.
    let holds = c.if-not-holds.false in
    checked c.args.holds c.args.refusal refl (λ _. refl) (λ _. refl) (λ is. absurd_of c.args.holds holds is)
