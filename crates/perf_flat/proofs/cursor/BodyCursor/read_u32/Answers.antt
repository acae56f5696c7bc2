use Rattle.std.proofs.Common.{refl}
use Rattle.perf_base.specs.Layout.{w4}
use Rattle.perf_flat.proofs.CursorRuns.{number_fits, number_lacks}
use Rattle.perf_flat.proofs.cursor.BodyCursor.read_u32.Goals as goal

pub returns-in-Some : goal.returns-in-Some
returns-in-Some g c =
    let word = c.in-Some.ensures in
    number_fits (g.E.Endian.order c.args.order.now) w4 c.args.self.now _ c.in-Some.bytes.now c.convert_u32.result c.args.self.now.within word.cases.0 (word.variant.0 refl) c.convert_u32.ensures refl refl refl

pub returns-in-None : goal.returns-in-None
returns-in-None g c =
    number_lacks (g.E.Endian.order c.args.order.now) w4 c.args.self.now _ 0 c.args.self.now.within c.in-None.ensures.cases c.refuse.ensures.refusal c.refuse.ensures.bytes
