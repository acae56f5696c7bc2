use Rattle.std.proofs.Common.{[], ◌∷◌}
use Rattle.perf_sample_types.specs.Sample.{cpu, has_one}
use Rattle.perf_flat.proofs.CursorRuns.{Passed}
use Rattle.perf_flat.proofs.Fields.{slot_there, slot_none, flag_is, cpu_read, passed_over}
use Rattle.perf_flat.proofs.cursor.BodyCursor.processor.Goals as goal

pub returns-then-contains : goal.returns-then-contains
returns-then-contains g c = λ settings asked.
    let o = g.E.Endian.order c.args.order.now in
    let b = c.read_u32-cpu.new.self in
    let passed : Passed 4 b c.pass.result c.pass.new.self = record { bytes = c.pass.ensures.bytes; short = c.pass.ensures.short; fits = c.pass.ensures.fits } in
    slot_there (has_one settings.sample_type (7 ∷ [])) cpu (flag_is 7 asked (c.contains.ensures tt) c.if-contains.true) (cpu_read c.read_u32-cpu.ensures (passed_over o 4 b c.pass.new.self c.pass.result b.within passed))

pub returns-else-contains : goal.returns-else-contains
returns-else-contains g c = λ settings asked. slot_none (has_one settings.sample_type (7 ∷ [])) cpu (flag_is 7 asked (c.contains.ensures tt) c.if-contains.false)
