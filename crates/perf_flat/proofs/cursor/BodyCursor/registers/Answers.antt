use Rattle.std.proofs.Common.{refl, arith}
use Rattle.perf_sample_types.specs.Sample.{registers}
use Rattle.perf_flat.specs.SampleReads.{IsRegisters}
use Rattle.perf_flat.proofs.Lists.{there_is, none_is, registers_read, no_registers}
use Rattle.perf_flat.proofs.cursor.BodyCursor.registers.Goals as goal

pub returns-then-present : goal.returns-then-present
returns-then-present g c =
    let o = g.E.Endian.order c.args.order.now in
    let a = c.args.self.now in
    let one = c.read_u64-abi in
    let n = c.register_count.result in
    there_is (λ v. IsRegisters o a.bytes.now v _) c.args.present (registers c.args.mask) c.if-present.true
    (registers_read o c.args.mask one.result n a one.new.self c.pass_items-regs.new.self c.pass_items-regs.result _ c.register_count.ensures refl refl one.ensures (c.pass_items-regs.ensures o n (omega arith)))

pub returns-else-present : goal.returns-else-present
returns-else-present g c =
    let o = g.E.Endian.order c.args.order.now in
    none_is (λ v. IsRegisters o c.args.self.now.bytes.now v _) c.args.present (registers c.args.mask) c.if-present.false (no_registers o c.args.self.now.bytes.now _ refl refl)
