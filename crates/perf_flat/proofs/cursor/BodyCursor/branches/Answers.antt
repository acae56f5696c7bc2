use Rattle.std.proofs.Common.{[], ◌∷◌, ◌*◌, refl, subst}
use Rattle.perf_base.specs.FieldWords.{u64_if}
use Rattle.perf_sample_types.specs.Sample.{branch_stack, has_one, settings_of}
use Rattle.perf_flat.specs.CursorReads.{ReadsParts}
use Rattle.perf_flat.specs.SampleReads.{IsBranches}
use Rattle.perf_flat.proofs.Fields.{flag_is}
use Rattle.perf_flat.proofs.Lists.{there_is, none_is, branches_read, no_branches}
use Rattle.perf_flat.proofs.cursor.BodyCursor.branches.Goals as goal

pub returns-then-contains : goal.returns-then-contains
returns-then-contains g c = λ settings asked index.
    let o = g.E.Endian.order c.args.order.now in
    let a = c.args.self.now in
    let one = c.read_u64-count in
    let two = c.read_u64_if-hw_index in
    let hw : ReadsParts o (u64_if settings.branch_hw_index) two.result one.new.self two.new.self = subst (λ b. ReadsParts o (u64_if b) two.result one.new.self two.new.self) index two.ensures in
    there_is (λ v. IsBranches o a.bytes.now v _) (has_one settings.sample_type (11 ∷ [])) (branch_stack (settings_of settings)) (flag_is 11 asked (c.contains.ensures tt) c.if-contains.true)
    (branches_read o (settings_of settings) one.result two.result a one.new.self two.new.self c.pass_items.new.self c.pass_items.result _ refl refl one.ensures hw (c.pass_items.ensures o (3 * one.result) refl))

pub returns-else-contains : goal.returns-else-contains
returns-else-contains g c = λ settings asked index.
    let o = g.E.Endian.order c.args.order.now in
    none_is (λ v. IsBranches o c.args.self.now.bytes.now v _) (has_one settings.sample_type (11 ∷ [])) (branch_stack (settings_of settings)) (flag_is 11 asked (c.contains.ensures tt) c.if-contains.false)
    (no_branches o c.args.self.now.bytes.now _ refl refl)
