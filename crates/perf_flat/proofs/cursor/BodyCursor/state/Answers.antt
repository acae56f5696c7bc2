use Rattle.std.proofs.Common.{subst, sym, ◌∙◌, [], ◌∷◌}
use Rattle.perf_base.specs.Table.{present_if, slot}
use Rattle.perf_sample_types.specs.Sample.{registers, has_one}
use Rattle.perf_sample_types.proofs.FlaggedFields.{flag_asked}
use Rattle.perf_flat.specs.CursorReads.{IsBodyOf, ReadsFor}
use Rattle.perf_flat.specs.SampleReads.{IsBranches, IsRegisters}
use Rattle.perf_flat.proofs.Groups.{none_left, next_field, tested}
use Rattle.perf_flat.proofs.CursorRuns.{still_fresh}
use Rattle.perf_flat.proofs.cursor.BodyCursor.state.Goals as goal

pub returns : goal.returns
returns g c = λ settings asked index mask.
    let o = g.E.Endian.order c.args.order.now in
    let one = c.raw.ensures settings asked in
    let two = c.branches.ensures settings asked index in
    let user = sym (flag_asked 12 asked ∙ sym (c.contains-user.ensures tt)) in
    let three = subst (λ m. ReadsFor o (slot (present_if (has_one settings.sample_type (12 ∷ [])) (registers m))) (λ v. IsRegisters o c.branches.new.self.bytes.now v c.registers.result) c.branches.new.self c.registers.new.self) mask (tested (registers c.args.mask) user c.registers.ensures) in
    let four = c.stack.ensures settings asked in
    let second = one.reads.bytes in
    let third = two.reads.bytes ∙ second in
    let fourth = three.reads.bytes ∙ third in
    record {
      raw = one.value;
      branches = two.value;
      regs_user = three.value;
      stack_user = four.value;
      fields = next_field one.reads (next_field two.reads (next_field three.reads (next_field four.reads none_left)));
      raw_bytes = λ ok. one.holds (still_fresh two.reads (still_fresh three.reads (still_fresh four.reads ok)));
      entries = λ ok. subst (λ body. IsBranches o body two.value c.branches.result) second (two.holds (still_fresh three.reads (still_fresh four.reads ok)));
      registers = λ ok. subst (λ body. IsRegisters o body three.value c.registers.result) third (three.holds (still_fresh four.reads ok));
      stack = λ ok frame is. four.holds ok frame (subst (IsBodyOf frame) (sym fourth) is);
    }
