use Rattle.std.proofs.Common.{subst, sym, ap, ◌∙◌, [], ◌∷◌}
use Rattle.std.specs.Prelude.{option_map}
use Rattle.perf_base.specs.Table.{present_if, slot}
use Rattle.perf_sample_types.specs.Sample.{plain_field, number_is, registers, has_one}
use Rattle.perf_sample_types.proofs.FlaggedFields.{flag_asked}
use Rattle.perf_flat.specs.CursorReads.{ReadsParts, ReadsFor}
use Rattle.perf_flat.specs.SampleReads.{IsRegisters}
use Rattle.perf_flat.proofs.Groups.{none_left, next_field, flag_field, tested}
use Rattle.perf_flat.proofs.cursor.BodyCursor.costs.Goals as goal

pub returns : goal.returns
returns g c = λ settings asked mask.
    let o = g.E.Endian.order c.args.order.now in
    let weighed = c.is_weighed-weighed.ensures ∙ ap (λ t. has_one t (14 ∷ 24 ∷ [])) asked in
    let one = subst (λ t. ReadsParts o (slot (present_if t plain_field)) (option_map number_is c.number_if.result) c.args.self.now c.number_if.new.self) weighed c.number_if.ensures in
    let two = c.flagged.ensures in
    let three = c.flagged-2.ensures in
    let user = sym (flag_asked 18 asked ∙ sym (c.contains-interrupted.ensures tt)) in
    let four = subst (λ m. ReadsFor o (slot (present_if (has_one settings.sample_type (18 ∷ [])) (registers m))) (λ v. IsRegisters o c.flagged-2.new.self.bytes.now v c.registers.result) c.flagged-2.new.self c.registers.new.self) mask (tested (registers c.args.mask) user c.registers.ensures) in
    let body = three.bytes ∙ two.bytes ∙ one.bytes in
    record {
      regs_intr = four.value;
      fields = next_field one (next_field (flag_field 15 asked two) (next_field (flag_field 17 asked three) (next_field four.reads none_left)));
      registers = λ ok. subst (λ xs. IsRegisters o xs four.value c.registers.result) body (four.holds ok);
    }
