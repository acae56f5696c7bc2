use Rattle.std.proofs.Common.{◌≡◌, Err, refl, ap, sym, ◌∙◌}
use Rattle.perf_base.specs.Configured.{configuration_of}
use Rattle.perf_base.specs.Layout.{done, map_parts}
use Rattle.perf_reader.proofs.After.{call_after}
use Rattle.perf_reader.proofs.RequestedParts.{transient, call_gives}
use Rattle.perf_counters.proofs.Readings.{came_up, call_same}
use Rattle.perf_sample_types.specs.Registers.{registers_of, registers_value}
use Rattle.perf_sample_types.specs.Sample.{registers, registers_are}
use Rattle.perf_sample_types.proofs.MappedParts.{mapped_stops}
use Rattle.perf_sample_types.proofs.sample_parts.UserRegistersReadField.read_field.Goals as goal

pub returns-in_err-read_registers-clause-call : goal.returns-in_err-read_registers-clause-call
unfolding registers
returns-in_err-read_registers-clause-call g c =
    let mask : c.regs_user-mask.result ≡ (configuration_of c.args.reader.now.config).regs_user = c.regs_user-mask.ensures ∙ ap (λ k. (configuration_of k).regs_user) c.config.ensures in
    let up : c.from_residual.result ≡ Err c.in_err-read_registers.field-0.0 = came_up _ _ c.from_residual.ensures in rw up (
    mapped_stops registers_are (λ s. registers_of c.regs_user-mask.result) _ _ _ (ap (λ m. map_parts registers_are (registers_of m)) (sym mask))
    c.in_err-read_registers.ensures.call)

pub returns-clause-call : goal.returns-clause-call
unfolding registers
returns-clause-call g c =
    let mask : c.regs_user-mask.result ≡ (configuration_of c.args.reader.now.config).regs_user = c.regs_user-mask.ensures ∙ ap (λ k. (configuration_of k).regs_user) c.config.ensures in
    transient _ _ _ (λ _ _. tt) (call_same (λ _. map_parts registers_are (registers_of c.regs_user-mask.result)) _ (ap (λ m. map_parts registers_are (registers_of m)) mask)
    (call_after {view = registers_value} (λ _. registers_of c.regs_user-mask.result) (λ _ v. done (registers_are v)) c.in_ok-read_registers.ensures.call
    (call_gives (λ _. registers_are (registers_value c.in_ok-read_registers.field-0)) refl)))
