use Rattle.std.proofs.Common.{◌≡◌, ℕ, Bool, true, false, [], ◌∷◌, refl, ap, ◌∙◌}
use Rattle.std.specs.Prelude.{if◌then◌else◌}
use Rattle.perf_base.specs.Layout.{map_parts}
use Rattle.perf_base.specs.Misc.{switch_out_bit}
use Rattle.perf_flat.proofs.RecordWrites.{next_number}
use Rattle.perf_flat.proofs.CursorRuns.{all_read}
use Rattle.perf_flat.proofs.Spans.{no_strings}
use Rattle.perf_flat.specs.RecordNumbers.{switch_numbers}
use Rattle.perf_records.specs.Records.{switch_cpu_wide_is}
use Rattle.perf_types.specs.SwitchCpuWide.{switch_cpu_wide}
use Rattle.perf_types.specs.declared.switch_cpu_wide.SwitchCpuWide.{SwitchCpuWide}
use Rattle.perf_types.specs.declared.switch_cpu_wide.SwitchCpuWide.TheVariants as switch
use Rattle.perf_words.specs.Bits.{has_bit}
use Rattle.perf_flat.proofs.bodies.put_switch_cpu_wide.Goals as goal

-- the switch of a direction
abbrev switched : (pid tid : ℕ) → Bool → SwitchCpuWide
switched pid tid out = if out then switch.Out pid tid else switch.In pid tid

numbers_switched : (pid tid : ℕ) (out : Bool) → pid ∷ tid ∷ (if out then 1 else 0) ∷ [] ≡ switch_numbers (switched pid tid out)
numbers_switched pid tid true = refl
numbers_switched pid tid false = refl

pub returns : goal.returns
returns g c = λ settings asked.
    let start = c.new-cursor in
    let pid_at = c.read_u32_as_u64-pid in
    let tid_at = c.read_u32_as_u64-tid in
    c.finish.ensures settings (g.E.Endian.order c.args.order.now) (map_parts switch_cpu_wide_is (switch_cpu_wide settings)) (switch_cpu_wide_is (switched pid_at.result tid_at.result (has_bit settings.misc switch_out_bit))) c.args.body.now (record {
      start = start.result;
      whole = start.ensures.bytes;
      front = start.ensures.at;
      fresh = start.ensures.refusal;
      reads = next_number pid_at.ensures (next_number tid_at.ensures all_read);
      words = λ ok. ap (λ n. pid_at.result ∷ tid_at.result ∷ n ∷ []) (c.switch_out.ensures ∙ ap (λ m. if has_bit m switch_out_bit then 1 else 0) asked) ∙ numbers_switched pid_at.result tid_at.result (has_bit settings.misc switch_out_bit);
      there = λ ok frame is. no_strings frame;
      ids = λ own. refl;
    })
