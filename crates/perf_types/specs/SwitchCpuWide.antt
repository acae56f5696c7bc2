-- PERF_RECORD_SWITCH_CPU_WIDE: the other task's process and thread. The header's misc specifies the
-- direction of the switch.
use Rattle.std.specs.Prelude.{ℕ, if◌then◌else◌}
use Rattle.perf_base.specs.Configuration.{Configuration}
use Rattle.perf_base.specs.Misc.{switch_out_bit}
use Rattle.perf_words.specs.Bits.{has_bit}
use Rattle.perf_base.specs.Layout.{Parts, done, ◌>>=◌}
use Rattle.perf_base.specs.FieldWords.{u32}
use Rattle.perf_types.specs.declared.switch_cpu_wide.SwitchCpuWide.{SwitchCpuWide}
use Rattle.perf_types.specs.declared.switch_cpu_wide.SwitchCpuWide.TheVariants as switch

-- the process of the other task
abbrev pub other_pid : SwitchCpuWide → ℕ
other_pid (switch.In pid tid) = pid
other_pid (switch.Out pid tid) = pid

-- its thread
abbrev pub other_tid : SwitchCpuWide → ℕ
other_tid (switch.In pid tid) = tid
other_tid (switch.Out pid tid) = tid

-- Away from the task if misc has the bit PERF_RECORD_MISC_SWITCH_OUT, otherwise to it.
abbrev pub switch_cpu_wide : Configuration → Parts SwitchCpuWide
switch_cpu_wide c = do
  pid ← u32
  tid ← u32
  done (if has_bit c.misc switch_out_bit then switch.Out pid tid else switch.In pid tid)
