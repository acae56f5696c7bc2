use Rattle.perf_records.specs.Records.{switch_cpu_wide_is}
use Rattle.perf_types.specs.SwitchCpuWide.{switch_cpu_wide}
use Rattle.perf_records.proofs.TypeVisits.{saw_plain, no_plain}
use Rattle.perf_records.proofs.body.visit_switch_cpu_wide.Goals as goal

pub returns-in-Ok : goal.returns-in-Ok
returns-in-Ok g c = record {
  call = saw_plain g.V.Visitor.gives c.args.metadata switch_cpu_wide (λ r. r) switch_cpu_wide_is c.visit_switch_cpu_wide.ensures (λ is. is) c.in-Ok.ensures.call;
}

pub returns-in-Err : goal.returns-in-Err
returns-in-Err g c = record {
  call = no_plain g.V.Visitor.gives c.args.metadata switch_cpu_wide (λ r. r) switch_cpu_wide_is c.in-Err.ensures.call;
}
