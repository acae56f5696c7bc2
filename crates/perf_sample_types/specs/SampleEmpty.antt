-- Samples that are filled in place: how they begin, and what is read when a place is filled.
use Rattle.std.specs.Prelude.{Result, Ok, Err, None}
use Rattle.perf_base.specs.declared.error.ErrorKind.{ErrorKind}
use Rattle.perf_sample_types.specs.declared.sample_groups.Moment.{Moment}
use Rattle.perf_sample_types.specs.declared.sample_groups.Counts.{Counts}
use Rattle.perf_sample_types.specs.declared.sample_groups.State.{State}
use Rattle.perf_sample_types.specs.declared.sample_groups.Costs.{Costs}
use Rattle.perf_sample_types.specs.declared.sample_groups.Memory.{Memory}
use Rattle.perf_sample_types.specs.declared.sample.Sample.{Sample}

-- what a call read that filled a place: the value in the place, or its refusal
abbrev pub fill_result : {X Y : Type 0} → Result Y ErrorKind → X → Result X ErrorKind
fill_result (Ok y) x = Ok x
fill_result (Err e) x = Err e

-- ---- groups without fields

abbrev pub no_moment : Moment
no_moment = record {
  identifier = None;
  ip = None;
  task = None;
  time = None;
  addr = None;
  id = None;
  stream_id = None;
  cpu = None;
  period = None;
}

abbrev pub no_counts : Counts
no_counts = record { values = None; call_chain = None }

abbrev pub no_state : State
no_state = record { raw = None; branches = None; regs_user = None; stack_user = None }

abbrev pub no_costs : Costs
no_costs = record { weight = None; data_src = None; transaction = None; regs_intr = None }

abbrev pub no_memory : Memory
no_memory = record {
  phys_addr = None;
  cgroup = None;
  data_page_size = None;
  code_page_size = None;
  aux = None;
}

-- a sample without fields
abbrev pub no_sample : Sample
no_sample = record {
  moment = no_moment;
  counts = no_counts;
  state = no_state;
  costs = no_costs;
  memory = no_memory;
}
