-- A sample that was read in place: the numbers, the spans and the sample id that are made of it.
use Rattle.std.specs.Prelude.{ℕ, List, [], ◌∷◌, ◌++◌}
use Rattle.perf_sample_types.specs.SampleGetters.{sample_id_of}
use Rattle.perf_sample_types.specs.SampleId.{SampleIdValue}
use Rattle.perf_base.specs.Attribute.{or_zero}
use Rattle.perf_flat.specs.SampleReads.{counters_numbers, moment_values, event_values}
use Rattle.perf_flat.specs.declared.frame.Span.{Span}
use Rattle.perf_flat.specs.declared.sample.Sample.{Sample}

-- its numbers, in their order
abbrev pub made_numbers : Sample → List ℕ
made_numbers s =
    or_zero s.moment.ip ∷
    or_zero s.moment.addr ∷
    or_zero s.event.period ∷
    or_zero s.costs.weight ∷
    or_zero s.costs.data_src ∷
    or_zero s.costs.transaction ∷
    or_zero s.memory.phys_addr ∷
    or_zero s.memory.cgroup ∷
    or_zero s.memory.data_page_size ∷
    or_zero s.memory.code_page_size ∷
    or_zero s.state.branches.hw_index ∷
    s.state.regs_user.abi ∷
    s.costs.regs_intr.abi ∷
    counters_numbers s.counts.values

-- its spans, in their order
abbrev pub made_spans : Sample → List Span
made_spans s =
    s.counts.call_chain ∷
    s.state.branches.entries ∷
    s.counts.values.entries ∷
    s.state.regs_user.regs ∷
    s.costs.regs_intr.regs ∷
    s.state.raw ∷
    s.state.stack_user ∷
    s.memory.aux ∷
    []

-- its task and event
abbrev pub made_ids : Sample → SampleIdValue
made_ids s = sample_id_of (moment_values s.moment ++ event_values s.event)
