use Rattle.std.proofs.Common.{◌++◌, [], Ok, None, Some, refl, arith}
use Rattle.perf_reader.specs.Calls.{Call}
use Rattle.perf_reader.specs.ReaderState.{ReaderState}
use Rattle.perf_reader.specs.Reading.{CallInvariant}
use Rattle.perf_reader.specs.TableRuns.{ReadsBorrowed}
use Rattle.perf_base.specs.declared.error.ErrorKind.TheVariants.{OutOfMemory}
use Rattle.perf_sample_types.specs.Sample.{SampleValue, sample}
use Rattle.perf_sample_types.specs.SampleGroups.{moment_value, counts_value, state_value, costs_value, memory_value}
use Rattle.perf_sample_types.proofs.GroupRuns.{group_after, group_stops, groups_give, of_groups}
use Rattle.perf_sample_types.proofs.sample_boxed.refuse_sample.Goals as goal

pub returns-in-Err : goal.returns-in-Err
returns-in-Err g c = record {
  call = of_groups _ _ (λ t w. tt) (
      group_stops _ _ _ _ (λ left m. refl) c.in-Err.ensures.1);
}

pub returns-in-Err-pass_counts : goal.returns-in-Err-pass_counts
returns-in-Err-pass_counts g c = record {
  call = of_groups _ _ (λ t w. tt) (
      group_after _ _ _ _ c.in-Ok.ensures.1 (
      group_stops _ _ _ _ (λ left m. refl) c.in-Err-pass_counts.ensures.1));
}

pub returns-in-Err-pass_state : goal.returns-in-Err-pass_state
returns-in-Err-pass_state g c = record {
  call = of_groups _ _ (λ t w. tt) (
      group_after _ _ _ _ c.in-Ok.ensures.1 (
      group_after _ _ _ _ c.in-Ok-pass_counts.ensures.1 (
      group_stops _ _ _ _ (λ left m. refl) c.in-Err-pass_state.ensures.1)));
}

pub returns-in-Err-pass_costs : goal.returns-in-Err-pass_costs
returns-in-Err-pass_costs g c = record {
  call = of_groups _ _ (λ t w. tt) (
      group_after _ _ _ _ c.in-Ok.ensures.1 (
      group_after _ _ _ _ c.in-Ok-pass_counts.ensures.1 (
      group_after _ _ _ _ c.in-Ok-pass_state.ensures.1 (
      group_stops _ _ _ _ (λ left m. refl) c.in-Err-pass_costs.ensures.1))));
}

pub returns-in-Err-pass_memory : goal.returns-in-Err-pass_memory
returns-in-Err-pass_memory g c = record {
  call = of_groups _ _ (λ t w. tt) (
      group_after _ _ _ _ c.in-Ok.ensures.1 (
      group_after _ _ _ _ c.in-Ok-pass_counts.ensures.1 (
      group_after _ _ _ _ c.in-Ok-pass_state.ensures.1 (
      group_after _ _ _ _ c.in-Ok-pass_costs.ensures.1 (
      group_stops _ _ _ _ (λ left m. refl) c.in-Err-pass_memory.ensures.1)))));
}

-- what was kept is also kept if memory runs out
kept_unmade : (start m : ReaderState) → CallInvariant start None m → CallInvariant start (Some OutOfMemory) m
kept_unmade start m h = record { buffer = (h.buffer.0, h.buffer.1, h.buffer.2, h.buffer.3); fault = λ x. cc; cost = λ t. let k = h.cost t in (k.0, omega (arith, k.1)); place = h.place }

pub returns-in-Ok-pass_memory : goal.returns-in-Ok-pass_memory
returns-in-Ok-pass_memory g c =
    let all : SampleValue = moment_value c.in-Ok.ensures.0 ++ (counts_value c.in-Ok-pass_counts.ensures.0 ++ (state_value c.in-Ok-pass_state.ensures.0 ++ (costs_value c.in-Ok-pass_costs.ensures.0 ++ (memory_value c.in-Ok-pass_memory.ensures.0 ++ [])))) in
    let read : Call {X = SampleValue} g.I.Input.source g.E.Endian.order (ReadsBorrowed sample (λ v. v) (λ v. Unit {0})) c.args.reader.now (Ok all) c.pass_memory.new.reader =
    of_groups (λ v. v) (λ v. Unit {0}) (λ t w. tt) (
    group_after _ _ _ _ c.in-Ok.ensures.1 (
    group_after _ _ _ _ c.in-Ok-pass_counts.ensures.1 (
    group_after _ _ _ _ c.in-Ok-pass_state.ensures.1 (
    group_after _ _ _ _ c.in-Ok-pass_costs.ensures.1 (
    group_after _ _ _ _ c.in-Ok-pass_memory.ensures.1 (
    groups_give _ _ (λ left m. refl))))))) in record {
      call = record {
        config = read.config;
        whole = read.whole;
        told = read.told;
        answer = λ t. ((λ kind. cc), (λ w. tt));
        keeps = λ start k. kept_unmade start _ (read.keeps start k);
      };
    }
