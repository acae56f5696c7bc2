use Rattle.std.proofs.Common.{◌≡◌, ◌*◌, Err, refl, ap}
use Rattle.std.specs.List.{flat_map}
use Rattle.perf_base.specs.Layout.{words}
use Rattle.perf_base.specs.Refusals.{refusal_kind}
use Rattle.perf_counters.proofs.Readings.{came_up}
use Rattle.perf_sample_types.specs.Branches.{branch_numbers}
use Rattle.perf_sample_types.proofs.ReadParts.{part_starves, refused_alike}
use Rattle.perf_sample_types.proofs.branches.read_branches.Goals as goal

pub returns-then-eq : goal.returns-then-eq
returns-then-eq g c = record {
  short = λ falls. (c.read_to_the_end.ensures.memory, tt);
  call = refused_alike (words (3 * c.args.count)) (λ numbers. numbers) (λ v. flat_map branch_numbers v.items) c.read_to_the_end.ensures.call;
}

pub returns-in_err-entries-clause-call : goal.returns-in_err-entries-clause-call
returns-in_err-entries-clause-call g c =
    let up : c.from_residual.result ≡ Err c.in_err-entries.field-0.0 = came_up _ _ c.from_residual.ensures in rw up (
    part_starves (words (3 * c.args.count)) (λ v. flat_map branch_numbers v.items) _ (ap refusal_kind c.in_err-entries.ensures.refused))

pub returns-then-is_err-clause-call : goal.returns-then-is_err-clause-call
returns-then-is_err-clause-call g c = part_starves (words (3 * c.args.count)) (λ v. flat_map branch_numbers v.items) _ refl
