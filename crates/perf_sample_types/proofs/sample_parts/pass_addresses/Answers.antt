use Rattle.std.proofs.Common.{◌≡◌, ◌*◌, arith}
use Rattle.perf_sample_types.proofs.ReadParts.{numbers_many}
use Rattle.perf_sample_types.proofs.sample_parts.pass_addresses.Goals as goal

pub returns : goal.returns
returns g c =
    let once : 1 * c.args.count ≡ c.args.count = omega arith in
    record { memory = c.read_to_the_end.ensures.memory; call = numbers_many _ _ once c.read_to_the_end.ensures.call }
