-- The body of a sample is its groups of fields, one after another.
use Rattle.std.proofs.Common.{◌≡◌, ℕ, List, refl, ◌∙◌}
use Rattle.perf_base.specs.Configuration.{Configuration}
use Rattle.perf_base.specs.Order.{Order}
use Rattle.perf_base.specs.Took.{took_by_places}
use Rattle.perf_reader.specs.TableRuns.{groups_by_places, groups_took}
use Rattle.perf_reader.proofs.TableRuns.{places_groups}
use Rattle.perf_sample_types.specs.Sample.{sample, sample_groups, groups_under}

groups_are_it : (o : Order) (c : Configuration) (body : List ℕ) (n : ℕ) →
    took_by_places o (sample c) body n ≡ groups_by_places o (groups_under c sample_groups) body n
unfolding sample groups_by_places
groups_are_it o c body n = refl

pub places_sample : (o : Order) (c : Configuration) (body : List ℕ) (n : ℕ) →
    took_by_places o (sample c) body n ≡ groups_took o (groups_under c sample_groups) body n
places_sample o c body n =
    groups_are_it o c body n ∙ places_groups o (groups_under c sample_groups) body n
