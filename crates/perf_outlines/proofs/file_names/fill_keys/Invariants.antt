use Rattle.std.proofs.Common.{◌≡◌, map, take}
use Rattle.perf_base.specs.Dynamic.{order_of}
use Rattle.perf_sections.specs.NamePlaces.{unnamed}
use Rattle.perf_outlines.specs.FlatNames.{flat_key}
use Rattle.perf_outlines.proofs.file_names.fill_keys.Given as goal

abbrev pub invariant-loop-index : goal.invariant-loop-index
invariant-loop-index l = take l.index l.found ≡ map (λ e. unnamed (flat_key (order_of l.order) l.bytes e)) (take l.index l.all)
