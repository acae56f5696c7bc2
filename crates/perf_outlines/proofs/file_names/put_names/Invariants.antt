use Rattle.std.proofs.Common.{◌≡◌, map, take}
use Rattle.perf_base.specs.Dynamic.{order_of}
use Rattle.perf_outlines.specs.NotePlaces.{bytes_of}
use Rattle.perf_outlines.specs.FlatNames.{flat_name, described_by, nameless}
use Rattle.perf_outlines.proofs.file_names.put_names.Given as goal

abbrev pub invariant-loop-index : goal.invariant-loop-index
invariant-loop-index l = record {
  names : map (flat_name l.bytes) (take l.index l.all) ≡ map (described_by (order_of l.order) (bytes_of l.bytes l.descriptions) l.bytes) (take l.index l.initial.all);
  same : map nameless l.all ≡ map nameless l.initial.all;
}
