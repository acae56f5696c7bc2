use Rattle.std.proofs.Common.{◌*◌}
use Rattle.std.specs.List.{flat_map}
use Rattle.perf_reader.proofs.InRow.{InRow}
use Rattle.perf_types.specs.Namespaces.{entry_numbers}
use Rattle.perf_types.proofs.namespaces.read_entries.Given as goal

abbrev pub invariant-loop : goal.invariant-loop
invariant-loop g l =
    InRow g.I.Input.source g.E.Endian.order (2 * l.counter) l.initial.reader (flat_map entry_numbers l.entries.items) l.reader
