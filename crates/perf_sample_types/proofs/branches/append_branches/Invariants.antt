use Rattle.std.proofs.Common.{◌≡◌, ◌*◌, ◌≤◌, length}
use Rattle.std.specs.List.{flat_map}
use Rattle.perf_reader.proofs.InRow.{InRow}
use Rattle.perf_sample_types.specs.Branches.{branch_numbers}
use Rattle.perf_sample_types.proofs.branches.append_branches.Given as goal

-- the numbers of as many branches as were counted were read in a row, and all of them are kept
abbrev pub invariant-loop : goal.invariant-loop
invariant-loop g l =
    (l.counter ≤ l.count) × (length l.entries.items ≡ l.counter)
    × InRow g.I.Input.source g.E.Endian.order (3 * l.counter) l.initial.reader (flat_map branch_numbers l.entries.items) l.reader
