use Rattle.std.proofs.Common.{take}
use Rattle.perf_reader.proofs.InRow.{InRow}
use Rattle.perf_reader.proofs.reader.Reader.read_unshown.Given as goal

-- as many numbers as were counted were read in a row, and are in their places
abbrev pub invariant-loop-i : goal.invariant-loop-i
invariant-loop-i g l =
    InRow g.I.Input.source g.E.Endian.order l.i l.initial.self (take l.i l.numbers) l.self
