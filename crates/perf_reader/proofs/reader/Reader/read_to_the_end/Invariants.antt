use Rattle.std.proofs.Common.{ℕ, ◌*◌, List}
use Rattle.perf_reader.proofs.InRow.{InRow}
use Rattle.perf_reader.proofs.reader.Reader.read_to_the_end.Given as goal

-- numbers were read one after another, those of as many items as were counted
abbrev pub invariant-loop : goal.invariant-loop
invariant-loop g l =
    (ys : List ℕ)
    × InRow g.I.Input.source g.E.Endian.order (l.numbers * l.counter) l.initial.self ys l.self

-- and as many numbers of an item as were counted
abbrev pub invariant-loop-2 : goal.invariant-loop-2
invariant-loop-2 g l =
    (ys : List ℕ)
    × InRow g.I.Input.source g.E.Endian.order l.counter l.initial.self ys l.self
