use Rattle.std.proofs.Common.{◌≡◌, ◌-◌, ◌≤◌, length, vec_capacity}
use Rattle.perf_reader.proofs.InRow.{InRow}
use Rattle.perf_reader.proofs.reader.Reader.append_numbers.Given as goal

-- numbers were read one after another, and all of them are kept; the block has its length, and the list the capacity that
-- it had
abbrev pub invariant-loop-block : goal.invariant-loop-block
invariant-loop-block g l =
    (length l.numbers.items ≤ l.count)
    × InRow g.I.Input.source g.E.Endian.order (length l.numbers.items) l.initial.self l.numbers.items l.self
    × (length l.block ≡ 48)
    × (vec_capacity l.initial.numbers ≤ vec_capacity l.numbers)

abbrev pub decreases-loop-block : goal.decreases-loop-block
decreases-loop-block g l = l.count - length l.numbers.items
