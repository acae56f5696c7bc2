-- The lines of a tally.
use Rattle.std.specs.Prelude.{List, map}
use Rattle.perf_flame.specs.FoldedLines.{folded_lines}
use Rattle.perf_flame.specs.Lines.{Line, stack_line, add_lines}
use Rattle.perf_flame.specs.declared.tally.Counted.{Counted}
use Rattle.perf_flame.specs.declared.tally.Tally.{Tally}

-- the line of an entry
abbrev pub counted_line : Counted → Line
counted_line e = stack_line e.stack.items e.count

-- the lines of its entries, added to the rest
abbrev pub tally_lines : Tally → List Line
tally_lines t = add_lines (folded_lines t.rest) (map counted_line t.entries.items)
