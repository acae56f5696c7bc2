-- The lines of folded stacks.
use Rattle.std.specs.Prelude.{ℕ, List, map}
use Rattle.std.specs.Cmp.Lexicographic.{slice_cmp}
use Rattle.std.specs.Global.{Vec}
use Rattle.std.specs.Ordering.{nat_cmp}
use Rattle.std.specs.declared.cmp.Ordering.{Ordering}
use Rattle.perf_flame.specs.Lines.{Line, stack_line}
use Rattle.perf_flame.specs.declared.folded.Folded.{Folded}

-- the order of stacks
abbrev pub key_cmp : Vec ℕ → Vec ℕ → Ordering
key_cmp a b = slice_cmp nat_cmp a.items b.items

-- the line of a stack and its count
abbrev pub entry_line : Vec ℕ × ℕ → Line
entry_line e = stack_line e.0.items e.1

-- the lines of folded stacks, in the order of the stacks
abbrev pub folded_lines : Folded → List Line
folded_lines f = map entry_line f.counts.entries
