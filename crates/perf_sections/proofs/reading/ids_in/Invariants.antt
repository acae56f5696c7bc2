use Rattle.std.proofs.Common.{◌≡◌, ◌+◌, ◌-◌, ◌*◌, ◌/◌, ◌++◌, drop}
use Rattle.perf_base.specs.Dynamic.{order_of}
use Rattle.perf_base.specs.Layout.{words_of}
use Rattle.perf_sections.proofs.reading.ids_in.Given as goal

abbrev pub invariant-loop-index : goal.invariant-loop-index
invariant-loop-index l = l.ids.items ++ words_of (order_of l.order) (l.section.size / 8 - l.index) (drop (l.section.start + 8 * l.index) l.bytes)
    ≡ words_of (order_of l.order) (l.section.size / 8) (drop l.section.start l.bytes)
