use Rattle.std.proofs.Common.{◌≡◌, ◌-◌, ◌+◌, ◌*◌, ◌/◌, ◌++◌, take, drop}
use Rattle.perf_base.specs.Dynamic.{order_of}
use Rattle.perf_base.specs.Layout.{words_of}
use Rattle.perf_sections.specs.IdTables.{ids_of}
use Rattle.perf_outlines.specs.Outlines.{words_in}
use Rattle.perf_outlines.proofs.id_list.put_ids.Given as goal

abbrev pub invariant-loop-index : goal.invariant-loop-index
invariant-loop-index l =
    take (l.start + l.index) l.ids ++ ids_of l.event (words_of (order_of l.order) (l.section.size / 8 - l.index) (drop (l.section.start + 8 * l.index) l.bytes))
    ≡ take l.start l.initial.ids ++ ids_of l.event (words_in (order_of l.order) l.bytes l.section)
