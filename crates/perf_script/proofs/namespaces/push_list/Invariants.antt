use Rattle.std.proofs.Common.{◌≡◌, ◌+◌, ◌++◌, ◌/◌, length}
use Rattle.perf_base.specs.Dynamic.{order_of}
use Rattle.perf_script.specs.FlatLines.{namespaces_in}
use Rattle.perf_script.specs.NamespaceText.{namespaces_from}
use Rattle.perf_script.proofs.namespaces.push_list.Given as goal

abbrev pub invariant-loop-left : goal.invariant-loop-left
invariant-loop-left l =
    (l.index + length l.left / 16 ≡ length l.bytes / 16)
    × (l.text.items ++ namespaces_from l.index (namespaces_in (order_of l.order) l.left)
    ≡ l.initial.text.items ++ namespaces_from 0 (namespaces_in (order_of l.order) l.bytes))

abbrev pub decreases-loop-left : goal.decreases-loop-left
decreases-loop-left l = length l.left
