-- Calls of an iterator over entries, by the list of the remaining ones: from both ends, in any
-- order.
use Rattle.std.specs.Prelude.{◌+◌, List, [], ◌∷◌, drop, reverse, slice_get, Option}
use Rattle.perf_counters.specs.declared.group_entry.GroupEntry.{GroupEntry}
use Rattle.perf_counters.specs.declared.group_laws.EntryCall.{EntryCall}
use Rattle.perf_counters.specs.declared.group_laws.EntryCall.TheVariants.{Next, NextBack, Nth, NthBack}

-- what a call returns; the back is the front of the reversed list
abbrev pub entry_of_call : EntryCall → List GroupEntry → Option GroupEntry
entry_of_call Next left = slice_get left 0
entry_of_call NextBack left = slice_get (reverse left) 0
entry_of_call (Nth n) left = slice_get left n
entry_of_call (NthBack n) left = slice_get (reverse left) n

-- what it leaves: all except the entry that it returns, and those that it skips
abbrev pub left_by : EntryCall → List GroupEntry → List GroupEntry
left_by Next left = drop 1 left
left_by NextBack left = reverse (drop 1 (reverse left))
left_by (Nth n) left = drop (n + 1) left
left_by (NthBack n) left = reverse (drop (n + 1) (reverse left))

-- what calls return, one after another
abbrev pub answers_of : List EntryCall → List GroupEntry → List (Option GroupEntry)
answers_of [] left = []
answers_of (call ∷ calls) left = entry_of_call call left ∷ answers_of calls (left_by call left)

-- what they leave
abbrev pub left_by_all : List EntryCall → List GroupEntry → List GroupEntry
left_by_all [] left = left
left_by_all (call ∷ calls) left = left_by_all calls (left_by call left)
