-- What an iterator over the entries of a group has left.
use Rattle.std.specs.Prelude.{List}
use Rattle.perf_counters.specs.GroupEntry.{entries_of}
use Rattle.perf_counters.specs.declared.group_entry.GroupEntry.{GroupEntry}
use Rattle.perf_counters.specs.declared.group_iter.GroupIter.{GroupIter}

-- the remaining entries, in order
abbrev pub entries_left : GroupIter → List GroupEntry
entries_left it = entries_of it.with_id it.with_lost it.left it.words.now
