-- A branch as the kernel writes it, `struct perf_branch_entry`: two addresses and a word.
use Rattle.perf_base.specs.FieldWords.{u64}
use Rattle.perf_base.specs.Layout.{Parts, done, ◌>>=◌}
use Rattle.perf_words.specs.Branch.{Branch}

-- its three numbers
abbrev pub branch : Parts Branch
branch = do
  from ← u64
  to ← u64
  word ← u64
  done (record { from = from; to = to; word = word })
