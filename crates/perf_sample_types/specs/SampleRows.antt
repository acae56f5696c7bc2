-- How fields are taken one after another from bytes in memory.
use Rattle.std.specs.Prelude.{◌≡◌, ◌≤◌, ◌+◌, ◌++◌, ℕ, List, Option, length}
use Rattle.perf_base.specs.Layout.{Parts}
use Rattle.perf_base.specs.Order.{Order}
use Rattle.perf_base.specs.Took.{took}
use Rattle.perf_reader.specs.TableRuns.{field_took, table_took}
use Rattle.perf_sample_types.specs.Sample.{FieldValue, SampleValue}
use Rattle.perf_sample_types.specs.declared.sample_row.Row.{Row}

-- bytes were taken from the front of a row, in at most one read for each
abbrev pub TakesFront : (was now : Row) → Type 0
TakesFront was now =
    (taken : List ℕ) × (was.left.now ≡ taken ++ now.left.now) × (now.reads ≤ was.reads + length taken)

-- A field of a table was taken like this: whatever bytes come after the row, and however many reads
-- were made before, it has this value in all those bytes, in as many reads.
abbrev pub TakesField : Order → Option (Parts FieldValue) → Option FieldValue → (was now : Row) → Type 0
TakesField o field value was now =
    TakesFront was now
    × ((tail : List ℕ) → (n : ℕ) → field_took o field (was.left.now ++ tail) (n + was.reads)
    ≡ took value (now.left.now ++ tail) (n + now.reads))

-- the same of the fields of a table, one after another
abbrev pub TakesFields : Order → List (Option (Parts FieldValue)) → SampleValue → (was now : Row) → Type 0
TakesFields o fields values was now =
    TakesFront was now
    × ((tail : List ℕ) → (n : ℕ) → table_took o fields (was.left.now ++ tail) (n + was.reads)
    ≡ took values (now.left.now ++ tail) (n + now.reads))
