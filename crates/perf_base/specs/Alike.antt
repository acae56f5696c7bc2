-- The numbers by which orders and kinds of refusal compare and hash: their positions in the list of
-- all of them.
use Rattle.std.specs.Prelude.{ℕ}
use Rattle.perf_base.specs.declared.endian.Dynamic.{Dynamic}
use Rattle.perf_base.specs.declared.endian.Dynamic.TheVariants.{Big, Little}
use Rattle.perf_base.specs.declared.error.ErrorKind.{ErrorKind}
use Rattle.perf_base.specs.declared.error.ErrorKind.TheVariants as kind

-- the number of an order
abbrev pub order_number : Dynamic → ℕ
order_number Big = 0
order_number Little = 1

-- the number of a kind
abbrev pub kind_number : ErrorKind → ℕ
kind_number kind.Eof = 0
kind_number kind.InvalidRecord = 1
kind_number kind.UnsupportedConfig = 2
kind_number kind.UnsupportedData = 3
kind_number kind.External = 4
kind_number kind.OutOfMemory = 5
