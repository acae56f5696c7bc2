-- The order that a `Dynamic` represents.
use Rattle.std.specs.Prelude.{Bool, true, false}
use Rattle.perf_base.specs.Order.{Order, little, big}
use Rattle.perf_base.specs.declared.endian.Dynamic.{Dynamic}
use Rattle.perf_base.specs.declared.endian.Dynamic.TheVariants.{Big, Little}

-- how it reads numbers
abbrev pub order_of : Dynamic → Order
order_of Big = big
order_of Little = little

-- whether it reads the lowest byte first
abbrev pub is_little : Dynamic → Bool
is_little Big = false
is_little Little = true
