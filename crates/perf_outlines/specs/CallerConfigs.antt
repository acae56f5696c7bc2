-- What a configuration of a C caller specifies: how records are read, and their byte order.
use Rattle.std.specs.Prelude.{ℕ, Bool, nat_lt}
use Rattle.perf_base.specs.Configuration.{Configuration, configured_by}
use Rattle.perf_base.specs.Dynamic.{order_of}
use Rattle.perf_base.specs.Order.{Order}
use Rattle.perf_flat.specs.FlatConfigs.{attribute_with, order_by}
use Rattle.perf_flat.specs.declared.config.FlatConfig.{FlatConfig}

-- whether a number is that of one of the two orders
abbrev pub is_order : ℕ → Bool
is_order n = nat_lt n 2

-- the order of such a number: 0 for the lowest byte first, 1 for the highest
abbrev pub order_numbered : ℕ → Order
order_numbered n = order_of (order_by n)

-- the byte order of the records
abbrev pub order_of_config : FlatConfig → Order
order_of_config c = order_numbered c.order

-- how the records are read: as an attribute with the same fields specifies
abbrev pub configuration_by : FlatConfig → Configuration
configuration_by c = configured_by (attribute_with c)
