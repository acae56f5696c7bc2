-- The names of byte orders.
use Rattle.std.specs.Prelude.{ℕ, List, codes, Option, Some, None, if◌then◌else◌}
use Rattle.std.specs.Str.{bytes_eq}
use Rattle.perf_text.specs.declared.order.OrderName.{OrderName}
use Rattle.perf_text.specs.declared.order.OrderName.TheVariants.{Little, Big, Native}

-- the byte order of that name
abbrev pub order_named : List ℕ → Option OrderName
order_named word =
    if bytes_eq word (codes "little") then Some Little
    else (if bytes_eq word (codes "big") then Some Big
    else (if bytes_eq word (codes "native") then Some Native else None))
