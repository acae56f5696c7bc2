-- The name of a thread.
use Rattle.std.specs.Prelude.{ℕ, ◌==◌, List, Option, Some, None, if◌then◌else◌}
use Rattle.std.specs.Borrow.{Bor}
use Rattle.perf_history.specs.declared.names.Name.{Name}
use Rattle.perf_history.specs.declared.names.Name.TheVariants.{Given, Number, Swapper}

-- the name that a thread was given, or else `swapper` if it is thread 0, or its number
abbrev pub name_or_number : Option (Bor (List ℕ)) → (tid : ℕ) → Name
name_or_number (Some name) tid = Given name
name_or_number None tid = if tid == 0 then Swapper else Number tid
