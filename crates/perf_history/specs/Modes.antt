-- Where code runs, and in which address space that is.
use Rattle.std.specs.Prelude.{ℕ, ◌==◌, ◌%◌, Option, Some, None, if◌then◌else◌}
use Rattle.perf_history.specs.declared.changes.Mode.{Mode}
use Rattle.perf_history.specs.declared.changes.Mode.TheVariants.{Kernel, User, Other}

-- the address space of the kernel: that of process -1, which is 2^32 - 1
abbrev pub kernel : ℕ
kernel = 4294967295

-- the mode in a header's misc
abbrev pub mode_of : ℕ → Mode
mode_of misc = if misc % 8 == 1 then Kernel else if misc % 8 == 2 then User else Other

-- the address space that a mapping of a process is in
abbrev pub space_of : Mode → (pid : ℕ) → ℕ
space_of Kernel pid = kernel
space_of User pid = pid
space_of Other pid = pid

-- the address space in which a process runs code
abbrev pub space_at : Mode → (pid : ℕ) → Option ℕ
space_at Kernel pid = Some kernel
space_at User pid = Some pid
space_at Other pid = None
