-- Whose memory a new process has.
use Rattle.std.specs.Prelude.{ℕ, ◌==◌, ◌&&◌, Bool, not, if◌then◌else◌}
use Rattle.perf_history.specs.Modes.{kernel}
use Rattle.perf_history.specs.declared.changes.Fork.{Fork}

-- whether a new process, which is not the kernel, has the memory of its parent
abbrev pub copies_memory : Fork → Bool
copies_memory f = not (f.pid == f.ppid) && not f.made_up && not (f.pid == kernel)

-- whose memory an address space was before a thread was made
abbrev pub origin : Fork → (space : ℕ) → ℕ
origin f space = if f.pid == space && copies_memory f then f.ppid else space
