-- The calls of a call chain.
use Rattle.std.specs.Prelude.{ℕ, ◌==◌, Bool, List, [], ◌∷◌, nat_le, Some, None, if◌then◌else◌}
use Rattle.perf_history.specs.declared.changes.Mode.{Mode}
use Rattle.perf_history.specs.declared.changes.Mode.TheVariants.{Kernel, User, Other}
use Rattle.perf_sample_types.specs.Sample.{SampleValue}
use Rattle.perf_sample_types.specs.SampleGetters.{getters_of}
use Rattle.perf_walk.specs.declared.calls.Call.{Call}

-- whether a number of a chain is a mark and no address: it is one of the last 4095
abbrev pub is_mark : ℕ → Bool
is_mark number = nat_le 18446744073709547521 number

-- the mode of the addresses after a mark: kernel after -128, user after -512
abbrev pub mode_after : ℕ → Mode
mode_after mark = if mark == 18446744073709551488 then Kernel else if mark == 18446744073709551104 then User else Other

-- an address at which code runs in a mode
abbrev pub call : Mode → (address : ℕ) → Call
call mode address = record { mode = mode; address = address }

-- the calls of the numbers of a chain that follow in a mode
abbrev pub calls_in : Mode → List ℕ → List Call
calls_in mode [] = []
calls_in mode (n ∷ ns) = if is_mark n then calls_in (mode_after n) ns else call mode n ∷ calls_in mode ns

-- the calls of a chain, the innermost first: it begins in user mode
abbrev pub chain_calls : List ℕ → List Call
chain_calls chain = calls_in User chain

-- the calls of a sample's chain, none without one
abbrev pub calls_of : SampleValue → List Call
calls_of s = elim (getters_of s).callchain [ Some chain ↦ chain_calls chain | None ↦ [] ]
