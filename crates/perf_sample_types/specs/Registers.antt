-- The registers of a task in a SAMPLE, `struct { u64 abi; u64 regs[weight(mask)]; }` of
-- perf_event_open(2).
use Rattle.std.specs.Prelude.{ℕ, zero, suc, Bool, List, count_ones}
use Rattle.perf_base.specs.Cow.{cow_items, cow_form}
use Rattle.perf_base.specs.FieldWords.{u64, numbers}
use Rattle.perf_base.specs.Layout.{Parts, done, ◌>>=◌}
use Rattle.perf_sample_types.specs.declared.registers.Registers.{Registers}

-- registers: the task's ABI, the mask, and a number for each
pub record RegistersValue : Type 0 where
  pub abi : ℕ
  pub mask : ℕ
  pub regs : List ℕ

-- the value of registers of the code, wherever their numbers are stored
abbrev pub registers_value : Registers → RegistersValue
registers_value r = record { abi = r.abi; mask = r.mask; regs = cow_items r.regs }

-- whether their numbers are borrowed
abbrev pub registers_form : Registers → List Bool
registers_form r = cow_form r.regs

-- How many registers there are: one for each bit of the mask, but none if the ABI is 0.
abbrev pub register_count : (mask abi : ℕ) → ℕ
register_count mask zero = 0
register_count mask (suc kind) = count_ones mask

-- the registers of a mask in plain numbers: the ABI, and a number for each
abbrev pub registers_of : ℕ → Parts RegistersValue
registers_of mask = do
  abi ← u64
  regs ← numbers (register_count mask abi)
  done (record { abi = abi; mask = mask; regs = regs })
