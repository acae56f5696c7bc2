-- The columns of a line.
use Rattle.std.specs.Prelude.{ℕ, Bool, true, false, ◌-◌, ◌/◌, ◌%◌, ◌^◌, ◌==◌, List, [], ◌++◌, length, replicate, codes, decimal, nat_lt, if◌then◌else◌}
use Rattle.std.specs.Fmt.{digits}
use Rattle.perf_text.specs.Numbers.{hex}

-- a text, with as many of a byte before it as it is short of a width
abbrev pub padded : (fill width : ℕ) → List ℕ → List ℕ
padded fill width text = replicate (width - length text) fill ++ text

-- spaces before a text
abbrev pub right : (width : ℕ) → List ℕ → List ℕ
right width text = padded 32 width text

-- spaces after it
abbrev pub left : (width : ℕ) → List ℕ → List ℕ
left width text = text ++ replicate (width - length text) 32

-- zeros before it
abbrev pub zeros : (width : ℕ) → List ℕ → List ℕ
zeros width text = padded 48 width text

-- a number of 32 bits, of which the highest is the sign
abbrev pub signed : ℕ → List ℕ
signed n = if nat_lt n (2 ^ 31) then decimal n else codes "-" ++ decimal (2 ^ 32 - n)

-- an address in 16 columns
abbrev pub address_column : ℕ → List ℕ
address_column address = right 16 (digits 16 false address)

-- a process and a thread
abbrev pub task_pair : (pid tid : ℕ) → List ℕ
task_pair pid tid = right 5 (signed pid) ++ (codes "/" ++ left 5 (signed tid))

-- one of the two
abbrev pub task_number : ℕ → List ℕ
task_number n = right 5 (signed n) ++ codes " "

-- those of the two that are chosen
abbrev pub task_column : (with_pid with_tid : Bool) → (pid tid : ℕ) → List ℕ
task_column true true pid tid = task_pair pid tid ++ codes " "
task_column true false pid tid = task_number pid
task_column false true pid tid = task_number tid
task_column false false pid tid = []

-- the number of a processor, of three digits or more
abbrev pub cpu_number : ℕ → List ℕ
cpu_number cpu = if nat_lt cpu (2 ^ 31) then zeros 3 (decimal cpu) else codes "-" ++ zeros 2 (decimal (2 ^ 32 - cpu))

-- a processor
abbrev pub cpu_column : ℕ → List ℕ
cpu_column cpu = codes "[" ++ (cpu_number cpu ++ codes "] ")

-- a time in nanoseconds: seconds, and nine digits of a second
abbrev pub time_column : ℕ → List ℕ
time_column time = right 5 (decimal (time / 1000000000)) ++ (codes "." ++ (zeros 9 (decimal (time % 1000000000)) ++ codes ": "))

-- a period
abbrev pub period_column : ℕ → List ℕ
period_column period = right 10 (decimal period) ++ codes " "

-- a number in hexadecimal, with `0x` before its digits unless it is 0
abbrev pub hex_number : ℕ → List ℕ
hex_number n = if n == 0 then codes "0" else hex n
