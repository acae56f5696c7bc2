-- The lines that the program prints, without line feeds.
use Rattle.std.specs.Prelude.{ℕ, List, ◌++◌, ◌==◌, if◌then◌else◌, Option, Some, None}
use Rattle.std.specs.Prelude.{codes, decimal}
use Rattle.std.specs.List.{flat_map}
use Rattle.perf_sample_types.specs.SampleGetters.{Getters, getters_of}
use Rattle.perf_records.specs.Records.{RecordValue, sample_is}
use Rattle.perf_text.specs.Numbers.{hex}

-- ---- words

-- a number that may be absent
abbrev pub decimal_word : Option ℕ → List ℕ
decimal_word (Some n) = decimal n
decimal_word None = codes "-"

-- the same in hexadecimal
abbrev pub hex_word : Option ℕ → List ℕ
hex_word (Some n) = hex n
hex_word None = codes "-"

-- ---- a call chain

-- -128, before addresses of the kernel
abbrev pub context_kernel : ℕ
context_kernel = 18446744073709551488

-- -512, before addresses of the program
abbrev pub context_user : ℕ
context_user = 18446744073709551104

-- an address, or whose addresses follow, with a space before it
abbrev pub entry : ℕ → List ℕ
entry n =
    if n == context_kernel then codes " kernel"
    else (if n == context_user then codes " user" else codes " " ++ hex n)

-- the entries of a call chain, if there is one
abbrev pub chain : Option (List ℕ) → List ℕ
chain (Some entries) = flat_map entry entries
chain None = codes " -"

-- ---- lines

-- the time, the CPU, the process and the thread
abbrev pub moment : Getters → List ℕ
moment g =
    decimal_word g.time ++ (codes " " ++ (decimal_word g.cpu
    ++ (codes " " ++ (decimal_word g.pid ++ (codes "/" ++ decimal_word g.tid)))))

-- how many events it stands for, the address that was accessed, and that of the code
abbrev pub event_words : Getters → List ℕ
event_words g =
    decimal_word g.period ++ (codes " " ++ (hex_word g.addr
    ++ (codes " " ++ (hex_word g.ip ++ codes ":"))))

-- both, and the call chain
abbrev pub sample_line : Getters → List ℕ
sample_line g = moment g ++ (codes " " ++ (event_words g ++ chain g.callchain))

-- the line of a record that is a sample
abbrev pub sample_line_of : RecordValue → Option (List ℕ)
sample_line_of (sample_is fields) = Some (sample_line (getters_of fields))
sample_line_of _ = None
