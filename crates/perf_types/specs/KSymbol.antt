-- PERF_RECORD_KSYMBOL: an address and a length in kernel memory, the kind of symbol, flags and a
-- name.
use Rattle.std.specs.Prelude.{ℕ, List, IsTrue, Bool}
use Rattle.perf_base.specs.Cow.{cow_items, is_borrowed, cow_form}
use Rattle.perf_base.specs.Layout.{Parts, done, ◌>>=◌}
use Rattle.perf_base.specs.FieldWords.{u16, u32, u64, name}
use Rattle.perf_words.specs.SetBits.{ksymbol_flags_bits}
use Rattle.perf_types.specs.declared.ksymbol.KSymbol.{KSymbol}

-- a KSYMBOL record as plain numbers and bytes
pub record KSymbolValue : Type 0 where
  pub addr : ℕ
  pub len : ℕ
  pub ksym_type : ℕ
  -- the bits of the set of flags, including those without a name
  pub flags : ℕ
  pub name : List ℕ

-- the value of a record, borrowed or owned
abbrev pub ksymbol_value : KSymbol → KSymbolValue
ksymbol_value r = record {
  addr = r.addr;
  len = r.len;
  ksym_type = r.ksym_type;
  flags = ksymbol_flags_bits r.flags;
  name = cow_items r.name;
}

-- whether its name is borrowed
abbrev pub ksymbol_form : KSymbol → List Bool
ksymbol_form r = cow_form r.name

-- none of its bytes were copied
abbrev pub IsBorrowedKSymbol : KSymbol → Type 0
IsBorrowedKSymbol r = IsTrue (is_borrowed r.name)

-- the body: numbers, and then the name
abbrev pub ksymbol : Parts KSymbolValue
ksymbol = do
  addr ← u64
  len ← u32
  ksym_type ← u16
  flags ← u16
  symbol ← name
  done (record { addr = addr; len = len; ksym_type = ksym_type; flags = flags; name = symbol })
