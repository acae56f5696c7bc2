-- PERF_RECORD_TEXT_POKE: an address in kernel code, the bytes that were there, and those that are
-- there now.
use Rattle.std.specs.Prelude.{ℕ, ◌+◌, ◌-◌, ◌%◌, List, take, drop, IsTrue, Bool, ◌++◌}
use Rattle.perf_base.specs.Cow.{cow_items, is_borrowed, cow_form}
use Rattle.perf_base.specs.Layout.{Parts, done, ◌>>=◌}
use Rattle.perf_base.specs.FieldWords.{u16, u64, bytes}
use Rattle.perf_types.specs.declared.text_poke.TextPoke.{TextPoke}

-- a TEXT_POKE record as plain numbers and bytes
pub record TextPokeValue : Type 0 where
  pub addr : ℕ
  pub old_bytes : List ℕ
  pub new_bytes : List ℕ

-- the value of a record, borrowed or owned
abbrev pub text_poke_value : TextPoke → TextPokeValue
text_poke_value r =
    record { addr = r.addr; old_bytes = cow_items r.old_bytes; new_bytes = cow_items r.new_bytes }

-- which of its byte strings are borrowed
abbrev pub text_poke_form : TextPoke → List Bool
text_poke_form r = cow_form r.old_bytes ++ cow_form r.new_bytes

-- none of its bytes were copied
abbrev pub IsBorrowedTextPoke : TextPoke → Type 0
IsBorrowedTextPoke r = IsTrue (is_borrowed r.old_bytes) × IsTrue (is_borrowed r.new_bytes)

-- How many bytes follow both lengths, so that the record ends at a multiple of eight: the least
-- number that is at least n and is four modulo eight, as `proofs/Poked` shows.
abbrev pub poked_len : ℕ → ℕ
poked_len n = n + (12 - n % 8) % 8

-- Old bytes come first, then new ones. What is left after them has no meaning.
abbrev pub text_poke : Parts TextPokeValue
text_poke = do
  addr ← u64
  old_len ← u16
  new_len ← u16
  run ← bytes (poked_len (old_len + new_len))
  done (record {
    addr = addr;
    old_bytes = take old_len run;
    new_bytes = take new_len (drop old_len run);
  })
