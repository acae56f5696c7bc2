-- A mark: a record of a program's own, of two numbers and a name.
use Rattle.std.specs.Prelude.{ℕ, List, IsTrue}
use Rattle.perf_base.specs.Cow.{cow_items, is_borrowed}
use Rattle.perf_base.specs.Layout.{Parts, done, ◌>>=◌}
use Rattle.perf_base.specs.FieldWords.{u32, u64, name}
use Rattle.perf_uses.specs.declared.own_mark.Mark.{Mark}

-- a mark in plain numbers and bytes
pub record MarkValue : Type 0 where
  pub id : ℕ
  pub value : ℕ
  pub name : List ℕ

-- the value of a mark
abbrev pub mark_value : Mark → MarkValue
mark_value m = record { id = m.id; value = m.value; name = cow_items m.name }

-- the layout of a body: two numbers, and the rest of the body is the name
abbrev pub mark_parts : Parts MarkValue
mark_parts = do
  id ← u32
  value ← u64
  name ← name
  done (record { id = id; value = value; name = name })

-- no byte of it was copied
abbrev pub IsBorrowedMark : Mark → Type 0
IsBorrowedMark m = IsTrue (is_borrowed m.name)
