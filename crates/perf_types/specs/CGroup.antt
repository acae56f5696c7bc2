-- PERF_RECORD_CGROUP: a group's id and its path.
use Rattle.std.specs.Prelude.{ℕ, List, IsTrue, Bool}
use Rattle.perf_base.specs.Cow.{cow_items, is_borrowed, cow_form}
use Rattle.perf_base.specs.Layout.{Parts, done, ◌>>=◌}
use Rattle.perf_base.specs.FieldWords.{u64, name}
use Rattle.perf_types.specs.declared.cgroup.CGroup.{CGroup}

-- a CGROUP record as plain numbers and bytes
pub record CGroupValue : Type 0 where
  pub id : ℕ
  pub path : List ℕ

-- the value of a record, borrowed or owned
abbrev pub cgroup_value : CGroup → CGroupValue
cgroup_value r = record { id = r.id; path = cow_items r.path }

-- whether its path is borrowed
abbrev pub cgroup_form : CGroup → List Bool
cgroup_form r = cow_form r.path

-- none of its bytes were copied
abbrev pub IsBorrowedCGroup : CGroup → Type 0
IsBorrowedCGroup r = IsTrue (is_borrowed r.path)

-- the body: a number, and then the path
abbrev pub cgroup : Parts CGroupValue
cgroup = do
  id ← u64
  path ← name
  done (record { id = id; path = path })
