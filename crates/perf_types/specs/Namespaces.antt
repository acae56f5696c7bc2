-- PERF_RECORD_NAMESPACES: a process, its thread, and a counted list of namespaces.
use Rattle.std.specs.Prelude.{ℕ, ◌*◌, Bool, List, [], ◌∷◌}
use Rattle.perf_base.specs.Cow.{cow_items, cow_form}
use Rattle.perf_base.specs.Layout.{Parts, done, ◌>>=◌}
use Rattle.perf_base.specs.FieldWords.{u32, u64, numbers}
use Rattle.perf_types.specs.declared.namespaces.NamespaceEntry.{NamespaceEntry}
use Rattle.perf_types.specs.declared.namespaces.Namespaces.{Namespaces}

-- a NAMESPACES record as plain numbers and a list
pub record NamespacesValue : Type 0 where
  pub pid : ℕ
  pub tid : ℕ
  pub namespaces : List NamespaceEntry

-- the value of a record, borrowed or owned
abbrev pub namespaces_value : Namespaces → NamespacesValue
namespaces_value r = record { pid = r.pid; tid = r.tid; namespaces = cow_items r.namespaces }

-- whether its list is borrowed
abbrev pub namespaces_form : Namespaces → List Bool
namespaces_form r = cow_form r.namespaces

-- ---- the index of each namespace in the list: NET_NS_INDEX and the like of perf_event.h

-- NET_NS_INDEX
abbrev pub network_index : ℕ
network_index = 0

-- UTS_NS_INDEX
abbrev pub uts_index : ℕ
uts_index = 1

-- IPC_NS_INDEX
abbrev pub ipc_index : ℕ
ipc_index = 2

-- PID_NS_INDEX
abbrev pub pid_index : ℕ
pid_index = 3

-- USER_NS_INDEX
abbrev pub user_index : ℕ
user_index = 4

-- CGROUP_NS_INDEX; MNT_NS_INDEX is 5
abbrev pub cgroup_index : ℕ
cgroup_index = 6

-- ---- tables

-- a namespace: a device and an inode
abbrev pub namespace_entry : Parts NamespaceEntry
namespace_entry = do
  dev ← u64
  inode ← u64
  done (record { dev = dev; inode = inode })

-- pairs of numbers
abbrev pub namespace_entries : List ℕ → List NamespaceEntry
namespace_entries (dev ∷ inode ∷ words) = record { dev = dev; inode = inode } ∷ namespace_entries words
namespace_entries _ = []

-- the numbers of an entry
abbrev pub entry_numbers : NamespaceEntry → List ℕ
entry_numbers e = e.dev ∷ e.inode ∷ []

-- the body: the task, a count, and that many namespaces
abbrev pub namespaces : Parts NamespacesValue
namespaces = do
  pid ← u32
  tid ← u32
  count ← u64
  words ← numbers (2 * count)
  done (record { pid = pid; tid = tid; namespaces = namespace_entries words })
