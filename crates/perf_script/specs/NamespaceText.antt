-- The text of a NAMESPACES record, after the columns of its line and `PERF_RECORD_`.
use Rattle.std.specs.Prelude.{ℕ, suc, ◌%◌, ◌==◌, List, [], ◌∷◌, ◌++◌, codes, decimal, length, if◌then◌else◌}
use Rattle.perf_types.specs.Namespaces.{network_index, uts_index, ipc_index, pid_index, user_index, cgroup_index}
use Rattle.perf_types.specs.declared.namespaces.NamespaceEntry.{NamespaceEntry}
use Rattle.perf_columns.specs.Columns.{hex_number}
use Rattle.perf_columns.specs.RecordText.{pair}

-- the name of a kind of namespace, by its index in the list
abbrev pub kind_name : (index : ℕ) → List ℕ
kind_name index =
    if index == network_index then codes "net"
    else if index == uts_index then codes "uts"
    else if index == ipc_index then codes "ipc"
    else if index == pid_index then codes "pid"
    else if index == user_index then codes "user"
    else if index == 5 then codes "mnt"
    else if index == cgroup_index then codes "cgroup"
    else codes "UNKNOWN"

-- a namespace: its index, its kind, and the device and the inode of the file that represents it
abbrev pub namespace_text : (index device inode : ℕ) → List ℕ
namespace_text index device inode =
    decimal index ++ (codes "/" ++ (kind_name index ++ (codes ": " ++ (decimal device ++ (codes "/" ++ hex_number inode)))))

-- what is before a namespace: a comma after the one before it, and a new line after each fourth
abbrev pub gap_before : (index : ℕ) → List ℕ
gap_before index = if index == 0 then [] else if index % 4 == 0 then codes ", \n\t\t " else codes ", "

-- namespaces, of which the first has that index
abbrev pub namespaces_from : (index : ℕ) → List NamespaceEntry → List ℕ
namespaces_from index [] = []
namespaces_from index (e ∷ es) = gap_before index ++ (namespace_text index e.dev e.inode ++ namespaces_from (suc index) es)

-- the end of a list of so many: perf ends none that is empty
abbrev pub list_end : (count : ℕ) → List ℕ
list_end count = if count == 0 then [] else codes "]\n"

-- a task that has so many namespaces, and the beginning of their list
abbrev pub task_text : (pid tid count : ℕ) → List ℕ
task_text pid tid count =
    codes "NAMESPACES " ++ (pair (codes "/") pid tid ++ (codes " - nr_namespaces: " ++ (decimal count ++ codes "\n\t\t[")))

-- a NAMESPACES: a task and its namespaces
abbrev pub namespaces_text : (pid tid : ℕ) → List NamespaceEntry → List ℕ
namespaces_text pid tid entries = task_text pid tid (length entries) ++ (namespaces_from 0 entries ++ list_end (length entries))
