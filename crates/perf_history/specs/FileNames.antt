-- Names under which memory is mapped.
use Rattle.std.specs.Prelude.{ℕ, ◌||◌, Bool, List, codes, bytes_eq, nat_eq}
use Rattle.std.specs.List.{starts_with}

-- whether memory under this name is no file's: it has one of these names, or begins with one of these
abbrev pub keeps_address : List ℕ → Bool
keeps_address name =
    bytes_eq name (codes "//anon") || bytes_eq name (codes "[heap]")
    || starts_with nat_eq name (codes "/dev/zero") || starts_with nat_eq name (codes "/anon_hugepage")
    || starts_with nat_eq name (codes "[stack") || starts_with nat_eq name (codes "/SYSV")
