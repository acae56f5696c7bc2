-- The names that perf prints for the kernel's own events, by the numbers of their attributes.
use Rattle.std.specs.Prelude.{ℕ, ◌/◌, ◌%◌, ◌==◌, not, Bool, true, List, ◌++◌, codes, Option, Some, None, option_map, if◌then◌else◌}

-- of the type 0, what a processor counts
abbrev pub hardware_name : (config : ℕ) → Option (List ℕ)
hardware_name config =
    if config == 0 then Some (codes "cycles")
    else (if config == 1 then Some (codes "instructions")
    else (if config == 2 then Some (codes "cache-references")
    else (if config == 3 then Some (codes "cache-misses")
    else (if config == 4 then Some (codes "branches")
    else (if config == 5 then Some (codes "branch-misses")
    else (if config == 6 then Some (codes "bus-cycles")
    else (if config == 7 then Some (codes "stalled-cycles-frontend")
    else (if config == 8 then Some (codes "stalled-cycles-backend")
    else (if config == 9 then Some (codes "ref-cycles")
    else None)))))))))

-- of the type 1, what the kernel counts
abbrev pub software_name : (config : ℕ) → Option (List ℕ)
software_name config =
    if config == 0 then Some (codes "cpu-clock")
    else (if config == 1 then Some (codes "task-clock")
    else (if config == 2 then Some (codes "page-faults")
    else (if config == 3 then Some (codes "context-switches")
    else (if config == 4 then Some (codes "cpu-migrations")
    else (if config == 5 then Some (codes "minor-faults")
    else (if config == 6 then Some (codes "major-faults")
    else (if config == 7 then Some (codes "alignment-faults")
    else (if config == 8 then Some (codes "emulation-faults")
    else (if config == 9 then Some (codes "dummy")
    else (if config == 10 then Some (codes "bpf-output")
    else (if config == 11 then Some (codes "cgroup-switches")
    else None)))))))))))

-- What is counted of a cache: an operation, and 256 if only its misses are.
abbrev pub access_name : (access : ℕ) → Option (List ℕ)
access_name access =
    if access == 0 then Some (codes "loads")
    else (if access == 256 then Some (codes "load-misses")
    else (if access == 1 then Some (codes "stores")
    else (if access == 257 then Some (codes "store-misses")
    else (if access == 2 then Some (codes "prefetches")
    else (if access == 258 then Some (codes "prefetch-misses")
    else None)))))

-- the name of an access of a cache, if the cache has it
abbrev pub of_cache : List ℕ → (has : Bool) → (access : ℕ) → Option (List ℕ)
of_cache cache has access =
    if has then option_map (λ text. cache ++ (codes "-" ++ text)) (access_name access) else None

-- whether it is a load
abbrev pub is_load : (access : ℕ) → Bool
is_load access = access % 256 == 0

-- whether it is a store
abbrev pub is_store : (access : ℕ) → Bool
is_store access = access % 256 == 1

-- Of the type 3, accesses of a cache: the lowest byte is the cache, and the others are the access.
abbrev pub cache_name : (config : ℕ) → Option (List ℕ)
cache_name config =
    let cache = config % 256 in let access = config / 256 in
    if cache == 0 then of_cache (codes "L1-dcache") true access
    else (if cache == 1 then of_cache (codes "L1-icache") (not (is_store access)) access
    else (if cache == 2 then of_cache (codes "LLC") true access
    else (if cache == 3 then of_cache (codes "dTLB") true access
    else (if cache == 4 then of_cache (codes "iTLB") (is_load access) access
    else (if cache == 5 then of_cache (codes "branch") (is_load access) access
    else (if cache == 6 then of_cache (codes "node") true access
    else None))))))

-- the name of an event of a type
abbrev pub known_name : (type config : ℕ) → Option (List ℕ)
known_name type config =
    if type == 0 then hardware_name config
    else (if type == 1 then software_name config
    else (if type == 3 then cache_name config
    else None))
