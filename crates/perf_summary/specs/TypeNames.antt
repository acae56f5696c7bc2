-- The names of types of records.
use Rattle.std.specs.Prelude.{ℕ, ◌==◌, List, codes, nat_lt, if◌then◌else◌}

-- those of the kernel's types, without their prefix `PERF_RECORD_`
abbrev pub kernel_type_name : ℕ → List ℕ
kernel_type_name ty =
    if ty == 1 then codes "MMAP"
    else (if ty == 2 then codes "LOST"
    else (if ty == 3 then codes "COMM"
    else (if ty == 4 then codes "EXIT"
    else (if ty == 5 then codes "THROTTLE"
    else (if ty == 6 then codes "UNTHROTTLE"
    else (if ty == 7 then codes "FORK"
    else (if ty == 8 then codes "READ"
    else (if ty == 9 then codes "SAMPLE"
    else (if ty == 10 then codes "MMAP2"
    else (if ty == 11 then codes "AUX"
    else (if ty == 12 then codes "ITRACE_START"
    else (if ty == 13 then codes "LOST_SAMPLES"
    else (if ty == 14 then codes "SWITCH"
    else (if ty == 15 then codes "SWITCH_CPU_WIDE"
    else (if ty == 16 then codes "NAMESPACES"
    else (if ty == 17 then codes "KSYMBOL"
    else (if ty == 18 then codes "BPF_EVENT"
    else (if ty == 19 then codes "CGROUP"
    else (if ty == 20 then codes "TEXT_POKE"
    else (if ty == 21 then codes "AUX_OUTPUT_HW_ID"
    else codes "-"))))))))))))))))))))

-- those of the types of perf's own frames
abbrev pub own_type_name : ℕ → List ℕ
own_type_name ty =
    if ty == 64 then codes "ATTR"
    else (if ty == 65 then codes "EVENT_TYPE"
    else (if ty == 66 then codes "TRACING_DATA"
    else (if ty == 67 then codes "BUILD_ID"
    else (if ty == 68 then codes "FINISHED_ROUND"
    else (if ty == 69 then codes "ID_INDEX"
    else (if ty == 70 then codes "AUXTRACE_INFO"
    else (if ty == 71 then codes "AUXTRACE"
    else (if ty == 72 then codes "AUXTRACE_ERROR"
    else (if ty == 73 then codes "THREAD_MAP"
    else (if ty == 74 then codes "CPU_MAP"
    else (if ty == 75 then codes "STAT_CONFIG"
    else (if ty == 76 then codes "STAT"
    else (if ty == 77 then codes "STAT_ROUND"
    else (if ty == 78 then codes "EVENT_UPDATE"
    else (if ty == 79 then codes "TIME_CONV"
    else (if ty == 80 then codes "FEATURE"
    else (if ty == 81 then codes "COMPRESSED"
    else (if ty == 82 then codes "FINISHED_INIT"
    else (if ty == 83 then codes "COMPRESSED2"
    else codes "-")))))))))))))))))))

-- the name of a type: those from 64 on are perf's own
abbrev pub type_name : ℕ → List ℕ
type_name ty = if nat_lt ty 64 then kernel_type_name ty else own_type_name ty
