-- The bits of a header's `misc` that specify how its record is read, as perf_event.h numbers them.
use Rattle.std.specs.Prelude.{ℕ}

-- PERF_RECORD_MISC_SWITCH_OUT: the task left the processor
abbrev pub switch_out_bit : ℕ
switch_out_bit = 13

-- PERF_RECORD_MISC_MMAP_BUILD_ID: the file is identified by its build id
abbrev pub build_id_bit : ℕ
build_id_bit = 14
