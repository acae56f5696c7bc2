-- Layouts of reads of counters, computed: a wrong order or width of a number is refused here.
use Rattle.std.proofs.Common.{◌≡◌, ℕ, true, false, List, [], ◌∷◌, ◌++◌, Some, None, Ok, Err, refl}
use Rattle.perf_base.specs.Configuration.{Configuration}
use Rattle.perf_base.specs.Order.{little}
use Rattle.perf_base.specs.Layout.{layout}
use Rattle.perf_base.specs.LayoutReads.{layout_reads, layout_consumed}
use Rattle.perf_base.specs.declared.error.ErrorKind.TheVariants.{Eof, InvalidRecord, UnsupportedConfig}
use Rattle.perf_counters.specs.ReadGroup.{read_group}
use Rattle.perf_counters.specs.ReadValue.{read_value}

-- ---- numbers below 2 ^ 16 as bytes, the lowest first

abbrev eight : (low high : ℕ) → List ℕ
eight low high = low ∷ high ∷ 0 ∷ 0 ∷ 0 ∷ 0 ∷ 0 ∷ 0 ∷ []

-- ---- reads of counters

abbrev reading : (read_format : ℕ) → Configuration
reading read_format = record { read_format = read_format; sample_type = 0; sample_id_all = false; branch_hw_index = false; misc = 0; regs_user = 0; regs_intr = 0 }

single_value : layout little (read_value (reading 0)) (eight 3 0) ≡ Ok (record { value = 3; time_enabled = None; time_running = None; id = None; lost = None })
single_value = refl

-- lost samples come right after the value if no other number is present
single_with_lost_samples : layout little (read_value (reading 0x10)) (eight 3 0 ++ eight 7 0) ≡
    Ok (record { value = 3; time_enabled = None; time_running = None; id = None; lost = Some 7 })
single_with_lost_samples = refl

single_without_bytes : layout little (read_value (reading 8)) [] ≡ Err UnsupportedConfig
single_without_bytes = refl

-- ---- groups

-- 2 ^ 62 and 2 ^ 63
abbrev bit_62 : List ℕ
bit_62 = 0 ∷ 0 ∷ 0 ∷ 0 ∷ 0 ∷ 0 ∷ 0 ∷ 0x40 ∷ []

abbrev bit_63 : List ℕ
bit_63 = 0 ∷ 0 ∷ 0 ∷ 0 ∷ 0 ∷ 0 ∷ 0 ∷ 0x80 ∷ []

-- a count, a time and four numbers
abbrev group_body : List ℕ
group_body = eight 2 0 ++ 0xD0 ∷ 0xBE ∷ 0xC0 ∷ 0x28 ∷ 0 ∷ 0 ∷ 0 ∷ 0 ∷ eight 0x24 2 ++ eight 0xBD 0 ++ 0xAC ∷ 0x79 ∷ 0xC0 ∷ 0x28 ∷ 0 ∷ 0 ∷ 0 ∷ 0 ∷ eight 0xBE 0

group_of_two : layout little (read_group (reading 0x09)) group_body ≡
    Ok (record {
      time_enabled = Some 0x28C0BED0;
      time_running = None;
      with_id = false;
      with_lost = false;
      entries = record { value = 0x224; id = None; lost = None } ∷ record { value = 0xBD; id = None; lost = None } ∷ [];
    })
group_of_two = refl

group_of_two_with_ids : layout little (read_group (reading 0x0D)) group_body ≡
    Ok (record {
      time_enabled = Some 0x28C0BED0;
      time_running = None;
      with_id = true;
      with_lost = false;
      entries = record { value = 0x224; id = Some 0xBD; lost = None } ∷ record { value = 0x28C079AC; id = Some 0xBE; lost = None } ∷ [];
    })
group_of_two_with_ids = refl

-- lost samples come after the id
group_with_lost_samples : layout little (read_group (reading 0x1C)) (eight 1 0 ++ eight 5 0 ++ eight 6 0 ++ eight 7 0) ≡
    Ok (record { time_enabled = None; time_running = None; with_id = true; with_lost = true; entries = record { value = 5; id = Some 6; lost = Some 7 } ∷ [] })
group_with_lost_samples = refl

group_without_ids : layout little (read_group (reading 0x1A)) (eight 1 0 ++ eight 9 0 ++ eight 5 0 ++ eight 7 0) ≡
    Ok (record { time_enabled = None; time_running = Some 9; with_id = false; with_lost = true; entries = record { value = 5; id = None; lost = Some 7 } ∷ [] })
group_without_ids = refl

group_of_none : layout little (read_group (reading 0x0C)) (eight 0 0) ≡
    Ok (record { time_enabled = None; time_running = None; with_id = true; with_lost = false; entries = [] })
group_of_none = refl

group_without_its_last_number : layout little (read_group (reading 0x0C)) (eight 2 0 ++ eight 1 0 ++ eight 2 0 ++ eight 3 0) ≡ Err Eof
group_without_its_last_number = refl

-- a list longer than any number is refused, and a shorter one has missing numbers
group_of_too_many : layout little (read_group (reading 0x0C)) bit_63 ≡ Err InvalidRecord
group_of_too_many = refl

group_of_many : layout little (read_group (reading 0x0C)) bit_62 ≡ Err Eof
group_of_many = refl

-- a list that is refused is not read, and one with missing numbers is read to its end
reads_of_too_many : layout_reads little (read_group (reading 0x0C)) (bit_63 ++ eight 1 0) ≡ 1
reads_of_too_many = refl

reads_of_many : layout_reads little (read_group (reading 0x0C)) (bit_62 ++ eight 1 0 ++ eight 2 0) ≡ 4
reads_of_many = refl

consumed_of_many : layout_consumed little (read_group (reading 0x0C)) (bit_62 ++ eight 1 0 ++ eight 2 0) ≡ 24
consumed_of_many = refl

-- if each entry has one number, no count is too large
group_of_many_values : layout little (read_group (reading 8)) bit_63 ≡ Err Eof
group_of_many_values = refl

-- the greatest count of entries of three numbers, and one more
group_of_the_most : layout little (read_group (reading 0x1C)) (0x55 ∷ 0x55 ∷ 0x55 ∷ 0x55 ∷ 0x55 ∷ 0x55 ∷ 0x55 ∷ 0x55 ∷ []) ≡ Err Eof
group_of_the_most = refl

group_of_one_more : layout little (read_group (reading 0x1C)) (0x56 ∷ 0x55 ∷ 0x55 ∷ 0x55 ∷ 0x55 ∷ 0x55 ∷ 0x55 ∷ 0x55 ∷ []) ≡ Err InvalidRecord
group_of_one_more = refl

-- the times come first
group_of_too_many_without_its_time : layout little (read_group (reading 0x0D)) bit_63 ≡ Err Eof
group_of_too_many_without_its_time = refl

group_of_too_many_with_its_time : layout little (read_group (reading 0x0D)) (bit_63 ++ eight 9 0) ≡ Err InvalidRecord
group_of_too_many_with_its_time = refl

-- a read format that is refused is found before the count
group_of_one_counter : layout little (read_group (reading 0x17)) [] ≡ Err UnsupportedConfig
group_of_one_counter = refl

group_of_what_is_not_known : layout little (read_group (reading 0x28)) [] ≡ Err UnsupportedConfig
group_of_what_is_not_known = refl
