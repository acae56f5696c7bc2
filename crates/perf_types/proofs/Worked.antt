-- Layouts of bodies, computed: a wrong order, width or padding of a field is refused here.
use Rattle.std.proofs.Common.{◌≡◌, ℕ, false, List, [], ◌∷◌, ◌++◌, Some, None, Ok, Err, refl}
use Rattle.perf_base.specs.Configuration.{Configuration, plain, kept_read_format}
use Rattle.perf_base.specs.Order.{little, big}
use Rattle.perf_base.specs.Layout.{layout}
use Rattle.perf_base.specs.LayoutReads.{layout_reads, layout_consumed}
use Rattle.perf_base.specs.declared.error.ErrorKind.TheVariants.{Eof, InvalidRecord, UnsupportedConfig}
use Rattle.perf_types.specs.Numbers.{aux, aux_output_hw_id, bpf_event, exit, itrace_start, lost}
use Rattle.perf_types.specs.Numbers.{lost_samples, throttle}
use Rattle.perf_types.specs.CGroup.{cgroup}
use Rattle.perf_types.specs.Comm.{comm}
use Rattle.perf_types.specs.KSymbol.{ksymbol}
use Rattle.perf_types.specs.Mmap.{mmap}
use Rattle.perf_types.specs.Mmap2.{mmap2}
use Rattle.perf_types.specs.MmapDetail.{inode_is, build_id_is}
use Rattle.perf_types.specs.Namespaces.{namespaces}
use Rattle.perf_types.specs.Read.{read}
use Rattle.perf_types.specs.SwitchCpuWide.{switch_cpu_wide}
use Rattle.perf_types.specs.TextPoke.{text_poke}
use Rattle.perf_types.specs.declared.switch_cpu_wide.SwitchCpuWide.TheVariants.{In, Out}

abbrev lost_body : List ℕ
lost_body = 0x10 ∷ 0 ∷ 0x99 ∷ 0 ∷ 0 ∷ 0 ∷ 0 ∷ 0 ∷ 0 ∷ 0xAF ∷ 0 ∷ 0 ∷ 0 ∷ 0x7B ∷ 0 ∷ 0 ∷ []

lost_of_sixteen_bytes : layout little lost lost_body ≡ Ok (record { id = 0x990010; lost = 0x7B000000AF00 })
lost_of_sixteen_bytes = refl

-- bytes after the last part do not matter
lost_with_more : layout little lost (lost_body ++ 1 ∷ 2 ∷ 3 ∷ []) ≡ Ok (record { id = 0x990010; lost = 0x7B000000AF00 })
lost_with_more = refl

lost_of_eight_bytes : layout little lost (1 ∷ 0 ∷ 0 ∷ 0 ∷ 0 ∷ 0 ∷ 0 ∷ 0 ∷ []) ≡ Err Eof
lost_of_eight_bytes = refl

-- the number, and the read that fails; all bytes are consumed
reads_of_eight_bytes : layout_reads little lost (1 ∷ 0 ∷ 0 ∷ 0 ∷ 0 ∷ 0 ∷ 0 ∷ 0 ∷ []) ≡ 2
reads_of_eight_bytes = refl

consumed_of_nine_bytes : layout_consumed little lost (1 ∷ 0 ∷ 0 ∷ 0 ∷ 0 ∷ 0 ∷ 0 ∷ 0 ∷ 9 ∷ []) ≡ 9
consumed_of_nine_bytes = refl

exit_of_24_bytes : layout little exit (0x10 ∷ 0x10 ∷ 0 ∷ 0 ∷ 0 ∷ 5 ∷ 0 ∷ 0 ∷ 1 ∷ 0 ∷ 0 ∷ 0 ∷ 2 ∷ 0 ∷ 0 ∷ 0 ∷ 3 ∷ 0 ∷ 0 ∷ 0 ∷ 4 ∷ 0 ∷ 0 ∷ 0 ∷ []) ≡
    Ok (record { pid = 4112; ppid = 1280; tid = 1; ptid = 2; time = 17179869187 })
exit_of_24_bytes = refl

exit_of_16_bytes : layout little exit lost_body ≡ Err Eof
exit_of_16_bytes = refl

lost_samples_in_big : layout big lost_samples (0 ∷ 0 ∷ 0 ∷ 0 ∷ 0 ∷ 0 ∷ 0 ∷ 5 ∷ []) ≡ Ok (record { lost = 5 })
lost_samples_in_big = refl

-- ---- numbers below 2 ^ 16 as bytes, the lowest first

abbrev four : (low high : ℕ) → List ℕ
four low high = low ∷ high ∷ 0 ∷ 0 ∷ []

abbrev eight : (low high : ℕ) → List ℕ
eight low high = low ∷ high ∷ 0 ∷ 0 ∷ 0 ∷ 0 ∷ 0 ∷ 0 ∷ []

-- ---- plain numbers

throttle_of_24_bytes : layout little throttle (0x10 ∷ 0x20 ∷ 0x30 ∷ 0x40 ∷ 0x50 ∷ 0x60 ∷ 0x70 ∷ 0x80 ∷ 0x90 ∷ 0xA0 ∷ 0xB0 ∷ 0xC0 ∷ 0xD0 ∷ 0xE0 ∷ 0xF0 ∷ 0 ∷ 0xEF ∷ 0xBE ∷ 0xAD ∷ 0xDE ∷ 0xFE ∷ 0xCA ∷ 0xEF ∷ 0xBE ∷ []) ≡
    Ok (record { time = 0x8070605040302010; id = 0x00F0E0D0C0B0A090; stream_id = 0xBEEFCAFEDEADBEEF })
throttle_of_24_bytes = refl

throttle_of_16_bytes : layout little throttle lost_body ≡ Err Eof
throttle_of_16_bytes = refl

itrace_start_of_8_bytes : layout little itrace_start (four 1 0 ++ four 2 0) ≡ Ok (record { pid = 1; tid = 2 })
itrace_start_of_8_bytes = refl

itrace_start_of_7_bytes : layout little itrace_start (four 1 0 ++ 2 ∷ 0 ∷ 0 ∷ []) ≡ Err Eof
itrace_start_of_7_bytes = refl

aux_with_a_flag_that_has_no_name : layout little aux (eight 0 16 ++ eight 64 0 ++ eight 0x81 0) ≡ Ok (record { aux_offset = 4096; aux_size = 64; flags = 0x81 })
aux_with_a_flag_that_has_no_name = refl

aux_without_flags_is_cut : layout little aux lost_body ≡ Err Eof
aux_without_flags_is_cut = refl

aux_output_hw_id_of_8_bytes : layout little aux_output_hw_id (eight 0x34 0x12) ≡ Ok (record { hw_id = 0x1234 })
aux_output_hw_id_of_8_bytes = refl

aux_output_hw_id_of_no_bytes : layout little aux_output_hw_id [] ≡ Err Eof
aux_output_hw_id_of_no_bytes = refl

bpf_event_of_16_bytes : layout little bpf_event (1 ∷ 0 ∷ 0 ∷ 0 ∷ four 7 0 ++ 1 ∷ 2 ∷ 3 ∷ 4 ∷ 5 ∷ 6 ∷ 7 ∷ 8 ∷ []) ≡
    Ok (record { ty = 1; flags = 0; id = 7; tag = 1 ∷ 2 ∷ 3 ∷ 4 ∷ 5 ∷ 6 ∷ 7 ∷ 8 ∷ [] })
bpf_event_of_16_bytes = refl

bpf_event_with_half_a_tag : layout little bpf_event (1 ∷ 0 ∷ 0 ∷ 0 ∷ four 7 0 ++ 1 ∷ 2 ∷ 3 ∷ 4 ∷ []) ≡ Err Eof
bpf_event_with_half_a_tag = refl

-- ---- which way a switch went

abbrev under_misc : ℕ → Configuration
under_misc misc = record { read_format = 0; sample_type = 0; sample_id_all = false; branch_hw_index = false; misc = misc; regs_user = 0; regs_intr = 0 }

switched_out : layout little (switch_cpu_wide (under_misc 0x2000)) (four 1 0 ++ four 2 0) ≡ Ok (Out 1 2)
switched_out = refl

switched_in : layout little (switch_cpu_wide plain) (four 1 0 ++ four 2 0) ≡ Ok (In 1 2)
switched_in = refl

-- only bit 13 counts
switched_in_under_other_bits : layout little (switch_cpu_wide (under_misc 0xDFFF)) (four 1 0 ++ four 2 0) ≡ Ok (In 1 2)
switched_in_under_other_bits = refl

-- ---- names

comm_without_its_zero_bytes : layout little comm (0x10 ∷ 0x10 ∷ 0 ∷ 0 ∷ 0 ∷ 5 ∷ 0 ∷ 0 ∷ 0x74 ∷ 0x65 ∷ 0x73 ∷ 0x74 ∷ 0 ∷ 0 ∷ 0 ∷ 0 ∷ []) ≡
    Ok (record { pid = 0x1010; tid = 0x500; comm = 0x74 ∷ 0x65 ∷ 0x73 ∷ 0x74 ∷ [] })
comm_without_its_zero_bytes = refl

comm_without_a_name : layout little comm (four 1 0 ++ four 2 0) ≡ Ok (record { pid = 1; tid = 2; comm = [] })
comm_without_a_name = refl

comm_of_six_bytes : layout little comm (four 1 0 ++ 2 ∷ 0 ∷ []) ≡ Err Eof
comm_of_six_bytes = refl

-- a zero byte in the middle stays
cgroup_with_a_zero_byte_inside : layout little cgroup (eight 7 0 ++ 0x2F ∷ 0 ∷ 0x61 ∷ 0 ∷ []) ≡ Ok (record { id = 7; path = 0x2F ∷ 0 ∷ 0x61 ∷ [] })
cgroup_with_a_zero_byte_inside = refl

cgroup_of_four_bytes : layout little cgroup (four 7 0) ≡ Err Eof
cgroup_of_four_bytes = refl

ksymbol_of_24_bytes : layout little ksymbol (eight 0 16 ++ four 64 0 ++ 1 ∷ 0 ∷ 1 ∷ 0 ∷ 0x62 ∷ 0x70 ∷ 0x66 ∷ 0 ∷ 0 ∷ 0 ∷ 0 ∷ 0 ∷ []) ≡
    Ok (record { addr = 4096; len = 64; ksym_type = 1; flags = 1; name = 0x62 ∷ 0x70 ∷ 0x66 ∷ [] })
ksymbol_of_24_bytes = refl

ksymbol_without_flags : layout little ksymbol (eight 0 16 ++ four 64 0 ++ 1 ∷ 0 ∷ []) ≡ Err Eof
ksymbol_without_flags = refl

-- ---- mappings

mmap_of_40_bytes : layout little mmap (0x0A ∷ 0x64 ∷ 0 ∷ 0 ∷ 0x0B ∷ 0x64 ∷ 0 ∷ 0 ∷ 0 ∷ 0xA0 ∷ 0x76 ∷ 0x81 ∷ 0xBD ∷ 0x7F ∷ 0 ∷ 0 ∷ eight 0 16 ++ 0 ∷ 0xA0 ∷ 0x76 ∷ 0x81 ∷ 0xBD ∷ 0x7F ∷ 0 ∷ 0 ∷ 0x2F ∷ 0x2F ∷ 0x61 ∷ 0x6E ∷ 0x6F ∷ 0x6E ∷ 0 ∷ 0 ∷ []) ≡
    Ok (record { pid = 25610; tid = 25611; addr = 0x7FBD8176A000; len = 4096; pgoff = 0x7FBD8176A000; filename = 0x2F ∷ 0x2F ∷ 0x61 ∷ 0x6E ∷ 0x6F ∷ 0x6E ∷ [] })
mmap_of_40_bytes = refl

mmap_of_another_process : layout little mmap (0x16 ∷ 0x4C ∷ 1 ∷ 0 ∷ 0x17 ∷ 0x4C ∷ 1 ∷ 0 ∷ 0 ∷ 0xA0 ∷ 0x48 ∷ 0x96 ∷ 0x4F ∷ 0x7F ∷ 0 ∷ 0 ∷ eight 0 16 ++ 0 ∷ 0xA0 ∷ 0x48 ∷ 0x96 ∷ 0x4F ∷ 0x7F ∷ 0 ∷ 0 ∷ 0x2F ∷ 0x2F ∷ 0x61 ∷ 0x6E ∷ 0x6F ∷ 0x6E ∷ 0 ∷ 0 ∷ []) ≡
    Ok (record { pid = 85014; tid = 85015; addr = 139979800485888; len = 4096; pgoff = 139979800485888; filename = 0x2F ∷ 0x2F ∷ 0x61 ∷ 0x6E ∷ 0x6F ∷ 0x6E ∷ [] })
mmap_of_another_process = refl

mmap_of_16_bytes : layout little mmap lost_body ≡ Err Eof
mmap_of_16_bytes = refl

-- the fields before a detail, and those after it
abbrev in_front : List ℕ
in_front = four 1 0 ++ four 2 0 ++ eight 0 16 ++ eight 0 32 ++ eight 0 0

abbrev after : List ℕ
after = four 5 0 ++ four 2 0 ++ 0x61 ∷ 0x62 ∷ 0 ∷ 0 ∷ 0 ∷ 0 ∷ 0 ∷ 0 ∷ []

-- twenty bytes, 1 to 20
abbrev twenty : List ℕ
twenty = 1 ∷ 2 ∷ 3 ∷ 4 ∷ 5 ∷ 6 ∷ 7 ∷ 8 ∷ 9 ∷ 10 ∷ 11 ∷ 12 ∷ 13 ∷ 14 ∷ 15 ∷ 16 ∷ 17 ∷ 18 ∷ 19 ∷ 20 ∷ []

mmap2_with_an_inode : layout little (mmap2 plain) (in_front ++ four 8 0 ++ four 1 0 ++ eight 99 0 ++ eight 3 0 ++ after) ≡
    Ok (record { pid = 1; tid = 2; addr = 4096; len = 8192; pgoff = 0; detail = inode_is 8 1 99 3; prot = 5; flags = 2; filename = 0x61 ∷ 0x62 ∷ [] })
mmap2_with_an_inode = refl

mmap2_with_a_build_id : layout little (mmap2 (under_misc 0x4000)) (in_front ++ 20 ∷ 0 ∷ 0 ∷ 0 ∷ twenty ++ after) ≡
    Ok (record { pid = 1; tid = 2; addr = 4096; len = 8192; pgoff = 0; detail = build_id_is twenty; prot = 5; flags = 2; filename = 0x61 ∷ 0x62 ∷ [] })
mmap2_with_a_build_id = refl

-- the three bytes after the length have no meaning, nor have those after the build id
mmap2_with_a_build_id_of_two_bytes : layout little (mmap2 (under_misc 0x4000)) (in_front ++ 2 ∷ 7 ∷ 8 ∷ 9 ∷ twenty ++ after) ≡
    Ok (record { pid = 1; tid = 2; addr = 4096; len = 8192; pgoff = 0; detail = build_id_is (1 ∷ 2 ∷ []); prot = 5; flags = 2; filename = 0x61 ∷ 0x62 ∷ [] })
mmap2_with_a_build_id_of_two_bytes = refl

-- a length of 21 is refused once all 24 bytes are present, even if nothing follows them
mmap2_with_a_build_id_too_long : layout little (mmap2 (under_misc 0x4000)) (in_front ++ 21 ∷ 0 ∷ 0 ∷ 0 ∷ twenty) ≡ Err InvalidRecord
mmap2_with_a_build_id_too_long = refl

mmap2_with_three_bytes_of_a_build_id : layout little (mmap2 (under_misc 0x4000)) (in_front ++ 21 ∷ 0 ∷ 0 ∷ []) ≡ Err Eof
mmap2_with_three_bytes_of_a_build_id = refl

-- ---- lists

namespaces_of_two : layout little namespaces (four 1 0 ++ four 2 0 ++ eight 2 0 ++ eight 3 0 ++ eight 4 0 ++ eight 5 0 ++ eight 6 0) ≡
    Ok (record { pid = 1; tid = 2; namespaces = record { dev = 3; inode = 4 } ∷ record { dev = 5; inode = 6 } ∷ [] })
namespaces_of_two = refl

namespaces_of_none : layout little namespaces (four 1 0 ++ four 2 0 ++ eight 0 0) ≡ Ok (record { pid = 1; tid = 2; namespaces = [] })
namespaces_of_none = refl

namespaces_of_one_and_a_half : layout little namespaces (four 1 0 ++ four 2 0 ++ eight 2 0 ++ eight 3 0 ++ eight 4 0 ++ eight 5 0) ≡ Err Eof
namespaces_of_one_and_a_half = refl

-- a count beyond any number of bytes
namespaces_of_too_many : layout little namespaces (four 1 0 ++ four 2 0 ++ 0 ∷ 0 ∷ 0 ∷ 0 ∷ 0 ∷ 0 ∷ 0 ∷ 0x80 ∷ []) ≡ Err Eof
namespaces_of_too_many = refl

-- ---- code that was changed

text_poke_of_five_bytes : layout little text_poke (eight 16 0 ++ 3 ∷ 0 ∷ 2 ∷ 0 ∷ 0xA1 ∷ 0xA2 ∷ 0xA3 ∷ 0xB1 ∷ 0xB2 ∷ 0 ∷ 0 ∷ 0 ∷ 0 ∷ 0 ∷ 0 ∷ 0 ∷ []) ≡
    Ok (record { addr = 16; old_bytes = 0xA1 ∷ 0xA2 ∷ 0xA3 ∷ []; new_bytes = 0xB1 ∷ 0xB2 ∷ [] })
text_poke_of_five_bytes = refl

text_poke_of_one_byte : layout little text_poke (eight 16 0 ++ 0 ∷ 0 ∷ 1 ∷ 0 ∷ 0xAA ∷ 0 ∷ 0 ∷ 0 ∷ []) ≡ Ok (record { addr = 16; old_bytes = []; new_bytes = 0xAA ∷ [] })
text_poke_of_one_byte = refl

text_poke_of_one_and_one : layout little text_poke (eight 16 0 ++ 1 ∷ 0 ∷ 1 ∷ 0 ∷ 0xAA ∷ 0xBB ∷ 0 ∷ 0 ∷ []) ≡ Ok (record { addr = 16; old_bytes = 0xAA ∷ []; new_bytes = 0xBB ∷ [] })
text_poke_of_one_and_one = refl

-- the bytes after both strings must be present
text_poke_with_three_bytes : layout little text_poke (eight 16 0 ++ 1 ∷ 0 ∷ 1 ∷ 0 ∷ 0xAA ∷ 0xBB ∷ 0 ∷ []) ≡ Err Eof
text_poke_with_three_bytes = refl

-- ---- reads of counters

abbrev reading : (read_format : ℕ) → Configuration
reading read_format = record { read_format = read_format; sample_type = 0; sample_id_all = false; branch_hw_index = false; misc = 0; regs_user = 0; regs_intr = 0 }

read_of_all_numbers : layout little (read (reading 0x17)) (four 1 0 ++ four 2 0 ++ eight 3 0 ++ eight 4 0 ++ eight 5 0 ++ eight 6 0 ++ eight 7 0) ≡
    Ok (record { pid = 1; tid = 2; values = record { value = 3; time_enabled = Some 4; time_running = Some 5; id = Some 6; lost = Some 7 } })
read_of_all_numbers = refl

read_in_big : layout big (read (reading 4)) (0 ∷ 0 ∷ 0 ∷ 1 ∷ 0 ∷ 0 ∷ 0 ∷ 2 ∷ 0 ∷ 0 ∷ 0 ∷ 0 ∷ 0 ∷ 0 ∷ 0 ∷ 3 ∷ 0 ∷ 0 ∷ 0 ∷ 0 ∷ 0 ∷ 0 ∷ 1 ∷ 0 ∷ []) ≡
    Ok (record { pid = 1; tid = 2; values = record { value = 3; time_enabled = None; time_running = None; id = Some 256; lost = None } })
read_in_big = refl

-- a missing number
read_of_four_numbers : layout little (read (reading 0x17)) (four 1 0 ++ four 2 0 ++ eight 3 0 ++ eight 4 0 ++ eight 5 0 ++ eight 6 0) ≡ Err Eof
read_of_four_numbers = refl

-- a read format that is refused is found after the process and its thread, and the value is not
-- read
read_of_a_group : layout little (read (reading 8)) (four 1 0 ++ four 2 0 ++ eight 3 0) ≡ Err UnsupportedConfig
read_of_a_group = refl

read_of_what_is_not_known : layout little (read (reading 0x21)) (four 1 0 ++ four 2 0) ≡ Err UnsupportedConfig
read_of_what_is_not_known = refl

reads_of_what_is_not_known : layout_reads little (read (reading 0x21)) (four 1 0 ++ four 2 0 ++ eight 3 0) ≡ 2
reads_of_what_is_not_known = refl

consumed_of_what_is_not_known : layout_consumed little (read (reading 0x21)) (four 1 0 ++ four 2 0 ++ eight 3 0) ≡ 8
consumed_of_what_is_not_known = refl

read_of_seven_bytes : layout little (read (reading 0x21)) (four 1 0 ++ 2 ∷ 0 ∷ 0 ∷ []) ≡ Err Eof
read_of_seven_bytes = refl

-- bit 6 of an attribute's read format
read_of_bit_six : layout little (read (reading (kept_read_format 0x41))) (four 1 0 ++ four 2 0 ++ eight 3 0) ≡ Err UnsupportedConfig
read_of_bit_six = refl

seven_bytes_of_bit_six : layout little (read (reading (kept_read_format 0x41))) (four 1 0 ++ 2 ∷ 0 ∷ 0 ∷ []) ≡ Err Eof
seven_bytes_of_bit_six = refl
