-- Sample ids, computed: a wrong flag, order or width is refused here.
use Rattle.std.proofs.Common.{◌≡◌, ℕ, true, false, List, [], ◌∷◌, ◌++◌, Some, None, Ok, Err, refl}
use Rattle.perf_base.specs.Configuration.{Configuration, plain}
use Rattle.perf_base.specs.Order.{little}
use Rattle.perf_base.specs.Layout.{layout}
use Rattle.perf_base.specs.declared.error.ErrorKind.TheVariants.{Eof}
use Rattle.perf_sample_types.specs.SampleId.{sample_id, sample_id_length, no_sample_id}

-- two bytes and zeros above them, four in all or eight
abbrev four : (low high : ℕ) → List ℕ
four low high = low ∷ high ∷ 0 ∷ 0 ∷ []

abbrev eight : (low high : ℕ) → List ℕ
eight low high = low ∷ high ∷ 0 ∷ 0 ∷ 0 ∷ 0 ∷ 0 ∷ 0 ∷ []

abbrev with_ids : ℕ → Configuration
with_ids sample_type = record { read_format = 0; sample_type = sample_type; sample_id_all = true; branch_hw_index = false; misc = 0; regs_user = 0; regs_intr = 0 }

sample_id_of_task_and_time : layout little (sample_id (with_ids 6)) (four 3 0 ++ four 4 0 ++ eight 5 0) ≡
    Ok (record { pid = Some 3; tid = Some 4; time = Some 5; id = None; stream_id = None; cpu = None })
sample_id_of_task_and_time = refl

-- of two ids the first counts
sample_id_with_two_ids : layout little (sample_id (with_ids 0x10040)) (eight 7 0 ++ eight 9 0) ≡
    Ok (record { pid = None; tid = None; time = None; id = Some 7; stream_id = None; cpu = None })
sample_id_with_two_ids = refl

sample_id_with_an_identifier : layout little (sample_id (with_ids 0x10000)) (eight 9 0) ≡
    Ok (record { pid = None; tid = None; time = None; id = Some 9; stream_id = None; cpu = None })
sample_id_with_an_identifier = refl

-- all six flags, among others that have no field here
sample_id_of_all_fields : layout little (sample_id (with_ids 0x1FFFFFF)) (four 1 0 ++ four 2 0 ++ eight 3 0 ++ eight 4 0 ++ eight 5 0 ++ four 6 0 ++ four 99 0 ++ eight 7 0) ≡
    Ok (record { pid = Some 1; tid = Some 2; time = Some 3; id = Some 4; stream_id = Some 5; cpu = Some 6 })
sample_id_of_all_fields = refl

-- the four bytes after the processor must be present
sample_id_with_half_a_cpu : layout little (sample_id (with_ids 0x80)) (four 6 0) ≡ Err Eof
sample_id_with_half_a_cpu = refl

sample_id_without_sample_id_all : layout little (sample_id plain) (four 3 0) ≡ Ok no_sample_id
sample_id_without_sample_id_all = refl

sample_id_of_48_bytes : sample_id_length (with_ids 0x1FFFFFF) ≡ 48
sample_id_of_48_bytes = refl

sample_id_of_16_bytes : sample_id_length (with_ids 6) ≡ 16
sample_id_of_16_bytes = refl

sample_id_of_no_bytes : sample_id_length plain ≡ 0
sample_id_of_no_bytes = refl
