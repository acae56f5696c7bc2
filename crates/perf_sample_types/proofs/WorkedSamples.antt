-- Samples, computed: a wrong order, width, flag or padding of a field is refused here.
use Rattle.std.proofs.Common.{◌≡◌, ℕ, ◌+◌, ◌^◌, true, false, List, [], ◌∷◌, ◌++◌, Some, None, Ok, Err, set, replicate, refl}
use Rattle.std.specs.Int.Count.{ones}
use Rattle.perf_base.specs.Configuration.{Configuration, plain}
use Rattle.perf_base.specs.Order.{little, big}
use Rattle.perf_base.specs.Layout.{layout}
use Rattle.perf_base.specs.LayoutReads.{layout_reads}
use Rattle.perf_base.specs.declared.error.ErrorKind.TheVariants.{Eof, InvalidRecord, UnsupportedConfig}
use Rattle.perf_sample_types.specs.Sample.{sample, values, branch_stack, registers, SampleValue, FieldValue, number_is, task_is, group_is, numbers_are, bytes_are, branches_are, registers_are}
use Rattle.perf_sample_types.specs.SampleGetters.{id_of}

-- a sample type, and nothing else
abbrev typed : ℕ → Configuration
typed sample_type = record plain { sample_type = sample_type }

abbrev none : SampleValue
none = replicate 24 None

-- field i alone
abbrev only : ℕ → FieldValue → SampleValue
only i v = set none i (Some v)

-- numbers below 2 ^ 8 as bytes, the lowest first
abbrev two : ℕ → List ℕ
two n = n ∷ 0 ∷ []

abbrev four : ℕ → List ℕ
four n = n ∷ 0 ∷ 0 ∷ 0 ∷ []

abbrev eight : ℕ → List ℕ
eight n = n ∷ 0 ∷ 0 ∷ 0 ∷ 0 ∷ 0 ∷ 0 ∷ 0 ∷ []

-- the greatest number of eight bytes
abbrev most : List ℕ
most = replicate 8 255

no_fields : layout little (sample (typed 0)) [] ≡ Ok none
unfolding sample
no_fields = refl

-- ---- the order of all plain fields, each at its place in the kernel's order
abbrev plain_flags : ℕ
plain_flags =
    2 ^ 16 + 2 ^ 0 + 2 ^ 1 + 2 ^ 2 + 2 ^ 3 + 2 ^ 6 + 2 ^ 9 + 2 ^ 7 + 2 ^ 8 + 2 ^ 14 + 2 ^ 15 + 2 ^ 17 + 2 ^ 19 + 2 ^ 21 + 2 ^ 22
    + 2 ^ 23

abbrev plain_body : List ℕ
plain_body =
    eight 1 ++ eight 2 ++ four 3 ++ four 4 ++ eight 5 ++ eight 6 ++ eight 7 ++ eight 8 ++ four 9 ++ four 77 ++ eight 10 ++ eight 11
    ++ eight 12 ++ eight 13 ++ eight 14 ++ eight 15 ++ eight 16 ++ eight 17

order_of_plain_fields : layout little (sample (typed plain_flags)) plain_body ≡
    Ok (
    Some (number_is 1) ∷
    Some (number_is 2) ∷
    Some (task_is (Some 3) (Some 4)) ∷
    Some (number_is 5) ∷
    Some (number_is 6) ∷
    Some (number_is 7) ∷
    Some (number_is 8) ∷
    Some (number_is 9) ∷
    Some (number_is 10) ∷
    None ∷
    None ∷
    None ∷
    None ∷
    None ∷
    None ∷
    Some (number_is 11) ∷
    Some (number_is 12) ∷
    Some (number_is 13) ∷
    None ∷
    Some (number_is 14) ∷
    Some (number_is 15) ∷
    Some (number_is 16) ∷
    Some (number_is 17) ∷
    None ∷
    []
    )
unfolding sample
order_of_plain_fields = refl

-- a read for each number, and one for the four bytes after the processor
reads_of_plain_fields : layout_reads little (sample (typed plain_flags)) plain_body ≡ 18
unfolding sample
reads_of_plain_fields = refl

-- flags above bit 24 have no bytes
flags_without_bytes : layout little (sample (typed (2 ^ 25 + 2 ^ 39))) [] ≡ Ok none
unfolding sample
flags_without_bytes = refl

-- ---- weight
weight : layout little (sample (typed (2 ^ 14))) (eight 5) ≡ Ok (only 15 (number_is 5))
unfolding sample
weight = refl

weight_in_members : layout little (sample (typed (2 ^ 24))) (eight 5) ≡ Ok (only 15 (number_is 5))
unfolding sample
weight_in_members = refl

weight_by_both : layout little (sample (typed (2 ^ 14 + 2 ^ 24))) (eight 5) ≡ Ok (only 15 (number_is 5))
unfolding sample
weight_by_both = refl

-- ---- raw bytes: the four of the length count in the padding
raw_of_two : layout little (sample (typed (2 ^ 10))) (four 2 ++ 0xAA ∷ 0xBB ∷ 0 ∷ 0 ∷ []) ≡ Ok (only 11 (bytes_are (0xAA ∷ 0xBB ∷ [])))
unfolding sample
raw_of_two = refl

raw_without_its_padding : layout little (sample (typed (2 ^ 10))) (four 2 ++ 0xAA ∷ 0xBB ∷ []) ≡ Err Eof
unfolding sample
raw_without_its_padding = refl

raw_of_none : layout little (sample (typed (2 ^ 10 + 2 ^ 20))) (four 0 ++ four 0 ++ eight 1 ++ 9 ∷ []) ≡
    Ok (set (only 11 (bytes_are [])) 23 (Some (bytes_are (9 ∷ []))))
unfolding sample
raw_of_none = refl

raw_of_five : layout little (sample (typed (2 ^ 10 + 2 ^ 19))) (four 5 ++ replicate 5 7 ++ replicate 7 0 ++ eight 3) ≡
    Ok (set (only 11 (bytes_are (replicate 5 7))) 19 (Some (number_is 3)))
unfolding sample
raw_of_five = refl

-- ---- lists
call_chain_of_two : layout big (sample (typed (2 ^ 5))) (replicate 7 0 ++ 2 ∷ replicate 7 0 ++ 8 ∷ replicate 7 0 ++ 9 ∷ []) ≡ Ok (only 10 (numbers_are (8 ∷ 9 ∷ [])))
unfolding sample
call_chain_of_two = refl

-- a claimed count does not make it read on: the count, one number, and one that fails
call_chain_of_too_many : layout little (sample (typed (2 ^ 5))) (most ++ eight 1) ≡ Err Eof
unfolding sample
call_chain_of_too_many = refl

reads_of_too_many : layout_reads little (sample (typed (2 ^ 5))) (most ++ eight 1) ≡ 3
unfolding sample
reads_of_too_many = refl

branch_of_three_words : layout little (sample (typed (2 ^ 11))) (eight 1 ++ eight 1 ++ eight 2 ++ 0x51 ∷ 0 ∷ 0x60 ∷ replicate 5 0) ≡
    Ok (only 12 (branches_are None (Some (record { from = 1; to = 2; word = 0x600051 } ∷ []))))
unfolding sample branch_stack
branch_of_three_words = refl

-- the hardware's index is read even without branches
index_of_no_branches : layout little (sample (record (typed (2 ^ 11)) { branch_hw_index = true })) (eight 0 ++ eight 6) ≡ Ok (only 12 (branches_are (Some 6) (Some [])))
unfolding sample branch_stack
index_of_no_branches = refl

-- ---- registers
registers_of_three : layout little (sample (record (typed (2 ^ 12)) { regs_user = 0x15 })) (eight 2 ++ eight 7 ++ eight 8 ++ eight 9) ≡
    Ok (only 13 (registers_are (record { abi = 2; mask = 0x15; regs = 7 ∷ 8 ∷ 9 ∷ [] })))
unfolding sample registers ones
registers_of_three = refl

-- there are none without an abi
registers_of_none : layout little (sample (record (typed (2 ^ 18)) { regs_user = 0x15; regs_intr = 3 })) (eight 0 ++ eight 7) ≡
    Ok (only 18 (registers_are (record { abi = 0; mask = 3; regs = [] })))
unfolding sample registers
registers_of_none = refl

-- ---- the stack
stack_of_three_used : layout little (sample (typed (2 ^ 13))) (eight 8 ++ (1 ∷ 2 ∷ 3 ∷ 4 ∷ 5 ∷ 6 ∷ 7 ∷ 8 ∷ []) ++ eight 3) ≡ Ok (only 14 (bytes_are (1 ∷ 2 ∷ 3 ∷ [])))
unfolding sample
stack_of_three_used = refl

stack_of_too_many_used : layout little (sample (typed (2 ^ 13))) (eight 8 ++ (1 ∷ 2 ∷ 3 ∷ 4 ∷ 5 ∷ 6 ∷ 7 ∷ 8 ∷ []) ++ eight 9) ≡ Err InvalidRecord
unfolding sample
stack_of_too_many_used = refl

-- an empty one has no used size
stack_of_none : layout little (sample (typed (2 ^ 13 + 2 ^ 14))) (eight 0 ++ eight 4) ≡ Ok (set (only 14 (bytes_are [])) 15 (Some (number_is 4)))
unfolding sample
stack_of_none = refl

-- ---- reads of counters
group_of_two : layout little (sample (record (typed (2 ^ 4)) { read_format = 0x0C })) (eight 2 ++ eight 10 ++ eight 1 ++ eight 20 ++ eight 2) ≡
    Ok (only 9 (group_is (record {
      time_enabled = None;
      time_running = None;
      with_id = true;
      with_lost = false;
      entries = record { value = 10; id = Some 1; lost = None } ∷ record { value = 20; id = Some 2; lost = None } ∷ [];
    })))
unfolding sample values
group_of_two = refl

one_counter : layout little (sample (record (typed (2 ^ 4)) { read_format = 0x05 })) (eight 10 ++ eight 3 ++ eight 1) ≡
    Ok (only 9 (group_is (record { time_enabled = Some 3; time_running = None; with_id = true; with_lost = false; entries = record { value = 10; id = Some 1; lost = None } ∷ [] })))
unfolding sample values
one_counter = refl

unknown_read_format : layout little (sample (record (typed (2 ^ 4)) { read_format = 0x20 })) (eight 10) ≡ Err UnsupportedConfig
unfolding sample values
unknown_read_format = refl

-- ---- the id: that of ID, or else of IDENTIFIER
id_before_identifier : id_of (Some (number_is 9) ∷ None ∷ None ∷ None ∷ None ∷ Some (number_is 7) ∷ []) ≡ Some 7
id_before_identifier = refl

identifier_alone : id_of (only 0 (number_is 9)) ≡ Some 9
identifier_alone = refl
