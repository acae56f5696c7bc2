-- The laws of a SAMPLE, computed: fields inserted and cut out by hand.
use Rattle.std.proofs.Common.{◌≡◌, ℕ, zero, suc, false, List, [], ◌∷◌, ◌++◌, map, Some, None, Ok, refl}
use Rattle.perf_base.specs.Configuration.{Configuration}
use Rattle.perf_base.specs.Layout.{layout}
use Rattle.perf_base.specs.Order.{little, big}
use Rattle.perf_base.specs.Splice.{Spells}
use Rattle.perf_sample_types.specs.Sample.{number_is, task_is, bytes_are, SampleValue, sample}
use Rattle.perf_sample_types.specs.SampleGetters.{getters_of}
use Rattle.perf_sample_types.specs.SampleLaws.{flags_of, row_parts, is_there, with_flag, without_field, splice_field, without_bytes}

-- ---- the fields by their numbers

-- IDENTIFIER, IP, TID, TIME, ADDR, ID, and so on, in the order given in the doc of the functions
flags_by_number : map flags_of (0 ∷ 1 ∷ 2 ∷ 3 ∷ 4 ∷ 5 ∷ 6 ∷ 7 ∷ 8 ∷ 9 ∷ 10 ∷ 11 ∷ 12 ∷ 13 ∷ 14 ∷ 15 ∷ 16 ∷ 17 ∷ 18 ∷ 19 ∷ 20 ∷ 21 ∷ 22 ∷ 23 ∷ []) ≡
    (16 ∷ []) ∷ (0 ∷ []) ∷ (1 ∷ []) ∷ (2 ∷ []) ∷ (3 ∷ []) ∷ (6 ∷ []) ∷ (9 ∷ []) ∷ (7 ∷ []) ∷ (8 ∷ []) ∷ (4 ∷ []) ∷ (5 ∷ []) ∷ (10 ∷ []) ∷
    (11 ∷ []) ∷ (12 ∷ []) ∷ (13 ∷ []) ∷ (14 ∷ 24 ∷ []) ∷ (15 ∷ []) ∷ (17 ∷ []) ∷ (18 ∷ []) ∷ (19 ∷ []) ∷ (21 ∷ []) ∷ (22 ∷ []) ∷ (23 ∷ []) ∷ (20 ∷ []) ∷ []
flags_by_number = refl

no_other_field : flags_of 24 ≡ []
no_other_field = refl

-- ---- a sample with IP, TID and ID

abbrev of_type : ℕ → Configuration
of_type t = record { read_format = 0; sample_type = t; sample_id_all = false; branch_hw_index = false; misc = 0; regs_user = 0; regs_intr = 0 }

-- bits 0, 1 and 6
abbrev three : Configuration
three = of_type 0x43

abbrev ip : List ℕ
ip = 0x10 ∷ 0x20 ∷ 0 ∷ 0 ∷ 0 ∷ 0 ∷ 0 ∷ 0 ∷ []

abbrev tid : List ℕ
tid = 1 ∷ 0 ∷ 0 ∷ 0 ∷ 2 ∷ 0 ∷ 0 ∷ 0 ∷ []

abbrev id : List ℕ
id = 9 ∷ 0 ∷ 0 ∷ 0 ∷ 0 ∷ 0 ∷ 0 ∷ 0 ∷ []

abbrev of_three : List ℕ
of_three = ip ++ tid ++ id

-- absent fields
abbrev absent : ℕ → SampleValue
absent zero = []
absent (suc n) = None ∷ absent n

said_by_three : layout little (sample three) of_three ≡
    Ok (None ∷ Some (number_is 0x2010) ∷ Some (task_is (Some 1) (Some 2)) ∷ None ∷ None ∷ Some (number_is 9) ∷ absent 18)
unfolding sample
said_by_three = refl

-- ---- TIME inserted between TID and ID

abbrev time : List ℕ
time = 7 ∷ 0 ∷ 0 ∷ 0 ∷ 0 ∷ 0 ∷ 1 ∷ 0 ∷ []

time_is_spelled : Spells little (row_parts three 3) time
time_is_spelled = record { stand = refl; whole = refl }

time_is_absent : is_there three 3 ≡ false
time_is_absent = refl

time_is_bit_2 : with_flag three 2 ≡ of_type 0x47
time_is_bit_2 = refl

time_is_put_in : splice_field three little of_three 3 time ≡ ip ++ tid ++ time ++ id
time_is_put_in = refl

said_with_time : layout little (sample (with_flag three 2)) (splice_field three little of_three 3 time) ≡
    Ok (None ∷ Some (number_is 0x2010) ∷ Some (task_is (Some 1) (Some 2)) ∷ Some (number_is 0x1000000000007) ∷ None ∷ Some (number_is 9) ∷ absent 18)
unfolding sample
said_with_time = refl

-- the getters return the same except for the time
calls_with_time : (before after : SampleValue) → layout little (sample three) of_three ≡ Ok before →
    layout little (sample (with_flag three 2)) (splice_field three little of_three 3 time) ≡ Ok after →
    getters_of after ≡ record (getters_of before) { time = Some 0x1000000000007 }
unfolding sample
calls_with_time before after e f =
    let was : before ≡ None ∷ Some (number_is 0x2010) ∷ Some (task_is (Some 1) (Some 2)) ∷ None ∷ None ∷ Some (number_is 9) ∷ absent 18 = cc in
    let is : after ≡ None ∷ Some (number_is 0x2010) ∷ Some (task_is (Some 1) (Some 2)) ∷ Some (number_is 0x1000000000007) ∷ None ∷ Some (number_is 9) ∷ absent 18 = cc in
    rw (was, is) refl

said_with_time_in_big : layout big (sample (with_flag three 2)) (splice_field three big of_three 3 time) ≡
    Ok (None ∷ Some (number_is 0x1020000000000000) ∷ Some (task_is (Some 0x1000000) (Some 0x2000000)) ∷ Some (number_is 0x700000000000100) ∷ None ∷ Some (number_is 0x900000000000000) ∷ absent 18)
unfolding sample
said_with_time_in_big = refl

-- TIME cut out again
time_is_cut_out : without_bytes (of_type 0x47) little (ip ++ tid ++ time ++ id) 3 ≡ of_three
time_is_cut_out = refl

time_was_bit_2 : without_field (of_type 0x47) 3 ≡ three
time_was_bit_2 = refl

-- with the flag of the next field, ADDR, its bytes are that field's
said_by_bit_3 : layout little (sample (with_flag three 3)) (splice_field three little of_three 3 time) ≡
    Ok (None ∷ Some (number_is 0x2010) ∷ Some (task_is (Some 1) (Some 2)) ∷ None ∷ Some (number_is 0x1000000000007) ∷ Some (number_is 9) ∷ absent 18)
unfolding sample
said_by_bit_3 = refl

-- ---- RAW inserted after ID, with its padding

abbrev raw : List ℕ
raw = 2 ∷ 0 ∷ 0 ∷ 0 ∷ 0xAA ∷ 0xBB ∷ 0 ∷ 0 ∷ []

raw_is_spelled : Spells little (row_parts three 11) raw
raw_is_spelled = record { stand = refl; whole = refl }

raw_is_put_in : splice_field three little of_three 11 raw ≡ ip ++ tid ++ id ++ raw
raw_is_put_in = refl

said_with_raw : layout little (sample (with_flag three 10)) (splice_field three little of_three 11 raw) ≡
    Ok (None ∷ Some (number_is 0x2010) ∷ Some (task_is (Some 1) (Some 2)) ∷ None ∷ None ∷ Some (number_is 9) ∷ None ∷ None ∷ None ∷ None ∷ None ∷ Some (bytes_are (0xAA ∷ 0xBB ∷ [])) ∷ absent 12)
unfolding sample
said_with_raw = refl

-- ---- WEIGHT, by either of its flags

abbrev weight : List ℕ
weight = 0x44 ∷ 0x33 ∷ 0x22 ∷ 0x11 ∷ 0x66 ∷ 0x55 ∷ 0x88 ∷ 0x77 ∷ []

abbrev said_with_weight : SampleValue
said_with_weight =
    None ∷ Some (number_is 0x2010) ∷ Some (task_is (Some 1) (Some 2)) ∷ None ∷ None ∷ Some (number_is 9) ∷ absent 9 ++ Some (number_is 0x7788556611223344) ∷ absent 8

said_by_bit_14 : layout little (sample (with_flag three 14)) (splice_field three little of_three 15 weight) ≡ Ok said_with_weight
unfolding sample
said_by_bit_14 = refl

said_by_bit_24 : layout little (sample (with_flag three 24)) (splice_field three little of_three 15 weight) ≡ Ok said_with_weight
unfolding sample
said_by_bit_24 = refl

-- both flags are removed with the field
both_flags_go : without_field (of_type 0x1004043) 15 ≡ three
both_flags_go = refl

-- ---- TID cut out

tid_is_cut_out : without_bytes three little of_three 2 ≡ ip ++ id
tid_is_cut_out = refl

tid_was_bit_1 : without_field three 2 ≡ of_type 0x41
tid_was_bit_1 = refl

said_without_tid : layout little (sample (without_field three 2)) (without_bytes three little of_three 2) ≡
    Ok (None ∷ Some (number_is 0x2010) ∷ None ∷ None ∷ None ∷ Some (number_is 9) ∷ absent 18)
unfolding sample
said_without_tid = refl

-- if its bytes are left, ID gets them
said_with_tid_left : layout little (sample (without_field three 2)) of_three ≡
    Ok (None ∷ Some (number_is 0x2010) ∷ None ∷ None ∷ None ∷ Some (number_is 0x200000001) ∷ absent 18)
unfolding sample
said_with_tid_left = refl

-- ---- the id: that of ID, or else of IDENTIFIER

abbrev identifier : List ℕ
identifier = 5 ∷ 0 ∷ 0 ∷ 0 ∷ 0 ∷ 0 ∷ 0 ∷ 0 ∷ []

identifier_is_put_in : splice_field three little of_three 0 identifier ≡ identifier ++ ip ++ tid ++ id
identifier_is_put_in = refl

abbrev said_with_both : SampleValue
said_with_both = Some (number_is 5) ∷ Some (number_is 0x2010) ∷ Some (task_is (Some 1) (Some 2)) ∷ None ∷ None ∷ Some (number_is 9) ∷ absent 18

said_by_both : layout little (sample (with_flag three 16)) (splice_field three little of_three 0 identifier) ≡ Ok said_with_both
unfolding sample
said_by_both = refl

id_stays : (getters_of said_with_both).id ≡ Some 9
id_stays = refl

id_is_cut_out : without_bytes (of_type 0x10043) little (identifier ++ ip ++ tid ++ id) 5 ≡ identifier ++ ip ++ tid
id_is_cut_out = refl

abbrev said_with_identifier : SampleValue
said_with_identifier = Some (number_is 5) ∷ Some (number_is 0x2010) ∷ Some (task_is (Some 1) (Some 2)) ∷ absent 21

said_by_identifier : layout little (sample (without_field (of_type 0x10043) 5)) (without_bytes (of_type 0x10043) little (identifier ++ ip ++ tid ++ id) 5) ≡ Ok said_with_identifier
unfolding sample
said_by_identifier = refl

id_is_the_identifier : (getters_of said_with_identifier).id ≡ Some 5
id_is_the_identifier = refl
