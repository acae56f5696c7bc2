-- Layouts of attributes, names and packed words, computed.
use Rattle.std.proofs.Common.{◌≡◌, ℕ, zero, suc, ◌+◌, ◌-◌, ◌*◌, ◌^◌, List, [], ◌∷◌, ◌++◌, Ok, Err, refl, true, false}
use Rattle.perf_base.specs.Order.{little}
use Rattle.perf_base.specs.Layout.{layout, ending, map_parts}
use Rattle.perf_base.specs.Attribute.{attribute}
use Rattle.perf_base.specs.Configuration.{unpack, kept_read_format}
use Rattle.perf_base.specs.Zeros.{trim_zeros}
use Rattle.perf_base.specs.declared.error.ErrorKind.TheVariants.{Eof, InvalidRecord, UnsupportedData}

abbrev zeros : ℕ → List ℕ
zeros zero = []
zeros (suc n) = 0 ∷ zeros n

-- the start of an attribute: the type 0, and a size below 256
abbrev sized : ℕ → List ℕ
sized n = 0 ∷ 0 ∷ 0 ∷ 0 ∷ n ∷ 0 ∷ 0 ∷ 0 ∷ []

-- ---- attributes

sixty_four_bytes : layout little (map_parts (λ a. a.size ∷ a.config3 ∷ []) attribute) (sized 64 ++ zeros 56) ≡ Ok (64 ∷ 0 ∷ [])
sixty_four_bytes = refl

sixty_four_end : ending little (sized 64 ++ zeros 100) 0 attribute ≡ 64
sixty_four_end = refl

config2_is_after_the_first_sixty_four :
    layout little (map_parts (λ a. a.config2 ∷ a.branch_sample_type ∷ []) attribute) (sized 72 ++ zeros 56 ++ 7 ∷ zeros 7) ≡ Ok (7 ∷ 0 ∷ [])
config2_is_after_the_first_sixty_four = refl

one_byte_short : layout little attribute (sized 72 ++ zeros 63) ≡ Err Eof
one_byte_short = refl

no_such_size : layout little attribute (sized 100 ++ zeros 100) ≡ Err InvalidRecord
no_such_size = refl

-- the fields between 80 and 136, each set by one byte
abbrev after_eighty : List ℕ
after_eighty =
    (1 ∷ zeros 7) ++ (2 ∷ zeros 7) ++ (3 ∷ zeros 3) ++ (255 ∷ 255 ∷ 255 ∷ 255 ∷ []) ++ (4 ∷ zeros 7)
    ++ (5 ∷ zeros 3) ++ (6 ∷ 0 ∷ []) ++ (9 ∷ 9 ∷ []) ++ (7 ∷ zeros 3) ++ (9 ∷ 9 ∷ 9 ∷ 9 ∷ []) ++ (8 ∷ zeros 7) ++ (10 ∷ zeros 7)

all_fields_after_eighty :
    layout little (map_parts (λ a. a.branch_sample_type ∷ a.sample_regs_user ∷ a.sample_stack_user ∷ a.sample_regs_intr ∷ a.aux_watermark ∷ a.sample_max_stack ∷ a.aux_sample_size ∷ a.sig_data ∷ a.config3 ∷ []) attribute)
    (sized 136 ++ zeros 64 ++ after_eighty) ≡ Ok (1 ∷ 2 ∷ 3 ∷ 4 ∷ 5 ∷ 6 ∷ 7 ∷ 8 ∷ 10 ∷ [])
all_fields_after_eighty = refl

a_newer_kernels_zero : layout little (map_parts (λ a. a.size) attribute) (sized 137 ++ zeros 129) ≡ Ok 137
a_newer_kernels_zero = refl

a_newer_kernels_field : layout little attribute (sized 137 ++ zeros 128 ++ 1 ∷ []) ≡ Err UnsupportedData
a_newer_kernels_field = refl

a_newer_kernels_field_that_is_cut : layout little attribute (sized 138 ++ zeros 128 ++ 1 ∷ []) ≡ Err Eof
a_newer_kernels_field_that_is_cut = refl

-- ---- what is kept of a configuration

bit_six_of_a_read_format : kept_read_format 0x41 ≡ 0x21
bit_six_of_a_read_format = refl

every_read_format_bit : kept_read_format (2 ^ 64 - 1) ≡ 0x3f
every_read_format_bit = refl

a_packed_word : unpack (0x21 + 0x30007 * 2 ^ 6 + 2 ^ 46 + 0x2000 * 2 ^ 48) 3 4 ≡
    record { read_format = 0x21; sample_type = 0x30007; sample_id_all = true; branch_hw_index = false; misc = 0x2000; regs_user = 3; regs_intr = 4 }
a_packed_word = refl

-- ---- names

a_name : trim_zeros (47 ∷ 47 ∷ 0 ∷ 97 ∷ 0 ∷ 0 ∷ []) ≡ 47 ∷ 47 ∷ 0 ∷ 97 ∷ []
a_name = refl

no_name : trim_zeros (0 ∷ 0 ∷ []) ≡ []
no_name = refl
