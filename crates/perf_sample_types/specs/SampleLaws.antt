-- How the body of a SAMPLE changes with its sample type. If a flag is added to the sample type, the
-- bytes of that flag's field are inserted at their place; if a field's flags are removed, the
-- field's bytes are cut out. Everything else stays the same. It is one law over the table of the
-- fields, with no case for any of them. Fields are counted from 0, in the order of the table.
use Rattle.std.specs.Prelude.{◌≡◌, ◌≢◌, ℕ, suc, ◌-◌, ◌^◌, Bool, true, false, List, [], ◌∷◌}
use Rattle.std.specs.Prelude.{get_or, Option, Some, None, Ok, bit_or, if◌then◌else◌}
use Rattle.std.specs.List.{Contains}
use Rattle.perf_base.specs.Configuration.{Configuration, under_sample_type}
use Rattle.perf_base.specs.Layout.{Parts, layout, value}
use Rattle.perf_base.specs.Order.{Order}
use Rattle.perf_base.specs.Splice.{Spells, put_in, take_out}
use Rattle.perf_base.specs.Table.{place_of}
use Rattle.perf_sample_types.specs.Sample.{Field, FieldValue, SampleValue, sample}
use Rattle.perf_sample_types.specs.Sample.{sample_fields, fields_under, is_present, settings_of, plain_field}
use Rattle.perf_sample_types.specs.SampleGetters.{field_at, number_in, getters_of}
use Rattle.perf_words.specs.Bits.{has_bit}

-- ---- fields by their numbers

-- a field that is never present
abbrev pub no_field : Field
no_field = record { flags = []; parts = λ c. plain_field }

-- field f of the table
abbrev pub table_field : ℕ → Field
table_field f = get_or sample_fields f no_field

-- the number of IDENTIFIER
abbrev pub identifier_row : ℕ
identifier_row = 0

-- the number of ID
abbrev pub id_row : ℕ
id_row = 5

-- the flags of field f, as bit numbers
abbrev pub flags_of : ℕ → List ℕ
flags_of f = (table_field f).flags

-- the parts that make up field f
abbrev pub row_parts : Configuration → ℕ → Parts FieldValue
row_parts c f = (table_field f).parts (settings_of c)

-- field f is present
abbrev pub is_there : Configuration → ℕ → Bool
is_there c f = is_present c (table_field f)

-- the offset of field f in a body, or the one it would have
abbrev pub field_place : Configuration → Order → List ℕ → ℕ → ℕ
field_place c o body f = place_of o body (fields_under c sample_fields) f

-- ---- configurations

-- the configuration with one more flag, as `with_sample_type` of `ParseConfig` makes it
abbrev pub with_flag : Configuration → ℕ → Configuration
with_flag c flag = under_sample_type (bit_or c.sample_type (2 ^ flag)) c

-- a number without one bit: 2 ^ bit less if it has that bit
abbrev pub without_bit : (n bit : ℕ) → ℕ
without_bit n bit = if has_bit n bit then n - 2 ^ bit else n

-- a number without any of these bits
abbrev pub without_bits : ℕ → List ℕ → ℕ
without_bits n [] = n
without_bits n (bit ∷ bits) = without_bit (without_bits n bits) bit

-- the configuration without the flags of field f
abbrev pub without_field : Configuration → ℕ → Configuration
without_field c f = under_sample_type (without_bits c.sample_type (flags_of f)) c

-- ---- bodies

-- the body with w inserted at the place of field f
abbrev pub splice_field : Configuration → Order → List ℕ → ℕ → List ℕ → List ℕ
splice_field c o body f w = put_in body (field_place c o body f) w

-- the body without the bytes of field f, which end where the next field begins
abbrev pub without_bytes : Configuration → Order → List ℕ → ℕ → List ℕ
without_bytes c o body f = take_out body (field_place c o body f) (field_place c o body (suc f))

-- ---- samples

-- the value of ID
abbrev pub said_id : SampleValue → Option ℕ
said_id fields = number_in (field_at fields id_row)

-- the value of IDENTIFIER
abbrev pub said_identifier : SampleValue → Option ℕ
said_identifier fields = number_in (field_at fields identifier_row)

-- Afterwards field f has the value v, and each other field the value it had before.
pub record ChangesField (before after : SampleValue) (f : ℕ) (v : Option FieldValue) : Type 0 where
  pub field : field_at after f ≡ v
  pub others : (g : ℕ) → g ≢ f → field_at after g ≡ field_at before g

-- The value that ID had before is the id of both samples.
pub record KeepsId (before after : SampleValue) : Type 0 where
  pub was : (getters_of before).id ≡ said_id before
  pub stays : (getters_of after).id ≡ said_id before

-- ---- the law, in both directions

-- If a body is a sample without field f, and w encodes that field, the body with w inserted is a
-- sample under the configuration with any one of the field's flags. The field has the value of w,
-- and each other its old value. If ID is present, the id is still that of ID, even for IDENTIFIER.
abbrev pub SpliceLaw : Configuration → List ℕ → ℕ → List ℕ → Type 0
SpliceLaw c body f w =
    (o : Order) (flag : ℕ) (before : SampleValue) →
    is_there c f ≡ false → Contains (flags_of f) flag → Spells o (row_parts c f) w →
    layout o (sample c) body ≡ Ok before →
    (after : SampleValue)
    × (layout o (sample (with_flag c flag)) (splice_field c o body f w) ≡ Ok after)
    × ChangesField before after f (Some (value o w 0 (row_parts c f)))
    × (is_there c id_row ≡ true → KeepsId before after)

-- If a body is a sample with field f, the body without the field's bytes is a sample under the
-- configuration without the field's flags. The field is absent, each other has its old value. If ID
-- is present and stays, so does the id; if ID itself is cut out, the id is that of IDENTIFIER.
abbrev pub CutLaw : Configuration → List ℕ → ℕ → Type 0
CutLaw c body f =
    (o : Order) (before : SampleValue) →
    is_there c f ≡ true → layout o (sample c) body ≡ Ok before →
    (after : SampleValue)
    × (layout o (sample (without_field c f)) (without_bytes c o body f) ≡ Ok after)
    × ChangesField before after f None
    × (f ≢ id_row → is_there c id_row ≡ true → KeepsId before after)
    × (f ≡ id_row → (getters_of after).id ≡ said_identifier before)
