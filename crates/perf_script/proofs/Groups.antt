-- The counters that a sample has read, in its bytes and in its flat frame.
use Rattle.std.proofs.Common.{◌≡◌, ℕ, zero, suc, ◌+◌, ◌-◌, ◌*◌, ◌/◌, ◌%◌, ◌^◌, ◌≤◌, ◌==◌, ◌&&◌, Bool, true, false, List, [], ◌∷◌, length, map, drop, get_or, refl, sym, ◌∙◌, ap, subst, arith, if◌then◌else◌, inl, inr}
use Rattle.std.specs.Prelude.{Option, Some, None, nat_le, option_map, option_to_list}
use Rattle.std.proofs.lemmas.Bool.{le-leb}
use Rattle.std.proofs.lemmas.Bool.Decides.{eqb_tells}
use Rattle.std.proofs.lemmas.List.{length-take-le, length-drop, drop-drop}
use Rattle.perf_base.specs.Configuration.{Configuration, under_misc}
use Rattle.perf_base.specs.Header.{header_of}
use Rattle.perf_base.specs.Layout.{Parts, done, part, check, ◌>>=◌, value, ending, size, shape_value, slice, words_of}
use Rattle.perf_base.specs.Order.{Order}
use Rattle.perf_base.specs.Table.{slot, table, present_if}
use Rattle.perf_flat.specs.Arrays.{filled, no_span}
use Rattle.perf_flat.specs.Flat.{IsFlat, format_of}
use Rattle.perf_flat.specs.Samples.{HasEntries, HasCounters, group_entry_numbers, sample_numbers, sample_present}
use Rattle.perf_flat.specs.Strings.{span_at}
use Rattle.perf_flat.specs.declared.frame.FlatFrame.{FlatFrame}
use Rattle.perf_flat.specs.declared.frame.Span.{Span}
use Rattle.perf_records.specs.Bodies.{body}
use Rattle.perf_records.specs.Records.{sample_is}
use Rattle.perf_sample_types.specs.Sample.{SampleValue, FieldValue, group_is, number_is, task_is, numbers_are, bytes_are, branches_are, registers_are, sample, sample_fields, fields_under, settings_of, values, is_present, at_flag_under}
use Rattle.perf_sample_types.specs.SampleGetters.{getters_of, group_in}
use Rattle.perf_counters.specs.GroupEntry.{block_len, entries_of}
use Rattle.perf_counters.specs.ReadFormat.{has_counter_id, has_lost, has_group}
use Rattle.perf_counters.specs.ReadGroup.{GroupRead, only_entry}
use Rattle.perf_counters.specs.declared.group_entry.GroupEntry.{GroupEntry}
use Rattle.perf_words.specs.Bits.{has_bit}
use Rattle.perf_walk.specs.Parts.{bytes_at}
use Rattle.perf_walk.specs.Samples.{sample_of}
use Rattle.perf_walk.proofs.Stated.{flat_record}
use Rattle.perf_walk.proofs.Values.{answer_value, mapped_value}
use Rattle.perf_script.specs.Blocks as blocks
use Rattle.perf_script.specs.Counters.{reading_of, readings_in, readings_of}
use Rattle.perf_script.specs.declared.readings.Reading.{Reading}
use Rattle.perf_walk.proofs.Fields.{type_nine, fields_of}
use Rattle.perf_walk.proofs.Sampled.{sample_answer}

-- ---- the value of a field of a table

then_value : {A B : Type 0} (o : Order) (bytes : List ℕ) (s : ℕ) (p : Parts A) (f : A → Parts B) → value o bytes s (p >>= f) ≡ value o bytes (ending o bytes s p) (f (value o bytes s p))
then_value o bytes s (done v) f = refl
then_value o bytes s (part shape k) f =
    then_value o bytes (s + size shape (length bytes - s)) (k (shape_value o shape (slice bytes s (size shape (length bytes - s))))) f
then_value o bytes s (check t e p) f = then_value o bytes s p f

slot_value : {A : Type 0} (o : Order) (bytes : List ℕ) (s : ℕ) (p : Parts A) → value o bytes s (slot (Some p)) ≡ Some (value o bytes s p)
slot_value o bytes s p = then_value o bytes s p (λ v. done (Some v))

table_value : {A : Type 0} (o : Order) (bytes : List ℕ) (s : ℕ) (field : Option (Parts A)) (fields : List (Option (Parts A)))
    → value o bytes s (table (field ∷ fields)) ≡ value o bytes s (slot field) ∷ value o bytes (ending o bytes s (slot field)) (table fields)
table_value o bytes s field fields =
    let v = value o bytes s (slot field) in
    let e : ℕ = ending o bytes s (slot field) in
    then_value o bytes s (slot field) (λ v. (table fields >>= λ vs. done (v ∷ vs)))
    ∙ then_value o bytes e (table fields) (λ vs. done (v ∷ vs))

-- what holds of an absent field, and of the value of its parts, holds of a field of a table
field_holds : {A : Type 0} (P : Option A → Type 0) (o : Order) (bytes : List ℕ) (s : ℕ) (fields : List (Option (Parts A))) (i : ℕ) → P None
    → ((p : Parts A) (at : ℕ) → get_or fields i None ≡ Some p → P (Some (value o bytes at p))) → P (get_or (value o bytes s (table fields)) i None)
field_holds P o bytes s [] i none some = none
field_holds {A} P o bytes s (None ∷ fields) zero none some = subst (λ (vs : List (Option A)). P (get_or vs 0 None)) (sym (table_value o bytes s None fields)) none
field_holds {A} P o bytes s (Some p ∷ fields) zero none some =
    subst (λ (vs : List (Option A)). P (get_or vs 0 None)) (sym (table_value o bytes s (Some p) fields)) (subst P (sym (slot_value o bytes s p)) (some p s refl))
field_holds {A} P o bytes s (field ∷ fields) (suc i) none some =
    subst (λ (vs : List (Option A)). P (get_or vs (suc i) None)) (sym (table_value o bytes s field fields))
    (field_holds P o bytes (ending o bytes s (slot field)) fields i none some)

-- ---- a read has ids as its format states

-- a group is as its format states
pub record IsOfFormat (read_format : ℕ) (read : GroupRead) : Type 0 where
  pub with_id : read.with_id ≡ has_counter_id read_format
  pub with_lost : read.with_lost ≡ has_lost read_format

abbrev IsFormed : (read_format : ℕ) → Option FieldValue → Type 0
IsFormed r (Some (group_is read)) = has_group r ≡ true → IsOfFormat r read
IsFormed r (Some (number_is n)) = Unit {0}
IsFormed r (Some (task_is pid tid)) = Unit {0}
IsFormed r (Some (numbers_are ns)) = Unit {0}
IsFormed r (Some (bytes_are bs)) = Unit {0}
IsFormed r (Some (branches_are i bs)) = Unit {0}
IsFormed r (Some (registers_are rs)) = Unit {0}
IsFormed r None = Unit {0}

values_formed : (c : Configuration) (o : Order) (bytes : List ℕ) (s : ℕ) → IsFormed c.read_format (Some (value o bytes s (values c)))
unfolding values
values_formed c o bytes s = go (has_group c.read_format) refl where
  go : (b : Bool) → has_group c.read_format ≡ b → IsFormed c.read_format (Some (value o bytes s (values c)))
  go true holds = rw holds (λ _. record { with_id = refl; with_lost = refl })
  go false fails = rw fails (λ holds. absurd (cc))

present_some : {A : Type 0} (b : Bool) (p q : Parts A) → present_if b p ≡ Some q → q ≡ p
present_some true p q e = cc
present_some false p q e = absurd (cc)

sample_formed : (c : Configuration) (o : Order) (bytes : List ℕ) → IsFormed c.read_format (get_or (value o bytes 0 (sample c)) 9 None)
unfolding sample
sample_formed c o bytes = field_holds (IsFormed c.read_format) o bytes 0 (fields_under c sample_fields) 9 tt (λ p at e.
    let same : p ≡ values (settings_of c) = present_some (is_present c (at_flag_under 4 values)) (values (settings_of c)) p e in
    subst (λ (q : Parts FieldValue). IsFormed c.read_format (Some (value o bytes at q))) (sym same) (values_formed (settings_of c) o bytes at))

-- the record in the bytes of a frame of a sample is the value of the layout of samples
sample_value : (c : Configuration) (o : Order) (frame : List ℕ) (s : SampleValue) (f : FlatFrame) → IsFlat c o frame f → sample_of c o frame ≡ Some s
    → (bytes : List ℕ) × (s ≡ value o bytes 0 (sample (under_misc (header_of o frame).misc c)))
sample_value c o frame s f is e =
    let h = header_of o frame in
    let under : Configuration = under_misc h.misc c in
    let found = answer_value c o frame (sample_is s) (sample_answer c o frame s e) in
    let type : h.type_ ≡ 9 = sym is.header.type_ ∙ type_nine c o frame s f is e in
    let made : sample_is s ≡ sample_is (value o found.0 0 (sample under)) =
    found.1 ∙ ap (λ ty. value o found.0 0 (body under ty)) type ∙ mapped_value o found.0 0 sample_is (sample under) in
    (found.0, cc)

formed_group : (r : ℕ) (x : Option FieldValue) (read : GroupRead) → IsFormed r x → group_in x ≡ Some read → has_group r ≡ true → IsOfFormat r read
formed_group r (Some (group_is g)) read formed e holds = let same : g ≡ read = cc in subst (IsOfFormat r) same (formed holds)
formed_group r (Some (number_is n)) read formed e holds = absurd (cc)
formed_group r (Some (task_is pid tid)) read formed e holds = absurd (cc)
formed_group r (Some (numbers_are ns)) read formed e holds = absurd (cc)
formed_group r (Some (bytes_are bs)) read formed e holds = absurd (cc)
formed_group r (Some (branches_are i bs)) read formed e holds = absurd (cc)
formed_group r (Some (registers_are rs)) read formed e holds = absurd (cc)
formed_group r None read formed e holds = absurd (cc)

group_of_format : (c : Configuration) (o : Order) (frame : List ℕ) (s : SampleValue) (f : FlatFrame) (read : GroupRead) → IsFlat c o frame f → sample_of c o frame ≡ Some s
    → (getters_of s).values ≡ Some read → has_group c.read_format ≡ true → IsOfFormat c.read_format read
group_of_format c o frame s f read is e some holds =
    let made = sample_value c o frame s f is e in
    let formed : IsFormed c.read_format (get_or s 9 None) =
    subst (λ (vs : SampleValue). IsFormed c.read_format (get_or vs 9 None)) (sym made.1) (sample_formed (under_misc (header_of o frame).misc c) o made.0) in
    formed_group c.read_format (get_or s 9 None) read formed some holds

-- ---- the counters of a group, in its numbers

words_length : (o : Order) (n : ℕ) (bytes : List ℕ) → length (words_of o n bytes) ≡ n
words_length o zero bytes = refl
words_length o (suc n) bytes = ap suc (words_length o n (drop 8 bytes))

-- the counters of a list of blocks
group_words : (o : Order) (wi wl : Bool) (k n : ℕ) (bytes : List ℕ) → n ≡ k * block_len wi wl
    → blocks.readings_in o wi wl k bytes ≡ map reading_of (entries_of wi wl k (words_of o n bytes))
group_words o wi wl zero n bytes e = refl
group_words o false false (suc k) zero bytes e = absurd (omega (arith, e))
group_words o false false (suc k) (suc n) bytes e =
    ap (λ rest. blocks.first_reading o false bytes ∷ rest) (group_words o false false k n (drop 8 bytes) (omega (arith, e)))
group_words o true false (suc k) zero bytes e = absurd (omega (arith, e))
group_words o true false (suc k) (suc zero) bytes e = absurd (omega (arith, e))
group_words o true false (suc k) (suc (suc n)) bytes e =
    ap (λ rest. blocks.first_reading o true bytes ∷ rest)
    (ap (blocks.readings_in o true false k) (sym (drop-drop 8 8 bytes)) ∙ group_words o true false k n (drop 8 (drop 8 bytes)) (omega (arith, e)))
group_words o false true (suc k) zero bytes e = absurd (omega (arith, e))
group_words o false true (suc k) (suc zero) bytes e = absurd (omega (arith, e))
group_words o false true (suc k) (suc (suc n)) bytes e =
    ap (λ rest. blocks.first_reading o false bytes ∷ rest)
    (ap (blocks.readings_in o false true k) (sym (drop-drop 8 8 bytes)) ∙ group_words o false true k n (drop 8 (drop 8 bytes)) (omega (arith, e)))
group_words o true true (suc k) zero bytes e = absurd (omega (arith, e))
group_words o true true (suc k) (suc zero) bytes e = absurd (omega (arith, e))
group_words o true true (suc k) (suc (suc zero)) bytes e = absurd (omega (arith, e))
group_words o true true (suc k) (suc (suc (suc n))) bytes e =
    ap (λ rest. blocks.first_reading o true bytes ∷ rest)
    (ap (blocks.readings_in o true true k) (sym (ap (drop 8) (drop-drop 8 8 bytes) ∙ drop-drop 8 16 bytes)) ∙ group_words o true true k n (drop 8 (drop 8 (drop 8 bytes))) (omega (arith, e)))

divided : (wi wl : Bool) (n : ℕ) → 8 * (n * block_len wi wl) / (8 * block_len wi wl) ≡ n
divided true true n = omega arith
divided true false n = omega arith
divided false true n = omega arith
divided false false n = omega arith

times : (wi wl : Bool) (n : ℕ) → n * block_len wi wl / block_len wi wl ≡ n
times true true n = omega arith
times true false n = omega arith
times false true n = omega arith
times false false n = omega arith

slice_length : (frame : List ℕ) (at len : ℕ) → at + len ≤ length frame → length (slice frame at len) ≡ len
slice_length frame at len inside =
    let long = length-drop at frame in
    length-take-le len (drop at frame) (omega (arith, long, inside))

group_here : (o : Order) (frame : List ℕ) (s : Span) (read : GroupRead) → HasEntries o frame s read → blocks.group_at o read.with_id read.with_lost frame s ≡ map reading_of read.entries
group_here o frame s read has =
    let wi : Bool = read.with_id in
    let wl : Bool = read.with_lost in
    let n : ℕ = length read.entries in
    let bytes : List ℕ = slice frame s.at s.len in
    let inside : nat_le (s.at + s.len) (length frame) ≡ true = le-leb (s.at + s.len) (length frame) has.inside in
    let count : length bytes / (8 * block_len wi wl) ≡ n = ap (λ m. m / (8 * block_len wi wl)) (slice_length frame s.at s.len has.inside ∙ has.many) ∙ divided wi wl n in
    let words : List ℕ = words_of o (n * block_len wi wl) bytes in
    let many : length words / block_len wi wl ≡ n = ap (λ m. m / block_len wi wl) (words_length o (n * block_len wi wl) bytes) ∙ times wi wl n in
    rw inside (
    ap (λ k. blocks.readings_in o wi wl k bytes) count
    ∙ group_words o wi wl n (n * block_len wi wl) bytes refl
    ∙ ap (λ k. map reading_of (entries_of wi wl k words)) (sym many)
    ∙ ap (map reading_of) has.there
    )

bytes_none : (frame : List ℕ) → bytes_at frame no_span ≡ []
bytes_none frame = let inside : nat_le (0 + 0) (length frame) ≡ true = le-leb (0 + 0) (length frame) (omega arith) in rw inside refl

none_in : (o : Order) (wi wl : Bool) → blocks.readings_in o wi wl (length {A = ℕ} [] / (8 * block_len wi wl)) [] ≡ []
none_in o true true = refl
none_in o true false = refl
none_in o false true = refl
none_in o false false = refl

group_none : (o : Order) (wi wl : Bool) (frame : List ℕ) → blocks.group_at o wi wl frame no_span ≡ []
group_none o wi wl frame = ap (λ bytes. blocks.readings_in o wi wl (length bytes / (8 * block_len wi wl)) bytes) (bytes_none frame) ∙ none_in o wi wl

-- the counters of a read, if there is one
abbrev read_or_none : (r : ℕ) → Option GroupRead → List Reading
read_or_none r read = elim read [ Some g ↦ readings_in (has_group r) g | None ↦ [] ]

counters_here : (r : ℕ) (o : Order) (frame : List ℕ) (s : Span) (read : Option GroupRead) → has_group r ≡ true → ((g : GroupRead) → read ≡ Some g → IsOfFormat r g) → HasCounters r o frame s read
    → blocks.group_at o (has_counter_id r) (has_lost r) frame s ≡ read_or_none r read
counters_here r o frame s (Some g) holds formed has =
    let is = formed g refl in
    let entries : HasEntries o frame s g = rw holds at has in
    rw holds (ap (λ wi. blocks.group_at o wi (has_lost r) frame s) (sym is.with_id) ∙ ap (λ wl. blocks.group_at o g.with_id wl frame s) (sym is.with_lost) ∙ group_here o frame s g entries)
counters_here r o frame s None holds formed none = ap (blocks.group_at o (has_counter_id r) (has_lost r) frame) none ∙ group_none o (has_counter_id r) (has_lost r) frame

-- ---- the one counter, in the numbers of a flat frame

abbrev single_of : (count : ℕ) → List ℕ → List Reading
single_of count numbers = if count == 1 then record { id = get_or numbers 1 0; value = get_or numbers 0 0 } ∷ [] else []

two_or_more : (n : ℕ) (numbers : List ℕ) → single_of (suc (suc n)) numbers ≡ []
two_or_more n numbers = elim (eqb_tells (suc (suc n)) 1) [
  | inl is ↦ absurd (omega (arith, is.1))
  | inr is ↦ rw is.0 refl
]

single_entry : (entries : List GroupEntry) → single_of (length entries) (group_entry_numbers (only_entry entries)) ≡ option_to_list (option_map reading_of (only_entry entries))
single_entry [] = refl
single_entry (e ∷ []) = refl
single_entry (e ∷ d ∷ es) = two_or_more (length es) (group_entry_numbers None)

-- the counter of a read, by its numbers, if there is one
abbrev single_or_none : (r : ℕ) → Option GroupRead → List Reading
single_or_none r read = elim read [ Some g ↦ single_of (length g.entries) (group_entry_numbers (if has_group r then None else only_entry g.entries)) | None ↦ [] ]

single_read : (r : ℕ) (read : Option GroupRead) → has_group r ≡ false → single_or_none r read ≡ read_or_none r read
single_read r (Some g) fails = rw fails (single_entry g.entries)
single_read r None fails = refl

-- by the numbers of a sample
single_numbers : (r : ℕ) (s : SampleValue) (read : Option GroupRead) → (getters_of s).values ≡ read → blocks.single_in (filled (sample_numbers r s)) ≡ single_or_none r read
unfolding filled
single_numbers r s (Some g) e = go (if has_group r then None else only_entry g.entries) refl where
  go : (x : Option GroupEntry) → (if has_group r then None else only_entry g.entries) ≡ x → blocks.single_in (filled (sample_numbers r s)) ≡ single_or_none r (Some g)
  go (Some x) is = rw e (rw is refl)
  go None is = rw e (rw is refl)
single_numbers r s None e = rw e refl

-- ---- the counters of a sample

bits_kept : (t : ℕ) → (t % 33554432 + 4294967296) / 16 % 2 ≡ t / 16 % 2
bits_kept t = omega arith

bits_same : (t : ℕ) → (t % 33554432 + 0) / 16 % 2 ≡ t / 16 % 2
bits_same t = omega arith

-- the flag of READ is among those that are known
flag_kept : (t : ℕ) (b : Bool) → has_bit (t % 2 ^ 25 + (if b then 2 ^ 32 else 0)) 4 ≡ has_bit t 4
flag_kept t true = ap (λ n. n == 1) (bits_kept t)
flag_kept t false = ap (λ n. n == 1) (bits_same t)

-- the format of the counters of a sample that has them
counter_format : (c : Configuration) (ty : ℕ) → ty ≡ 9 → has_bit (sample_present c) 4 ≡ true → format_of c ty ≡ c.read_format
counter_format c ty type there =
    let flag : has_bit c.sample_type 4 ≡ true = sym (flag_kept c.sample_type (has_bit c.sample_type 11 && c.branch_hw_index)) ∙ there in
    ap (format_of c) type ∙ ap (λ b. if b then c.read_format else 0) flag

pub format_kept : (c : Configuration) (o : Order) (frame : List ℕ) (s : SampleValue) (f : FlatFrame) → IsFlat c o frame f → sample_of c o frame ≡ Some s → has_bit f.present 4 ≡ true → f.read_format ≡ c.read_format
format_kept c o frame s f is e there =
    let states = (flat_record c o frame (sample_is s) f is (sample_answer c o frame s e)).1.0 in
    let known : has_bit (sample_present c) 4 ≡ true = ap (λ n. has_bit n 4) (sym (fields_of c o frame s f is e)) ∙ there in
    states.read_format ∙ counter_format c f.type_ (type_nine c o frame s f is e) known

pub readings_group : (c : Configuration) (o : Order) (frame : List ℕ) (s : SampleValue) (f : FlatFrame) → IsFlat c o frame f → sample_of c o frame ≡ Some s → has_group c.read_format ≡ true
    → blocks.group_at o (has_counter_id c.read_format) (has_lost c.read_format) frame (span_at f.spans 2) ≡ readings_of c.read_format s
readings_group c o frame s f is e holds =
    let states = (flat_record c o frame (sample_is s) f is (sample_answer c o frame s e)).1 in
    counters_here c.read_format o frame (span_at f.spans 2) (getters_of s).values holds (λ g some. group_of_format c o frame s f g is e some holds) states.1.values

pub readings_single : (c : Configuration) (o : Order) (frame : List ℕ) (s : SampleValue) (f : FlatFrame) → IsFlat c o frame f → sample_of c o frame ≡ Some s → has_group c.read_format ≡ false
    → blocks.single_in f.numbers ≡ readings_of c.read_format s
readings_single c o frame s f is e fails =
    let states = (flat_record c o frame (sample_is s) f is (sample_answer c o frame s e)).1 in
    ap blocks.single_in states.0.numbers ∙ single_numbers c.read_format s (getters_of s).values refl ∙ single_read c.read_format (getters_of s).values fails
