-- The numbers of a sample id are at their places in it.
use Rattle.std.proofs.Common.{◌≡◌, ℕ, ◌+◌, ◌*◌, ◌≤◌, Bool, true, false, List, [], ◌∷◌, length, take, drop, Option, Some, None, refl, sym, ◌∙◌, ap, arith, if◌then◌else◌}
use Rattle.std.specs.Prelude.{option_map, nat_le}
use Rattle.std.proofs.lemmas.Bool.{le-leb, lt-leb}
use Rattle.std.proofs.lemmas.List.{drop-drop}
use Rattle.perf_base.specs.Configuration.{Configuration}
use Rattle.perf_base.specs.Layout.{done, optional, w4, w8, size, shape_value, slice, Spot, takes, holds, spots, value}
use Rattle.perf_base.specs.LayoutReads.{one_if_any, part_reads, reads, layout_reads}
use Rattle.perf_base.specs.Order.{Order}
use Rattle.perf_reader.proofs.AtOnce.{in_front}
use Rattle.perf_sample_types.specs.SampleId.{SampleIdValue, one_if, first_of, no_sample_id, sample_id_fields, sample_id_flags, has_tid, has_time, has_id, has_stream_id, has_cpu, has_identifier}
use Rattle.perf_records.specs.FrameEnds.{id_field_reads}
use Rattle.perf_records.specs.FrameNumbers.{eight_at, bytes_of, time_field, task_field, id_field, cpu_field, identifier_field, first_half, second_half}
use Rattle.perf_records.specs.Metadata.{carries_sample_id, id_of_type, id_length}

-- ---- sample ids: a number, present or absent, at its place

optional_w4_size : (flag : Bool) (left : ℕ) → size (optional flag w4) left ≡ 4 * one_if flag
optional_w4_size true left = refl
optional_w4_size false left = refl

optional_w8_size : (flag : Bool) (left : ℕ) → size (optional flag w8) left ≡ 8 * one_if flag
optional_w8_size true left = refl
optional_w8_size false left = refl

padding_if : (flag : Bool) → (if flag then 4 else 0) ≡ 4 * one_if flag
padding_if true = refl
padding_if false = refl

pub there : (bytes : List ℕ) (p : ℕ) → p + 8 ≤ length bytes → eight_at bytes p ≡ Some (slice bytes p 8)
there bytes p fits = let t : nat_le (p + 8) (length bytes) ≡ true = le-leb (p + 8) (length bytes) fits in rw t refl

eight_answer : (o : Order) (present : Bool) (ids : List ℕ) (s p left : ℕ) → s ≡ p → p + 8 * one_if present ≤ length ids →
    shape_value o (optional present w8) (slice ids s (size (optional present w8) left)) ≡ option_map o.eight (if present then eight_at ids p else None)
eight_answer o false ids s p left e fits = refl
eight_answer o true ids s p left e fits = ap (λ n. Some (o.eight (slice ids n 8))) e ∙ sym (ap (option_map o.eight) (there ids p fits))

-- the half of a field of eight bytes that is k bytes after its beginning
half : (o : Order) (k p : ℕ) (bytes : List ℕ) → k + 4 ≤ 8 → o.four (slice bytes (p + k) 4) ≡ o.four (slice (slice bytes p 8) k 4)
half o k p bytes small = ap o.four (sym (in_front k 4 8 (drop p bytes) small ∙ ap (take 4) (drop-drop k p bytes)))

four_answer : (o : Order) (present : Bool) (ids : List ℕ) (s p k left : ℕ) → (present ≡ true → s ≡ p + k) → k + 4 ≤ 8 → p + 8 * one_if present ≤ length ids →
    shape_value o (optional present w4) (slice ids s (size (optional present w4) left)) ≡ option_map (λ bytes. o.four (slice bytes k 4)) (if present then eight_at ids p else None)
four_answer o false ids s p k left e small fits = refl
four_answer o true ids s p k left e small fits =
    ap (λ n. Some (o.four (slice ids n 4))) (e refl) ∙ ap Some (half o k p ids small)
    ∙ sym (ap (option_map (λ bytes. o.four (slice bytes k 4))) (there ids p fits))

-- ---- and the fields of a sample id

-- Its bytes are as many as its flags require.
abbrev pub Long : ℕ → List ℕ → Type 0
Long t ids = length ids ≡ 8 * sample_id_flags t

pub id_time : (o : Order) (t : ℕ) (ids : List ℕ) → Long t ids →
    (value o ids 0 (sample_id_fields t)).time ≡ option_map o.eight (if has_time t then eight_at ids (bytes_of t time_field.in_id) else None)
id_time o t ids long = eight_answer o (has_time t) ids _ (bytes_of t time_field.in_id) _ (simp optional_w4_size (omega arith)) (omega arith)

pub id_pid : (o : Order) (t : ℕ) (ids : List ℕ) → Long t ids →
    (value o ids 0 (sample_id_fields t)).pid ≡ option_map (first_half o) (if has_tid t then eight_at ids (bytes_of t task_field.in_id) else None)
id_pid o t ids long = four_answer o (has_tid t) ids _ 0 0 _ (λ e. refl) (omega arith) (omega arith)

pub id_tid : (o : Order) (t : ℕ) (ids : List ℕ) → Long t ids →
    (value o ids 0 (sample_id_fields t)).tid ≡ option_map (second_half o) (if has_tid t then eight_at ids (bytes_of t task_field.in_id) else None)
id_tid o t ids long = four_answer o (has_tid t) ids _ 0 4 _ (λ e. rw e refl) (omega arith) (omega arith)

pub id_stream_id : (o : Order) (t : ℕ) (ids : List ℕ) → Long t ids →
    (value o ids 0 (sample_id_fields t)).stream_id ≡ option_map o.eight (if has_stream_id t then eight_at ids (bytes_of t (1 ∷ 2 ∷ 6 ∷ [])) else None)
id_stream_id o t ids long = eight_answer o (has_stream_id t) ids _ (bytes_of t (1 ∷ 2 ∷ 6 ∷ [])) _ (simp (optional_w4_size, optional_w8_size) (omega arith)) (omega arith)

pub id_cpu : (o : Order) (t : ℕ) (ids : List ℕ) → Long t ids →
    (value o ids 0 (sample_id_fields t)).cpu ≡ option_map (first_half o) (if has_cpu t then eight_at ids (bytes_of t cpu_field.in_id) else None)
id_cpu o t ids long = four_answer o (has_cpu t) ids _ (bytes_of t cpu_field.in_id) 0 _ (λ e. simp (optional_w4_size, optional_w8_size) (omega arith)) (omega arith) (omega arith)

-- the value of ID, or else of IDENTIFIER
pub either : (o : Order) (first second : Bool) (ids : List ℕ) (p q : ℕ) → p + 8 * one_if first ≤ length ids →
    first_of (option_map o.eight (if first then eight_at ids p else None)) (option_map o.eight (if second then eight_at ids q else None))
    ≡ option_map o.eight (if first then eight_at ids p else (if second then eight_at ids q else None))
either o true second ids p q fits = rw (there ids p fits) refl
either o false second ids p q fits = refl

either_answer : (o : Order) (first second : Bool) (ids : List ℕ) (s p n u q m : ℕ) → s ≡ p → p + 8 * one_if first ≤ length ids → u ≡ q → q + 8 * one_if second ≤ length ids →
    first_of (shape_value o (optional first w8) (slice ids s (size (optional first w8) n))) (shape_value o (optional second w8) (slice ids u (size (optional second w8) m)))
    ≡ option_map o.eight (if first then eight_at ids p else (if second then eight_at ids q else None))
either_answer o first second ids s p n u q m e fits e' fits' =
    ap (λ x. first_of x (shape_value o (optional second w8) (slice ids u (size (optional second w8) m)))) (eight_answer o first ids s p n e fits)
    ∙ ap (first_of (option_map o.eight (if first then eight_at ids p else None))) (eight_answer o second ids u q m e' fits')
    ∙ either o first second ids p q fits

pub id_id : (o : Order) (t : ℕ) (ids : List ℕ) → Long t ids →
    (value o ids 0 (sample_id_fields t)).id
    ≡ option_map o.eight (if has_id t then eight_at ids (bytes_of t id_field.in_id) else (if has_identifier t then eight_at ids (bytes_of t identifier_field.in_id) else None))
id_id o t ids long =
    either_answer o (has_id t) (has_identifier t) ids _ (bytes_of t id_field.in_id) _ _ (bytes_of t identifier_field.in_id) _
    (simp (optional_w4_size, optional_w8_size) (omega arith)) (omega arith) (simp (optional_w4_size, optional_w8_size, padding_if) (omega arith)) (omega arith)

-- ---- the reads of its fields

-- parts that are all there
abbrev AllThere : ℕ → List Spot → Type 0
AllThere len [] = Unit {0}
AllThere len (takes s n shape ∷ xs) = (s + n ≤ len) × AllThere len xs
AllThere len (holds s t e ∷ xs) = ⊥

abbrev total : List Spot → ℕ
total [] = 0
total (takes s n shape ∷ xs) = part_reads shape n + total xs
total (holds s t e ∷ xs) = total xs

all_read : (len : ℕ) (xs : List Spot) → AllThere len xs → reads len xs ≡ total xs
all_read len [] all = refl
all_read len (takes s n shape ∷ xs) all = let t : nat_le (s + n) len ≡ true = le-leb (s + n) len all.0 in rw (t, reads) (ap (λ m. part_reads shape n + m) (all_read len xs all.1))
all_read len (holds s t e ∷ xs) all = absurd all

any_4 : (flag : Bool) → one_if_any (4 * one_if flag) ≡ one_if flag
any_4 true = refl
any_4 false = refl

any_8 : (flag : Bool) → one_if_any (8 * one_if flag) ≡ one_if flag
any_8 true = refl
any_8 false = refl

pub fields_read : (o : Order) (t : ℕ) (ids : List ℕ) → Long t ids → layout_reads o (sample_id_fields t) ids ≡ id_field_reads t
fields_read o t ids long =
    all_read (length ids) (spots o ids 0 (sample_id_fields t)) (
      simp optional_w4_size (omega arith),
      (
        simp optional_w4_size (omega arith),
        (
          simp (optional_w4_size, optional_w8_size) (omega arith),
          (
            simp (optional_w4_size, optional_w8_size) (omega arith),
            (
              simp (optional_w4_size, optional_w8_size) (omega arith),
              (
                simp (optional_w4_size, optional_w8_size) (omega arith),
                (
                  simp (optional_w4_size, optional_w8_size, padding_if) (omega arith),
                  (simp (optional_w4_size, optional_w8_size, padding_if) (omega arith), tt),
                ),
              ),
            ),
          ),
        ),
      ),
    )
    ∙ simp (optional_w4_size, optional_w8_size, padding_if, any_4, any_8) (omega arith)

-- ---- and of the sample id of every type, which may be none

nothing : (read : List ℕ → ℕ) (present : Bool) (ids : List ℕ) (p : ℕ) → length ids ≡ 0 → option_map read (if present then eight_at ids p else None) ≡ None
nothing read false ids p none = refl
nothing read true ids p none = let t : nat_le (p + 8) (length ids) ≡ false = lt-leb (p + 8) (length ids) (omega arith) in rw t refl

-- the value of a number of a sample id, of those of every type
pub of_type : (of_id : SampleIdValue → Option ℕ) (read : List ℕ → ℕ) (c : Configuration) (o : Order) (ty : ℕ) (present : Bool) (p : ℕ) → of_id no_sample_id ≡ None →
    ((ids : List ℕ) → Long c.sample_type ids → of_id (value o ids 0 (sample_id_fields c.sample_type)) ≡ option_map read (if present then eight_at ids p else None)) →
    (ids : List ℕ) → length ids ≡ id_length c ty → of_id (value o ids 0 (id_of_type c ty)) ≡ option_map read (if present then eight_at ids p else None)
of_type of_id read c o ty present p none transition ids = by (carries_sample_id ty) c.sample_id_all
  where
    by : (a b : Bool) → length ids ≡ (if a then (if b then 8 * sample_id_flags c.sample_type else 0) else 0) →
        of_id (value o ids 0 (if a then (if b then sample_id_fields c.sample_type else done no_sample_id) else done no_sample_id)) ≡ option_map read (if present then eight_at ids p else None)
    by true true long = transition ids long
    by true false long = none ∙ sym (nothing read present ids p long)
    by false b long = none ∙ sym (nothing read present ids p long)
