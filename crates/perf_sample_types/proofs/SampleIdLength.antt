-- A sample id takes `sample_id_length` bytes, whatever they are.
use Rattle.std.proofs.Common.{◌≡◌, ℕ, ◌*◌, ◌≤◌, ◌<◌, Bool, true, false, List, length, drop, if◌then◌else◌, refl, sym, ◌∙◌, ap, arith, inl, inr}
use Rattle.std.proofs.lemmas.Bool.{cases_lt}
use Rattle.perf_base.specs.Configuration.{Configuration}
use Rattle.perf_base.specs.Layout.{optional, w4, w8, size, done, ending, value}
use Rattle.perf_base.specs.Order.{Order}
use Rattle.perf_base.specs.Run.{ran, stopped, by_places}
use Rattle.perf_base.specs.declared.error.ErrorKind.{ErrorKind}
use Rattle.perf_base.proofs.Bridge.{places_run}
use Rattle.perf_base.proofs.UncheckedParts.{Unchecked, unchecked_run}
use Rattle.perf_base.proofs.Tables.{run_layout}
use Rattle.perf_sample_types.specs.SampleId.{SampleIdValue, one_if, sample_id_flags, sample_id_fields, no_sample_id, sample_id, sample_id_length}

optional_w4_size : (flag : Bool) (left : ℕ) → size (optional flag w4) left ≡ 4 * one_if flag
optional_w4_size true left = refl
optional_w4_size false left = refl

optional_w8_size : (flag : Bool) (left : ℕ) → size (optional flag w8) left ≡ 8 * one_if flag
optional_w8_size true left = refl
optional_w8_size false left = refl

padding_if : (flag : Bool) → (if flag then 4 else 0) ≡ 4 * one_if flag
padding_if true = refl
padding_if false = refl

fields-length : (o : Order) (body : List ℕ) (sample_type : ℕ) → ending o body 0 (sample_id_fields sample_type) ≡ 8 * sample_id_flags sample_type
fields-length o body t = simp (optional_w4_size, optional_w8_size, padding_if) (omega arith)

under : (all : Bool) (o : Order) (body : List ℕ) (t : ℕ) → ending o body 0 (if all then sample_id_fields t else done no_sample_id) ≡ (if all then 8 * sample_id_flags t else 0)
under true o body t = fields-length o body t
under false o body t = refl

pub ending-sample_id : (c : Configuration) (o : Order) (body : List ℕ) → ending o body 0 (sample_id c) ≡ sample_id_length c
ending-sample_id c o body = under c.sample_id_all o body c.sample_type

-- none of its fields is checked
free : (all : Bool) (t : ℕ) → Unchecked (if all then sample_id_fields t else done no_sample_id)
free true t = λ pid tid time id stream_id cpu nothing identifier. tt
free false t = tt

-- It is read whenever that many bytes are left, and takes exactly them.
pub sample_id_there : (c : Configuration) (o : Order) (bytes : List ℕ) → sample_id_length c ≤ length bytes →
    by_places o (sample_id c) bytes ≡ ran (value o bytes 0 (sample_id c)) (drop (sample_id_length c) bytes)
sample_id_there c o bytes fits =
    let whole : ending o bytes 0 (sample_id c) ≡ sample_id_length c = ending-sample_id c o bytes in
    unchecked_run o (sample_id c) bytes (free c.sample_id_all c.sample_type) (omega arith) ∙ ap (λ (n : ℕ). ran (value o bytes 0 (sample_id c)) (drop n bytes)) whole

pub sample_id_takes : (c : Configuration) (o : Order) (bytes left : List ℕ) (v : SampleIdValue) → by_places o (sample_id c) bytes ≡ ran v left → left ≡ drop (sample_id_length c) bytes
sample_id_takes c o bytes left v h =
    sym (run_layout o (sample_id c) bytes v left (sym (places_run o (sample_id c) bytes) ∙ h)).1 ∙ ap (λ n. drop n bytes) (ending-sample_id c o bytes)

pub sample_id_lacks : (c : Configuration) (o : Order) (bytes left : List ℕ) (e : ErrorKind) → by_places o (sample_id c) bytes ≡ stopped e left → length bytes < sample_id_length c
sample_id_lacks c o bytes left e h = elim (cases_lt (length bytes) (sample_id_length c)) [
  | inl short ↦ short
  | inr fits ↦ absurd (cc (sample_id_there c o bytes fits))
]
