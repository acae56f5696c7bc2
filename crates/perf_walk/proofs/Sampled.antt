-- The sample of a flat frame.
use Rattle.std.proofs.Common.{◌≡◌, ℕ, List, get_or, refl, sym, ◌∙◌, ap}
use Rattle.std.specs.Prelude.{Some, None, option_map, Result, Ok, Err}
use Rattle.perf_base.specs.Attribute.{or_zero}
use Rattle.perf_base.specs.Configuration.{Configuration}
use Rattle.perf_base.specs.Order.{Order}
use Rattle.perf_base.specs.declared.error.ErrorKind.{ErrorKind}
use Rattle.perf_flat.specs.Arrays.{filled}
use Rattle.perf_flat.specs.Flat.{IsFlat}
use Rattle.perf_flat.specs.Samples.{HasSampleSpans}
use Rattle.perf_flat.specs.declared.frame.FlatFrame.{FlatFrame}
use Rattle.perf_history.specs.Modes.{mode_of}
use Rattle.perf_history.specs.declared.changes.Mode.{Mode}
use Rattle.perf_records.specs.Answers.{answer_of_frame}
use Rattle.perf_records.specs.Records.{RecordValue, sample_is}
use Rattle.perf_sample_types.specs.Sample.{SampleValue, sample}
use Rattle.perf_sample_types.specs.SampleGetters.{getters_of}
use Rattle.perf_walk.specs.Samples.{sample_if, sample_of, sample_view}
use Rattle.perf_walk.specs.declared.sampling.Sample.{Sample}
use Rattle.perf_walk.proofs.Stated.{of_type, flat_record, of_no_sample}

-- a sample of the code
abbrev pub sample_made : (pid tid time cpu period ip : ℕ) → Mode → Sample
sample_made pid tid time cpu period ip mode = record { pid = pid; tid = tid; time = time; cpu = cpu; period = period; ip = ip; mode = mode }

same_sample : (pid tid time cpu period ip : ℕ) (mode : Mode) (misc : ℕ) (s : SampleValue) → pid ≡ or_zero (getters_of s).pid → tid ≡ or_zero (getters_of s).tid → time ≡ or_zero (getters_of s).time
    → cpu ≡ or_zero (getters_of s).cpu → period ≡ or_zero (getters_of s).period → ip ≡ or_zero (getters_of s).ip → mode ≡ mode_of misc → sample_made pid tid time cpu period ip mode ≡ sample_view misc s
same_sample pid tid time cpu period ip mode misc s a b c d e f g = rw (a, b, c, d, e, f, g) refl

pub sample_there : (c : Configuration) (o : Order) (bytes : List ℕ) (f : FlatFrame) → IsFlat c o bytes f → f.read ≡ 9 → (period ip : ℕ) (mode : Mode)
    → period ≡ get_or f.numbers 2 0 → ip ≡ get_or f.numbers 0 0 → mode ≡ mode_of f.misc
    → Some (sample_made f.pid f.tid f.time f.cpu period ip mode) ≡ option_map (sample_view f.misc) (sample_of c o bytes)
unfolding filled
sample_there c o bytes f is read period ip mode p i m =
    let found = of_type 8 sample_is (λ c. sample c) (λ _. refl) c o bytes f is read in
    let s : SampleValue = found.0 in
    let stated = flat_record c o bytes (sample_is s) f is found.1 in
    let numbers = stated.1.0.numbers in
    let ids = stated.1.0.id in
    ap Some (same_sample f.pid f.tid f.time f.cpu period ip mode f.misc s ids.pid ids.tid ids.time ids.cpu (p ∙ ap (λ ns. get_or ns 2 0) numbers) (i ∙ ap (λ ns. get_or ns 0 0) numbers) m)
    ∙ sym (ap (λ a. option_map (sample_view f.misc) (sample_if a)) found.1)

pub no_sample_there : (c : Configuration) (o : Order) (bytes : List ℕ) (f : FlatFrame) → IsFlat c o bytes f → (f.read ≡ 9 → ⊥) → None ≡ option_map (sample_view f.misc) (sample_of c o bytes)
no_sample_there c o bytes f is other = sym (ap (option_map (sample_view f.misc)) (of_no_sample c o bytes f is other))

-- a sample is the record
is_sample : (a : Result RecordValue ErrorKind) (s : SampleValue) → sample_if a ≡ Some s → a ≡ Ok (sample_is s)
is_sample (Ok (sample_is t)) s e = let same : t ≡ s = cc in ap (λ u. Ok (sample_is u)) same
is_sample (Ok _) s e = absurd (cc)
is_sample (Err k) s e = absurd (cc)

pub sample_answer : (c : Configuration) (o : Order) (bytes : List ℕ) (s : SampleValue) → sample_of c o bytes ≡ Some s → answer_of_frame c o bytes ≡ Ok (sample_is s)
sample_answer c o bytes s e = is_sample (answer_of_frame c o bytes) s e

-- what is at the spans of a sample
pub sample_spans : (c : Configuration) (o : Order) (bytes : List ℕ) (f : FlatFrame) (s : SampleValue) → IsFlat c o bytes f → sample_of c o bytes ≡ Some s → HasSampleSpans c.read_format o bytes f.spans s
sample_spans c o bytes f s is e = (flat_record c o bytes (sample_is s) f is (sample_answer c o bytes s e)).1.1
