-- The samples that a filter takes.
use Rattle.std.proofs.Common.{◌≡◌, ℕ, Bool, ◌==◌, ◌&&◌, ◌||◌, true, false, List, length, refl, sym, ◌∙◌, ap}
use Rattle.perf_flat.specs.Samples.{sample_present}
use Rattle.perf_history.specs.Histories.{name_of}
use Rattle.perf_history.specs.declared.names.Name.{Name}
use Rattle.perf_history.specs.declared.names.Name.TheVariants.{Given, Number, Swapper}
use Rattle.perf_sample_types.specs.Sample.{SampleValue}
use Rattle.perf_words.specs.Bits.{has_bit}
use Rattle.perf_walk.specs.Filters.{thread_name, is_among, takes_numbers, takes_comm, takes_sample, takes_at}
use Rattle.perf_walk.specs.Moments.{Moment}
use Rattle.perf_walk.specs.Plain.{plain_name}
use Rattle.perf_walk.specs.Samples.{sample_view}
use Rattle.perf_walk.specs.declared.filtering.Filter.{Filter}
use Rattle.perf_walk.specs.declared.sampling.Sample.{Sample}

-- the name of a thread depends on its bytes alone
thread_plain : (n : Name) → thread_name n ≡ thread_name (plain_name n)
thread_plain (Given name) = refl
thread_plain (Number tid) = refl
thread_plain Swapper = refl

comm_plain : (f : Filter) (fields : ℕ) (n : Name) → takes_comm f fields n ≡ takes_comm f fields (plain_name n)
comm_plain f fields n = ap (λ (text : List ℕ). length f.comms.now == 0 || (has_bit fields 1 && is_among f.comms.now text)) (thread_plain n)

-- what the code has found is what is at a moment
pub taken_at : (f : Filter) (m : Moment) (misc : ℕ) (s : SampleValue) (fields : ℕ) (made : Sample) (n : Name) → fields ≡ sample_present m.config → made ≡ sample_view misc s → plain_name n ≡ name_of m.known made.tid
    → takes_sample f fields made n ≡ takes_at f m misc s
taken_at f m misc s fields made n same view named =
    ap (λ b. takes_numbers f fields made && b) (comm_plain f fields n ∙ ap (takes_comm f fields) named)
    ∙ ap (λ k. takes_sample f k made (name_of m.known made.tid)) same
    ∙ ap (λ (x : Sample). takes_sample f (sample_present m.config) x (name_of m.known x.tid)) view

and_true : (b : Bool) → b ≡ (b && true)
and_true true = refl
and_true false = refl

-- without names each name is taken
any_name : (f : Filter) (fields : ℕ) (made : Sample) (n : Name) → (length f.comms.now == 0) ≡ true → takes_numbers f fields made ≡ takes_sample f fields made n
any_name f fields made n none =
    and_true (takes_numbers f fields made) ∙ ap (λ b. takes_numbers f fields made && (b || (has_bit fields 1 && is_among f.comms.now (thread_name n)))) (sym none)

pub taken_unnamed : (f : Filter) (m : Moment) (misc : ℕ) (s : SampleValue) (fields : ℕ) (made : Sample) → fields ≡ sample_present m.config → made ≡ sample_view misc s → (length f.comms.now == 0) ≡ true
    → takes_numbers f fields made ≡ takes_at f m misc s
taken_unnamed f m misc s fields made same view none =
    let n : Name = name_of m.known made.tid in
    any_name f fields made n none
    ∙ ap (λ k. takes_sample f k made n) same
    ∙ ap (λ (x : Sample). takes_sample f (sample_present m.config) x (name_of m.known x.tid)) view
