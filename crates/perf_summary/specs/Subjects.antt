-- Which thread a frame is about.
use Rattle.std.specs.Prelude.{ℕ, List, Option, Some, None, Result, Ok, Err, get_or}
use Rattle.perf_base.specs.Attribute.{or_zero}
use Rattle.perf_base.specs.Configuration.{Configuration}
use Rattle.perf_base.specs.Order.{Order}
use Rattle.perf_base.specs.declared.error.ErrorKind.{ErrorKind}
use Rattle.perf_flat.specs.Arrays.{low_u32}
use Rattle.perf_records.specs.Answers.{answer_of_frame}
use Rattle.perf_records.specs.Records.{RecordValue, comm_is, exit_is, fork_is, sample_is}
use Rattle.perf_sample_types.specs.SampleGetters.{getters_of}
use Rattle.perf_summary.specs.declared.subjects.Kind.{Kind}
use Rattle.perf_summary.specs.declared.subjects.Kind.TheVariants as kind
use Rattle.perf_summary.specs.declared.subjects.Subject.{Subject}

-- a thread, by its ids, which have 32 bits
abbrev pub subject : (pid tid : ℕ) → Kind → Subject
subject pid tid what = record { pid = low_u32 pid; tid = low_u32 tid; kind = what }

-- the one that a record is about: that of a sample, of a COMM or EXIT, and the new one of a FORK; the ids
-- of a sample without them are 0
abbrev pub subject_in : RecordValue → Option Subject
subject_in (sample_is s) = Some (record { pid = or_zero (getters_of s).pid; tid = or_zero (getters_of s).tid; kind = kind.Sample })
subject_in (comm_is r) = Some (subject r.pid r.tid kind.Other)
subject_in (exit_is r) = Some (subject r.pid r.tid kind.Exit)
subject_in (fork_is r) = Some (subject r.pid r.tid kind.Other)
subject_in _ = None

-- the same, if there is a record
abbrev pub subject_if : Result RecordValue ErrorKind → Option Subject
subject_if (Ok value) = subject_in value
subject_if (Err e) = None

-- the one that the bytes of a frame are about
abbrev pub subject_of : Configuration → Order → List ℕ → Option Subject
subject_of c o frame = subject_if (answer_of_frame c o frame)

-- the one with these numbers in a flat frame: the first, and another. Private contracts use this form.
abbrev pub subject_at : List ℕ → (index : ℕ) → Kind → Subject
subject_at numbers index what = subject (get_or numbers 0 0) (get_or numbers index 0) what
