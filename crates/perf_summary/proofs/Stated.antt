-- The thread that a flat frame is about.
use Rattle.std.proofs.Common.{◌≡◌, ℕ, List, refl, sym, ◌∙◌, ap, subst}
use Rattle.std.specs.Prelude.{Some, None, Result, Ok, Err}
use Rattle.perf_base.specs.Attribute.{or_zero}
use Rattle.perf_base.specs.Configuration.{Configuration, under_misc}
use Rattle.perf_base.specs.Header.{header_of}
use Rattle.perf_base.specs.Order.{Order}
use Rattle.perf_base.specs.declared.error.ErrorKind.{ErrorKind}
use Rattle.perf_flat.specs.Arrays.{filled}
use Rattle.perf_flat.specs.Flat.{IsFlat, read_type}
use Rattle.perf_flat.specs.RecordNumbers.{numbers_of}
use Rattle.perf_flat.specs.declared.frame.FlatFrame.{FlatFrame}
use Rattle.perf_records.specs.Answers.{answer_of_frame}
use Rattle.perf_records.specs.Records.{RecordValue}
use Rattle.perf_records.specs.Records as records
use Rattle.perf_sample_types.specs.Sample.{SampleValue, sample}
use Rattle.perf_sample_types.specs.SampleGetters.{getters_of}
use Rattle.perf_types.specs.Comm.{CommValue, comm}
use Rattle.perf_types.specs.Numbers.{exit}
use Rattle.perf_types.specs.declared.numbers.Exit.{Exit}
use Rattle.perf_walk.proofs.Stated.{of_type, flat_record}
use Rattle.perf_walk.proofs.Values.{answer_value, kind_of, body_kind}
use Rattle.perf_summary.specs.Subjects.{subject, subject_in, subject_if, subject_of, subject_at}
use Rattle.perf_summary.specs.declared.subjects.Kind.TheVariants as kind

same_sample : (pid tid : ℕ) (s : SampleValue) → pid ≡ or_zero (getters_of s).pid → tid ≡ or_zero (getters_of s).tid
    → Some (record { pid = pid; tid = tid; kind = kind.Sample }) ≡ subject_in (records.sample_is s)
same_sample pid tid s p t = rw (p, t) refl

pub of_sample : (c : Configuration) (o : Order) (bytes : List ℕ) (f : FlatFrame) → IsFlat c o bytes f → f.read ≡ 9
    → Some (record { pid = f.pid; tid = f.tid; kind = kind.Sample }) ≡ subject_of c o bytes
of_sample c o bytes f is read =
    let found = of_type 8 records.sample_is (λ c. sample c) (λ _. refl) c o bytes f is read in
    let ids = (flat_record c o bytes (records.sample_is found.0) f is found.1).1.0.id in
    same_sample f.pid f.tid found.0 ids.pid ids.tid ∙ sym (ap subject_if found.1)

comm_numbers : (r : CommValue) → subject_at (filled (numbers_of (records.comm_is r))) 1 kind.Other ≡ subject r.pid r.tid kind.Other
unfolding filled
comm_numbers r = refl

exit_numbers : (r : Exit) → subject_at (filled (numbers_of (records.exit_is r))) 2 kind.Exit ≡ subject r.pid r.tid kind.Exit
unfolding filled
exit_numbers r = refl

fork_numbers : (r : Exit) → subject_at (filled (numbers_of (records.fork_is r))) 2 kind.Other ≡ subject r.pid r.tid kind.Other
unfolding filled
fork_numbers r = refl

pub of_comm : (c : Configuration) (o : Order) (bytes : List ℕ) (f : FlatFrame) → IsFlat c o bytes f → f.read ≡ 3 → Some (subject_at f.numbers 1 kind.Other) ≡ subject_of c o bytes
of_comm c o bytes f is read =
    let found = of_type 2 records.comm_is (λ _. comm) (λ _. refl) c o bytes f is read in
    let stated = flat_record c o bytes (records.comm_is found.0) f is found.1 in
    ap Some (ap (λ ns. subject_at ns 1 kind.Other) stated.1.0.numbers ∙ comm_numbers found.0) ∙ sym (ap subject_if found.1)

pub of_exit : (c : Configuration) (o : Order) (bytes : List ℕ) (f : FlatFrame) → IsFlat c o bytes f → f.read ≡ 4 → Some (subject_at f.numbers 2 kind.Exit) ≡ subject_of c o bytes
of_exit c o bytes f is read =
    let found = of_type 3 records.exit_is (λ _. exit) (λ _. refl) c o bytes f is read in
    let stated = flat_record c o bytes (records.exit_is found.0) f is found.1 in
    ap Some (ap (λ ns. subject_at ns 2 kind.Exit) stated.1.0.numbers ∙ exit_numbers found.0) ∙ sym (ap subject_if found.1)

pub of_fork : (c : Configuration) (o : Order) (bytes : List ℕ) (f : FlatFrame) → IsFlat c o bytes f → f.read ≡ 7 → Some (subject_at f.numbers 2 kind.Other) ≡ subject_of c o bytes
of_fork c o bytes f is read =
    let found = of_type 6 records.fork_is (λ _. exit) (λ _. refl) c o bytes f is read in
    let stated = flat_record c o bytes (records.fork_is found.0) f is found.1 in
    ap Some (ap (λ ns. subject_at ns 2 kind.Other) stated.1.0.numbers ∙ fork_numbers found.0) ∙ sym (ap subject_if found.1)

-- the type is none of those that are about a thread
pub record IsOther (n : ℕ) : Type 0 where
  pub sample : n ≡ 9 → ⊥
  pub comm : n ≡ 3 → ⊥
  pub exit : n ≡ 4 → ⊥
  pub fork : n ≡ 7 → ⊥

no_subject : (v : RecordValue) → IsOther (kind_of v) → subject_in v ≡ None
no_subject (records.sample_is s) n = absurd (n.sample refl)
no_subject (records.comm_is r) n = absurd (n.comm refl)
no_subject (records.exit_is r) n = absurd (n.exit refl)
no_subject (records.fork_is r) n = absurd (n.fork refl)
no_subject _ n = refl

kind_read : (c : Configuration) (o : Order) (bytes : List ℕ) (v : RecordValue) (f : FlatFrame) → IsFlat c o bytes f → answer_of_frame c o bytes ≡ Ok v → f.read ≡ kind_of v
kind_read c o bytes v f is e =
    let h = header_of o bytes in
    let found = answer_value c o bytes v e in
    (flat_record c o bytes v f is e).1.0.read ∙ ap read_type is.header.type_ ∙ sym (body_kind (under_misc h.misc c) o found.0 h.type_) ∙ ap kind_of (sym found.1)

pub of_other : (c : Configuration) (o : Order) (bytes : List ℕ) (f : FlatFrame) → IsFlat c o bytes f → IsOther f.read → None ≡ subject_of c o bytes
of_other c o bytes f is other = go (answer_of_frame c o bytes) refl where
  go : (a : Result RecordValue ErrorKind) → answer_of_frame c o bytes ≡ a → None ≡ subject_of c o bytes
  go (Err k) e = sym (ap subject_if e)
  go (Ok v) e = sym (ap subject_if e ∙ no_subject v (subst IsOther (kind_read c o bytes v f is e) other))
