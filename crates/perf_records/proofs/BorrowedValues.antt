-- Values of which no byte was copied.
use Rattle.std.proofs.Common.{Bool, true, false, refl}
use Rattle.std.specs.Prelude.{Option, Some, None, IfSome, IsTrue, ◌&&◌}
use Rattle.perf_base.specs.Cow.{is_borrowed}
use Rattle.perf_sample_types.specs.SampleGroups.{IsBorrowedSample}
use Rattle.perf_sample_types.specs.declared.sample.Sample.{Sample}
use Rattle.perf_records.specs.Gives.{is_borrowed_sample}

borrowed_if : {X : Type 0} (f : X → Bool) (o : Option X) → IfSome o (λ x. IsTrue (f x)) → IsTrue (elim o [ Some x ↦ f x | None ↦ true ])
borrowed_if f (Some x) p = p
borrowed_if f None p = refl

all_three : (a b c : Bool) → IsTrue a → IsTrue b → IsTrue c → IsTrue (a && (b && c))
all_three a b c p q r = cc

pub sample_borrowed : (s : Sample) → IsBorrowedSample s → IsTrue (is_borrowed_sample s)
sample_borrowed s p = all_three _ _ _ (borrowed_if (λ raw. is_borrowed raw.0) s.state.raw p.0.0) (borrowed_if (λ stack. is_borrowed stack.0) s.state.stack_user p.0.1) (borrowed_if (λ aux. is_borrowed aux.0) s.memory.aux p.1)

-- ---- and the converse

two : (a b : Bool) → IsTrue (a && b) → IsTrue a × IsTrue b
two true true p = (refl, refl)
two true false p = absurd (cc)
two false b p = absurd (cc)

if_borrowed : {X : Type 0} (f : X → Bool) (o : Option X) → IsTrue (elim o [ Some x ↦ f x | None ↦ true ]) → IfSome o (λ x. IsTrue (f x))
if_borrowed f (Some x) p = p
if_borrowed f None p = tt

pub borrowed_sample : (s : Sample) → IsTrue (is_borrowed_sample s) → IsBorrowedSample s
borrowed_sample s p =
    let raw = two _ _ p in
    let stack = two _ _ raw.1 in
    ((if_borrowed (λ raw. is_borrowed raw.0) s.state.raw raw.0, if_borrowed (λ stack. is_borrowed stack.0) s.state.stack_user stack.0), if_borrowed (λ aux. is_borrowed aux.0) s.memory.aux stack.1)
