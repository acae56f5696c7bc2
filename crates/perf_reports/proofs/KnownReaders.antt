-- The bytes of a reader, behind a buffer too.
use Rattle.std.proofs.Common.{◌≡◌, ℕ, Bool, List, [], Option, Some, None, IsTrue, refl, ap, subst, ◌∙◌, ◌==◌, if◌then◌else◌}
use Rattle.std.specs.Prelude.{Result, Ok, Err, IfOk, IfSome}
use Rattle.std.specs.Io.KnownBytes.{prepend_known}
use Rattle.std.specs.Io.Buffered.{reader_remaining, reader_buffer, reader_capacity, reader_inner}
use Rattle.std.specs.declared.io.buffered.BufReader.{BufReader}
use Rattle.perf_buffers.specs.Buffer.{has_known_bytes, known_bytes}
use Rattle.perf_reports.specs.FramePrinting.{PrintsLines, PrintsRecording}
use Rattle.perf_reports.specs.declared.printing.Report.{Report}

-- what holds of bytes if they are known
pub of_known : (o : Option (List ℕ)) (P : List ℕ → Type 0) → (IsTrue (has_known_bytes o) → P (known_bytes o)) → IfSome o P
of_known None P there = tt
of_known (Some xs) P there = there refl

pub of_same : {o now : Option (List ℕ)} (P : List ℕ → Type 0) → o ≡ now → IfSome o P → IfSome now P
of_same P same there = subst (λ (x : Option (List ℕ)). IfSome x P) same there

-- a recording's lines were printed if it was
pub lines_of : {E : Type 0} (report : Report) (bytes : List ℕ) (o o2 e e2 : Option (List ℕ)) (r : Result Bool E) → IfOk r (λ clean. PrintsRecording report bytes o e clean o2 e2)
    → IfOk r (λ clean. PrintsLines report bytes o clean o2)
lines_of report bytes o o2 e e2 (Ok clean) p = p.0
lines_of report bytes o o2 e e2 (Err why) p = tt

nothing_before : (o : Option (List ℕ)) → prepend_known [] o ≡ o
nothing_before None = refl
nothing_before (Some xs) = refl

-- a buffer that has read nothing yet has the bytes of its reader
pub new_remaining : {T A : Type 0} (remaining : T → Option (List ℕ)) (r : BufReader T A) (input : T) → reader_inner r ≡ input → reader_buffer r ≡ [] → reader_capacity r ≡ 8192
    → reader_remaining remaining r ≡ remaining input
new_remaining remaining r input inner empty capacity =
    ap (λ (n : ℕ). if n == 0 then None else prepend_known (reader_buffer r) (remaining (reader_inner r))) capacity
    ∙ ap (λ (bs : List ℕ). prepend_known bs (remaining (reader_inner r))) empty
    ∙ nothing_before (remaining (reader_inner r)) ∙ ap remaining inner
