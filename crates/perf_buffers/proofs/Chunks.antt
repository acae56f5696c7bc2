-- A call after others, and what it means for the buffer.
use Rattle.std.proofs.Common.{◌∙◌, ap}
use Rattle.std.specs.Prelude.{Option, None}
use Rattle.perf_base.specs.declared.error.ErrorKind.{ErrorKind}
use Rattle.perf_buffers.specs.Buffer.{Source, BufferInvariant, faults_after}

-- calls that were not refused, and then another call
pub stays_then : (a b c : Source) (e : Option ErrorKind) → BufferInvariant a None b → BufferInvariant b e c → BufferInvariant a e c
stays_then a b c e p q = (q.0 ∙ p.0, (λ x. p.1 (q.1 x)), q.2 ∙ ap (λ n. faults_after n e) p.2, (λ t. q.3 (p.3 t)))
