-- What reading the attribute in front keeps.
use Rattle.std.proofs.Common.{◌≡◌, ℕ, ◌+◌, ◌≤◌, length, true, sym, subst, ap, arith}
use Rattle.std.specs.Prelude.{None, Some, IsTrue}
use Rattle.perf_base.specs.declared.error.ErrorKind.{ErrorKind}
use Rattle.perf_base.specs.declared.error.ErrorKind.TheVariants.{External, OutOfMemory}
use Rattle.perf_buffers.specs.Buffer.{Source, BufferInvariant}
use Rattle.perf_reader.specs.ReaderState.{ReaderState}
use Rattle.perf_reader.specs.Reading.{CallInvariant, last_of, of_layout, is_external, one_if_refused}

-- what was kept up to one state is kept up to another with the same source and reads
pub keeps_moved : (start old new : ReaderState) → new.source ≡ old.source → new.reads ≡ old.reads → CallInvariant start None old → CallInvariant start None new
keeps_moved start old new s r k = record {
  buffer = subst (λ (x : Source). BufferInvariant start.source None x) (sym s) k.buffer;
  fault = k.fault;
  cost = subst (λ (x : Source). IsTrue start.source.told → (start.reads ≤ new.reads) × (new.reads + length x.left ≤ start.reads + length start.source.left + one_if_refused None)) (sym s)
      (subst (λ (n : ℕ). IsTrue start.source.told → (start.reads ≤ n) × (n + length old.source.left ≤ start.reads + length start.source.left + one_if_refused None)) (sym r) k.cost);
  place = subst (λ (x : Source). IsTrue start.source.told → (length x.left ≤ length start.source.left) × (x.left ≡ last_of (length x.left) start.source.left)) (sym s) k.place;
}

-- out of memory is no kind of a layout
pub not_of_layout : (k : ErrorKind) → k ≡ OutOfMemory → IsTrue (of_layout k) → ⊥
not_of_layout k is known = grind (arith, is, known)

-- nor a fault of the buffer
pub no_fault : (k : ErrorKind) → k ≡ OutOfMemory → k ≡ External → ⊥
no_fault k is external = grind (arith, is, external)

-- the kind `External` is that of a fault of the buffer
pub is_external_fault : (k : ErrorKind) → k ≡ External → is_external (Some k) ≡ true
is_external_fault k e = ap (λ x. is_external (Some x)) e
