-- Items of this library, parsed in a row, keep what each of them keeps.
use Rattle.std.proofs.Common.{ℕ, List, [], ◌∷◌, sym, subst, inl, inr, arith}
use Rattle.std.specs.Prelude.{None, Some}
use Rattle.perf_base.specs.declared.error.ErrorKind.{ErrorKind}
use Rattle.perf_base.specs.declared.error.ErrorKind.TheVariants.{OutOfMemory}
use Rattle.perf_reader.specs.ReaderState.{ReaderState}
use Rattle.perf_reader.specs.Reading.{Transition, CallInvariant}
use Rattle.perf_parser.specs.Calls.{KeepsInvariant}
use Rattle.perf_parser.specs.Repeats.{ParsesInTurn, StopsShort}
use Rattle.perf_parser.proofs.Calls.{chain}

-- there was no memory for what was read
keeps_refused : (start new : ReaderState) → CallInvariant start None new → CallInvariant start (Some OutOfMemory) new
keeps_refused start new k = record {
  buffer = k.buffer;
  fault = λ external. cc;
  cost = λ told. let m = k.cost told in (m.0, omega (arith, m.1));
  place = k.place;
}

module _ {T : Type 0} (parses : Transition T) where
  pub runs_kept : (start a b : ReaderState) (xs : List T) → ParsesInTurn parses KeepsInvariant a xs b → CallInvariant start None a → CallInvariant start None b
  runs_kept start a b [] p k = subst (CallInvariant start None) (sym p) k
  runs_kept start a b (x ∷ xs) p k = runs_kept start p.0 b xs p.2 (p.1.counted start k)

  pub short_kept : (start a b : ReaderState) (n : ℕ) (e : ErrorKind) → StopsShort parses KeepsInvariant a n e b → CallInvariant start None a → CallInvariant start (Some e) b
  short_kept start a b n e p k = elim p [
    | inl q ↦ q.4.counted start (runs_kept start a q.1 q.0 q.3 k)
    | inr q ↦ subst (λ why. CallInvariant start (Some why) b) (sym q.3) (keeps_refused start b (runs_kept start a b q.0 q.2 k))
  ]

-- what calls of this library and lists of its items need, one after another
pub ruleset items = (chain, runs_kept, short_kept)
