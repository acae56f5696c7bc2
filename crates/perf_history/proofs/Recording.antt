-- What a history has after one more mapping, and after a copy of memory.
use Rattle.std.proofs.Common.{◌≡◌, ◌∙◌, sym, ap, ap₂, refl, ℕ, ◌<◌, ◌^◌, ◌==◌, ◌&&◌, Bool, true, false, cond, List, [], ◌∷◌, ◌++◌, length, length-append, slice_get, option_and_then, Option, Some, None, vec_len, arith}
use Rattle.std.proofs.Math.Seq.{get_or-append_seam}
use Rattle.std.proofs.lemmas.List.{get_or_append_left}
use Rattle.std.proofs.lemmas.Option.{slice_get-get_or}
use Rattle.std.specs.BTreeMap.{get}
use Rattle.std.specs.Ordering.{nat_cmp}
use Rattle.perf_history.specs.Forks.{copies_memory}
use Rattle.perf_history.specs.Ranges.{is_within}
use Rattle.perf_history.specs.Recorded.{IsSame, Sets, Copies, Inherits, mapping_in}
use Rattle.perf_history.specs.Spaces.{number_at}
use Rattle.perf_history.specs.declared.changes.Fork.{Fork}
use Rattle.perf_history.specs.declared.histories.History.{History}
use Rattle.perf_history.specs.declared.places.Mapping.{Mapping}

-- the last of some mappings, and the others
last : (ms : List Mapping) (m : Mapping) → slice_get (ms ++ m ∷ []) (length ms) ≡ Some m
last ms m =
    slice_get-get_or (ms ++ m ∷ []) (length ms) m (omega (arith, length-append ms (m ∷ [])))
    ∙ ap Some (get_or-append_seam ms m [] m)

other : (ms : List Mapping) (m : Mapping) (v : Option ℕ) → ((i : ℕ) → v ≡ Some i → i < length ms) → option_and_then (slice_get (ms ++ m ∷ [])) v ≡ option_and_then (slice_get ms) v
other ms m None h = refl
other ms m (Some i) h =
    let lt : i < length ms = h i refl in
    slice_get-get_or (ms ++ m ∷ []) i m (omega (arith, length-append ms (m ∷ [])))
    ∙ ap Some (get_or_append_left ms (m ∷ []) m i lt)
    ∙ sym (slice_get-get_or ms i m lt)

either : (b : Bool) (ms : List Mapping) (m : Mapping) (n : ℕ) (v : Option ℕ) → n ≡ length ms → ((i : ℕ) → v ≡ Some i → i < length ms) → option_and_then (slice_get (ms ++ m ∷ [])) (cond b (Some n) v) ≡ cond b (Some m) (option_and_then (slice_get ms) v)
either true ms m n v e h = ap (slice_get (ms ++ m ∷ [])) e ∙ last ms m
either false ms m n v e h = other ms m v h

-- each number that it has is that of a mapping
known_length : (old : History) (space a i : ℕ) → a < 2 ^ 64 → number_at old.spaces space a ≡ Some i → i < length old.mappings.items
known_length old space a i lt e = omega (arith, old.known space a i lt e, old.mappings.ok.0)

pub pushed_sets : (old new : History) (n space start len : ℕ) (m : Mapping) → n ≡ vec_len old.mappings → new.names ≡ old.names → new.mappings.items ≡ old.mappings.items ++ m ∷ [] → ((other a : ℕ) → a < 2 ^ 64 → number_at new.spaces other a ≡ cond (space == other && is_within start len a) (Some n) (number_at old.spaces other a)) → Sets space start len (Some m) old new
pushed_sets old new n space start len m at names items numbers = record {
  names = λ tid. ap (λ ns. option_and_then (λ name. name) (get nat_cmp ns tid)) names;
  places = λ other a lt.
      ap₂ (λ ms v. option_and_then (slice_get ms) v) items (numbers other a lt)
      ∙ either (space == other && is_within start len a) old.mappings.items m n (number_at old.spaces other a) (omega (arith, old.mappings.ok.0)) (λ i e. known_length old other a i lt e);
}

pub pushed_same : (old new : History) (m : Mapping) → new.names ≡ old.names → new.mappings.items ≡ old.mappings.items ++ m ∷ [] → ((space a : ℕ) → number_at new.spaces space a ≡ number_at old.spaces space a) → IsSame old new
pushed_same old new m names items numbers = record {
  names = λ tid. ap (λ ns. option_and_then (λ name. name) (get nat_cmp ns tid)) names;
  places = λ space a lt.
      ap₂ (λ ms v. option_and_then (slice_get ms) v) items (numbers space a)
      ∙ other old.mappings.items m (number_at old.spaces space a) (λ i e. known_length old space a i lt e);
}

-- ---- a copy of memory

moved : {X : Type 0} (g : ℕ → X) (b c : Bool) (parent space : ℕ) → c ≡ true → cond b (g parent) (g space) ≡ g (cond (b && c) parent space)
moved g true true parent space e = refl
moved g true false parent space e = cc
moved g false c parent space e = refl

stayed : {X : Type 0} (g : ℕ → X) (b c : Bool) (parent space : ℕ) → c ≡ false → g space ≡ g (cond (b && c) parent space)
stayed g true true parent space e = cc
stayed g true false parent space e = refl
stayed g false c parent space e = refl

pub copied : (fork : Fork) (old new : History) → copies_memory fork ≡ true → Copies fork.ppid fork.pid old new → Inherits fork old new
copied fork old new is c = record {
  names = c.names;
  places = λ space a lt.
      c.places space a lt ∙ moved (λ s. mapping_in old s a) (fork.pid == space) (copies_memory fork) fork.ppid space is;
}

pub not_copied : (fork : Fork) (old : History) → copies_memory fork ≡ false → Inherits fork old old
not_copied fork old is = record {
  names = λ tid. refl;
  places = λ space a lt. stayed (λ s. mapping_in old s a) (fork.pid == space) (copies_memory fork) fork.ppid space is;
}
