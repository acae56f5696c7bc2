-- Lists that are filled in memory of the caller's.
use Rattle.std.specs.Prelude.{◌≡◌, List, Result, Ok, Err}
use Rattle.perf_sections.specs.declared.error.OpenError.{OpenError}

-- what was written is the list of the definition, or the refusal is its
abbrev pub Fills : {A : Type 0} → Result (Unit {0}) OpenError → Result (List A) OpenError → List A → Type 0
Fills (Ok done) expected written = expected ≡ Ok written
Fills (Err e) expected written = expected ≡ Err e
