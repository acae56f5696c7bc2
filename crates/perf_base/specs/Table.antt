-- Tables: fields one after another, each present or absent, as the sample type of
-- perf_event_open(2) specifies for a SAMPLE.
use Rattle.std.specs.Prelude.{ℕ, Bool, true, false, List, [], ◌∷◌, take, Option, Some, None}
use Rattle.perf_base.specs.Order.{Order}
use Rattle.perf_base.specs.Layout.{Parts, done, ◌>>=◌, ending}

-- a field that is present if the flag is set
abbrev pub present_if : {A : Type 0} → Bool → Parts A → Option (Parts A)
present_if true p = Some p
present_if false p = None

-- the parts of a field, none if it is absent
abbrev pub slot : {A : Type 0} → Option (Parts A) → Parts (Option A)
slot None = done None
slot (Some p) = p >>= λ v. done (Some v)

-- A table is parts too: those of its fields in sequence. Its value is the list of theirs.
abbrev pub table : {A : Type 0} → List (Option (Parts A)) → Parts (List (Option A))
table [] = done []
table (field ∷ fields) = slot field >>= λ v. (table fields >>= λ vs. done (v ∷ vs))

-- the offset that field i has, or would have
abbrev pub place_of : {A : Type 0} → Order → List ℕ → List (Option (Parts A)) → ℕ → ℕ
place_of o body fields i = ending o body 0 (table (take i fields))
