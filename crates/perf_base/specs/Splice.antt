-- Bytes inserted into a body, and removed from it: the effect on a SAMPLE of a sample type with one
-- flag more, or one less.
use Rattle.std.specs.Prelude.{◌≡◌, ℕ, List, [], ◌∷◌, ◌++◌, length, take, drop, Option, Some, None}
use Rattle.perf_base.specs.Order.{Order}
use Rattle.perf_base.specs.Layout.{Shape, number, optional, byte_string, words, padding, rest, ShapeValue}
use Rattle.perf_base.specs.Layout.{Parts, done, part, check, ending, spots, first_refusal}

-- a shape that does not take all remaining bytes
abbrev pub IsBounded : Shape → Type 0
IsBounded (number w) = Unit {0}
IsBounded (optional b w) = Unit {0}
IsBounded (byte_string k) = Unit {0}
IsBounded (words k) = Unit {0}
IsBounded (padding k) = Unit {0}
IsBounded rest = ⊥

-- Parts are closed if none takes all remaining bytes, so that more bytes may follow them.
abbrev pub Closed : {A : Type 0} → Parts A → Type 0
Closed (done v) = Unit {0}
Closed (part shape k) = IsBounded shape × ((a : ShapeValue shape) → Closed (k a))
Closed (check t e p) = Closed p

-- a field is closed if it is absent, or if its parts are
abbrev pub IsClosed : {A : Type 0} → Option (Parts A) → Type 0
IsClosed None = Unit {0}
IsClosed (Some p) = Closed p

-- each field of a table is closed
abbrev pub AllClosed : {A : Type 0} → List (Option (Parts A)) → Type 0
AllClosed [] = Unit {0}
AllClosed (field ∷ fields) = IsClosed field × AllClosed fields

-- Bytes w spell parts p: the parts succeed on w alone, and end where w ends.
pub record Spells {A : Type 0} (o : Order) (p : Parts A) (w : List ℕ) : Type 0 where
  pub stand : first_refusal (length w) (spots o w 0 p) ≡ None
  pub whole : ending o w 0 p ≡ length w

-- the body with w inserted at offset n
abbrev pub put_in : List ℕ → ℕ → List ℕ → List ℕ
put_in body n w = take n body ++ (w ++ drop n body)

-- the body without the bytes from offset n to offset m
abbrev pub take_out : List ℕ → ℕ → ℕ → List ℕ
take_out body n m = take n body ++ drop m body
