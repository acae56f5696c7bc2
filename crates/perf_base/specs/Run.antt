-- The parts one after another over the remaining bytes, as a reader takes them. Proofs and private
-- contracts use this form; `proofs/Bridge` shows that it gives what the layout gives by offsets,
-- and leaves the bytes stated here.
use Rattle.std.specs.Prelude.{ℕ, true, false, List, [], ◌∷◌, length, take, drop, Some, None}
use Rattle.std.specs.Prelude.{Result, Ok, Err, nat_le}
use Rattle.perf_base.specs.Order.{Order}
use Rattle.perf_base.specs.Layout.{Shape, ShapeValue, shape_value, Parts, done, part, check, size, Spot}
use Rattle.perf_base.specs.Layout.{takes, holds, stands, spots, ending, value, first_refusal}
use Rattle.perf_base.specs.declared.error.ErrorKind.{ErrorKind}
use Rattle.perf_base.specs.declared.error.ErrorKind.TheVariants.{Eof}

-- a value and the bytes after it, or a kind and the bytes that remain
pub data Ran (A : Type 0) : Type 0 where
  ran : A → List ℕ → Ran A
  stopped : ErrorKind → List ℕ → Ran A

-- the value or the kind, without the bytes
abbrev pub answer : {A : Type 0} → Ran A → Result A ErrorKind
answer (ran v left) = Ok v
answer (stopped e left) = Err e

-- ---- step by step

-- One part over the remaining bytes. It is unfolded only on request, so that a proof steps through
-- the parts of a value one after another.
unfoldable pub one : (o : Order) (shape : Shape) → List ℕ → Ran (ShapeValue shape)
one o shape bytes =
    let n = size shape (length bytes) in
    elim (nat_le n (length bytes))
    [ true ↦ ran (shape_value o shape (take n bytes)) (drop n bytes) | false ↦ stopped Eof [] ]

-- the parts one after another, over the remaining bytes
abbrev pub run_parts : {A : Type 0} → Order → Parts A → List ℕ → Ran A
run_parts o (done v) bytes = ran v bytes
run_parts o (part shape k) bytes =
    elim (one o shape bytes)
    [ ran v left ↦ run_parts o (k v) left | stopped e left ↦ stopped e left ]
run_parts o (check t e p) bytes = elim t [ true ↦ run_parts o p bytes | false ↦ stopped e bytes ]

-- ---- by offsets

-- what remains after a part that fails: nothing, or for a check the bytes at its offset
abbrev pub after : List ℕ → Spot → List ℕ
after body (takes s n shape) = []
after body (holds s t e) = drop s body

-- what remains after the first that fails
abbrev pub left_at : List ℕ → List Spot → List ℕ
left_at body [] = []
left_at body (x ∷ xs) =
    elim (stands (length body) x) [ true ↦ left_at body xs | false ↦ after body x ]

-- the layout from offset s on, and what it leaves
abbrev pub run_by_spots : {A : Type 0} → Order → List ℕ → ℕ → Parts A → Ran A
run_by_spots o body s p =
    elim (first_refusal (length body) (spots o body s p)) [
      | None ↦ ran (value o body s p) (drop (ending o body s p) body)
      | Some e ↦ stopped e (left_at body (spots o body s p))
    ]

-- The layout and what it leaves, stated by offsets alone. It is unfolded only on request.
unfoldable pub by_places : {A : Type 0} → Order → Parts A → List ℕ → Ran A
by_places o p body = run_by_spots o body 0 p
