-- How the fields of a table are read, one after another, and groups of them. Proofs and private
-- contracts use this form; `proofs/TableRuns` shows that it is what the table takes by places.
use Rattle.std.specs.Prelude.{ℕ, List, [], ◌∷◌, ◌++◌, Option, IsTrue, IfOk}
use Rattle.perf_base.specs.Configuration.{Configuration}
use Rattle.perf_base.specs.Layout.{Parts}
use Rattle.perf_base.specs.Order.{Order}
use Rattle.perf_base.specs.Table.{slot, table}
use Rattle.perf_base.specs.Took.{Took, took, quit, take_parts, took_by_places}
use Rattle.perf_reader.specs.Reading.{Transition, AnswersRun, Reads}

-- ---- the fields of a table

-- one field of a table, after n reads; it is opened only when a proof asks for it
unfoldable pub field_took : {A : Type 0} → Order → Option (Parts A) → List ℕ → ℕ → Took (Option A)
field_took o field bytes n = take_parts o (slot field) bytes n

-- a value before those that follow
abbrev pub before : {A : Type 0} → Option A → Took (List (Option A)) → Took (List (Option A))
before v (took vs left n) = took (v ∷ vs) left n
before v (quit e left n) = quit e left n

-- the fields of a table, one after another
abbrev pub table_took : {A : Type 0} → Order → List (Option (Parts A)) → List ℕ → ℕ →
    Took (List (Option A))
table_took o [] bytes n = took [] bytes n
table_took o (field ∷ fields) bytes n =
    elim (field_took o field bytes n)
    [ took v left m ↦ before v (table_took o fields left m) | quit e left m ↦ quit e left m ]

-- what a table takes, by places alone; it is opened only when a proof asks for it
unfoldable pub table_by_places : {A : Type 0} → Order → List (Option (Parts A)) → List ℕ → ℕ →
    Took (List (Option A))
table_by_places o fields body n = took_by_places o (table fields) body n

-- ---- groups of fields

-- the fields of groups in one list
abbrev pub join_groups : {X : Type 0} → List (List X) → List X
join_groups [] = []
join_groups (xs ∷ xss) = xs ++ join_groups xss

-- values before those that follow
abbrev pub ahead : {X : Type 0} → List X → Took (List X) → Took (List X)
ahead us (took vs left n) = took (us ++ vs) left n
ahead us (quit e left n) = quit e left n

-- the groups of a table, one after another
abbrev pub groups_took : {A : Type 0} → Order → List (List (Option (Parts A))) → List ℕ → ℕ →
    Took (List (Option A))
groups_took o [] bytes n = took [] bytes n
groups_took o (fields ∷ groups) bytes n =
    elim (table_by_places o fields bytes n)
    [ took vs left m ↦ ahead vs (groups_took o groups left m) | quit e left m ↦ quit e left m ]

-- what the table of all groups takes, by places alone
unfoldable pub groups_by_places : {A : Type 0} → Order → List (List (Option (Parts A))) → List ℕ →
    ℕ → Took (List (Option A))
groups_by_places o groups body n = took_by_places o (table (join_groups groups)) body n

-- ---- what is returned

-- the layout of parts, if no byte is copied from a whole buffer; memory may be taken
abbrev pub ReadsBorrowed : {X A : Type 0} → (Configuration → Parts A) → (X → A) → (X → Type 0) →
    Transition X
ReadsBorrowed parts view borrowed old outcome new =
    Reads parts view old outcome new × (IsTrue old.source.whole → IfOk outcome borrowed)

-- the same of one field of a table
abbrev pub ReadsField : {X A : Type 0} → (Configuration → Option (Parts A)) → (X → Option A) →
    (X → Type 0) → Transition X
ReadsField field view borrowed old outcome new =
    AnswersRun view (field_took old.order (field old.settings) old.source.left old.reads) outcome new
    × (IsTrue old.source.whole → IfOk outcome borrowed)

-- the same of a table
abbrev pub ReadsTable : {X A : Type 0} → (Configuration → List (Option (Parts A))) →
    (X → List (Option A)) → (X → Type 0) → Transition X
ReadsTable fields view borrowed old outcome new =
    AnswersRun view
    (table_by_places old.order (fields old.settings) old.source.left old.reads) outcome new
    × (IsTrue old.source.whole → IfOk outcome borrowed)
