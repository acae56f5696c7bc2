-- What a table takes by places is what its fields take one after another, and its groups.
use Rattle.std.proofs.Common.{◌≡◌, ℕ, Bool, true, false, List, [], ◌∷◌, ◌++◌, Option, Some, None, refl, sym, ◌∙◌, ap}
use Rattle.perf_base.specs.Layout.{Parts, done, ◌>>=◌}
use Rattle.perf_base.specs.Order.{Order}
use Rattle.perf_base.specs.Table.{present_if, slot, table}
use Rattle.perf_base.specs.Took.{Took, took, quit, take_parts, took_by_places}
use Rattle.perf_base.proofs.Took.{places_took, then_take}
use Rattle.perf_reader.proofs.After.{take_after}
use Rattle.perf_reader.specs.TableRuns.{field_took, before, table_took, table_by_places, join_groups, ahead, groups_took, groups_by_places}

-- ---- one field
pub field_there : {A : Type 0} (o : Order) (b : Bool) (p : Parts A) (bytes : List ℕ) (n : ℕ) → b ≡ true →
    field_took o (present_if b p) bytes n ≡ then_take (λ v left m. took (Some v) left m) (took_by_places o p bytes n)
unfolding field_took
field_there o false p bytes n is = cc
field_there o true p bytes n is =
    take_after o p (λ v. done (Some v)) bytes n
    ∙ ap (then_take (λ v left m. took (Some v) left m)) (sym (places_took o p bytes n))

pub field_absent : {A : Type 0} (o : Order) (b : Bool) (p : Parts A) (bytes : List ℕ) (n : ℕ) → b ≡ false → field_took o (present_if b p) bytes n ≡ took None bytes n
unfolding field_took
field_absent o true p bytes n is = cc
field_absent o false p bytes n is = refl

pub ruleset optional_fields = (field_there, field_absent)

-- ---- the fields of a table
take_table : {A : Type 0} (o : Order) (fields : List (Option (Parts A))) (bytes : List ℕ) (n : ℕ) → take_parts o (table fields) bytes n ≡ table_took o fields bytes n
unfolding field_took
take_table o [] bytes n = refl
take_table {A} o (field ∷ fields) bytes n =
    take_after o (slot field) (λ v. (table fields >>= λ vs. done (v ∷ vs))) bytes n
    ∙ go (λ left m. take_table o fields left m) (take_parts o (slot field) bytes n)
  where
    all : (v : Option A) (r : Took (List (Option A))) → then_take (λ vs l k. took (v ∷ vs) l k) r ≡ before v r
    all v (took vs left m) = refl
    all v (quit e left m) = refl

    next : (v : Option A) (left : List ℕ) (m : ℕ) → take_parts o (table fields) left m ≡ table_took o fields left m →
        take_parts o (table fields >>= λ vs. done (v ∷ vs)) left m ≡ before v (table_took o fields left m)
    next v left m h =
        take_after o (table fields) (λ vs. done (v ∷ vs)) left m
        ∙ all v (take_parts o (table fields) left m)
        ∙ ap (before v) h

    go : ((left : List ℕ) (m : ℕ) → take_parts o (table fields) left m ≡ table_took o fields left m) → (r : Took (Option A)) →
        ◌≡◌ {A = Took (List (Option A))} (then_take (λ v left m. take_parts o (table fields >>= λ vs. done (v ∷ vs)) left m) r)
        (elim r [ took v left m ↦ before v (table_took o fields left m) | quit e left m ↦ quit e left m ])
    go again (took v left m) = next v left m (again left m)
    go again (quit e left m) = refl

pub places_table : {A : Type 0} (o : Order) (fields : List (Option (Parts A))) (body : List ℕ) (n : ℕ) → table_by_places o fields body n ≡ table_took o fields body n
unfolding table_by_places
places_table o fields body n = places_took o (table fields) body n ∙ take_table o fields body n

-- ---- groups
ahead_none : {X : Type 0} (r : Took (List X)) → r ≡ ahead [] r
ahead_none (took vs left n) = refl
ahead_none (quit e left n) = refl

before_ahead : {A : Type 0} (v : Option A) (us : List (Option A)) (r : Took (List (Option A))) → before v (ahead us r) ≡ ahead (v ∷ us) r
before_ahead v us (took vs left n) = refl
before_ahead v us (quit e left n) = refl

took_append : {A : Type 0} (o : Order) (xs ys : List (Option (Parts A))) (bytes : List ℕ) (n : ℕ) →
    table_took o (xs ++ ys) bytes n ≡ then_take (λ vs left m. ahead vs (table_took o ys left m)) (table_took o xs bytes n)
took_append o [] ys bytes n = ahead_none (table_took o ys bytes n)
took_append {A} o (x ∷ xs) ys bytes n = go (λ left m. took_append o xs ys left m) (field_took o x bytes n)
  where
    all : (v : Option A) (r : Took (List (Option A))) →
        before v (then_take (λ vs left m. ahead vs (table_took o ys left m)) r) ≡ then_take (λ vs left m. ahead vs (table_took o ys left m)) (before v r)
    all v (took vs left m) = before_ahead v vs (table_took o ys left m)
    all v (quit e left m) = refl

    go : ((left : List ℕ) (m : ℕ) → table_took o (xs ++ ys) left m ≡ then_take (λ vs l k. ahead vs (table_took o ys l k)) (table_took o xs left m)) → (r : Took (Option A)) →
        ◌≡◌ {A = Took (List (Option A))} (elim r [ took v left m ↦ before v (table_took o (xs ++ ys) left m) | quit e left m ↦ quit e left m ])
        (then_take (λ vs left m. ahead vs (table_took o ys left m)) (elim r as (λ r. Took (List (Option A))) [ took v left m ↦ before v (table_took o xs left m) | quit e left m ↦ quit e left m ]))
    go again (took v left m) = ap (before v) (again left m) ∙ all v (table_took o xs left m)
    go again (quit e left m) = refl

took_groups : {A : Type 0} (o : Order) (groups : List (List (Option (Parts A)))) (bytes : List ℕ) (n : ℕ) → table_took o (join_groups groups) bytes n ≡ groups_took o groups bytes n
took_groups o [] bytes n = refl
took_groups {A} o (fields ∷ groups) bytes n =
    took_append o fields (join_groups groups) bytes n
    ∙ ap (then_take (λ vs left m. ahead vs (table_took o (join_groups groups) left m))) (sym (places_table o fields bytes n))
    ∙ go (λ left m. took_groups o groups left m) (table_by_places o fields bytes n)
  where
    go : ((left : List ℕ) (m : ℕ) → table_took o (join_groups groups) left m ≡ groups_took o groups left m) → (r : Took (List (Option A))) →
        ◌≡◌ {A = Took (List (Option A))} (then_take (λ vs left m. ahead vs (table_took o (join_groups groups) left m)) r)
        (elim r [ took vs left m ↦ ahead vs (groups_took o groups left m) | quit e left m ↦ quit e left m ])
    go again (took vs left m) = ap (ahead vs) (again left m)
    go again (quit e left m) = refl

pub places_groups : {A : Type 0} (o : Order) (groups : List (List (Option (Parts A)))) (body : List ℕ) (n : ℕ) → groups_by_places o groups body n ≡ groups_took o groups body n
unfolding groups_by_places
places_groups o groups body n = places_took o (table (join_groups groups)) body n ∙ take_table o (join_groups groups) body n ∙ took_groups o groups body n
