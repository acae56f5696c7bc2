-- The events of ids, in tables one after another.
use Rattle.std.proofs.Common.{◌≡◌, ℕ, Bool, ◌==◌, List, [], ◌∷◌, ◌++◌, map, refl, ap}
use Rattle.std.specs.Prelude.{Some, if◌then◌else◌}
use Rattle.perf_sections.specs.IdTables.{event_of, id_table}
use Rattle.perf_sections.specs.Opened.{FileEvent, event_view}
use Rattle.perf_sections.specs.declared.events.Event.{Event}
use Rattle.perf_sections.specs.declared.ids.IdOfEvent.{IdOfEvent}
use Rattle.perf_script.specs.Ids.{event_or}

pub if_alike : {A : Type 0} (b : Bool) (x y z : A) → y ≡ z → (if b then x else y) ≡ (if b then x else z)
if_alike b x y z e = ap (λ w. if b then x else w) e

-- the event of an id in two tables
pub event_append : (xs ys : List IdOfEvent) (id : ℕ) → event_of (xs ++ ys) id ≡ event_or xs id (event_of ys id)
event_append [] ys id = refl
event_append (x ∷ xs) ys id = if_alike (x.id == id) (Some x.event) (event_of (xs ++ ys) id) (event_or xs id (event_of ys id)) (event_append xs ys id)

-- the table of events of which the first has that number
abbrev pub ids_from : (first : ℕ) → List Event → List IdOfEvent
ids_from first events = id_table first (map (λ (e : FileEvent). e.ids) (map event_view events))
