-- The events that ids belong to.
use Rattle.std.specs.Prelude.{◌≡◌, ℕ, ◌==◌, List, [], ◌∷◌, Option, Some, if◌then◌else◌}
use Rattle.std.specs.BTreeMap.{BTreeMap, get}
use Rattle.std.specs.Ordering.{nat_cmp}
use Rattle.perf_sections.specs.declared.ids.IdOfEvent.{IdOfEvent}
use Rattle.perf_script.specs.declared.ids.Ids.{Ids}

-- the event that is found for an id
abbrev pub finds : Ids → (id : ℕ) → Option ℕ
finds ids id = get nat_cmp ids.events id

-- the first event that has an id, or else another one
abbrev pub event_or : List IdOfEvent → (id : ℕ) → (other : Option ℕ) → Option ℕ
event_or [] id other = other
event_or (e ∷ es) id other = if e.id == id then Some e.event else event_or es id other

-- these ids were added to those that were there
abbrev pub Adds : List IdOfEvent → (old new : BTreeMap ℕ ℕ) → Type 0
Adds added old new = (id : ℕ) → get nat_cmp new id ≡ event_or added id (get nat_cmp old id)
