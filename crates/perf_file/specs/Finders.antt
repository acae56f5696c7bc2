-- How the event of a frame is found by ids in memory of the caller's.
use Rattle.std.specs.Prelude.{◌≡◌, ℕ, List, length, nat_lt}
use Rattle.std.specs.List.Sorted.{IsNonDecreasingBy}
use Rattle.perf_sections.specs.IdPlaces.{first_place}
use Rattle.perf_sections.specs.IdTables.{event_of}
use Rattle.perf_sections.specs.Opened.{File, attributes_of, table_of}
use Rattle.perf_file.specs.Owners.{first_has_ids}
use Rattle.perf_file.specs.declared.finding.Finder.{Finder}
use Rattle.perf_sections.specs.declared.ids.IdOfEvent.{IdOfEvent}

-- a table of a file's ids by rising ids
pub record IsTableOf (f : File) (ids : List IdOfEvent) : Type 0 where
  pub sorted : IsNonDecreasingBy (λ (e : IdOfEvent). e.id) ids
  pub found : (id : ℕ) → event_of ids id ≡ event_of (table_of f.events) id

-- it has what the events of a file's frames depend on
pub record Finds (f : File) (by : Finder) : Type 0 where
  pub order : by.order ≡ f.order
  pub single : by.is_single ≡ nat_lt (length f.events) 2
  pub first : by.first_has_ids ≡ first_has_ids (attributes_of f.events)
  pub place : by.place ≡ first_place (attributes_of f.events)
  pub table : IsTableOf f by.ids.now
