-- Which event a frame belongs to.
use Rattle.std.specs.Prelude.{ℕ, ◌==◌, ◌&&◌, ◌||◌, not, Bool, false, List, [], ◌∷◌, length, nat_lt, nat_le, Option, Some, None, if◌then◌else◌}
use Rattle.perf_base.specs.Configuration.{configured_by}
use Rattle.perf_base.specs.Dynamic.{order_of}
use Rattle.perf_base.specs.declared.sys.perf_event_attr.{perf_event_attr}
use Rattle.perf_records.specs.Sights.{Sight, whole, bad}
use Rattle.perf_sections.specs.IdPlaces.{first_place, id_at}
use Rattle.perf_sections.specs.IdTables.{event_of}
use Rattle.perf_sections.specs.Opened.{File, attributes_of, table_of}
use Rattle.perf_sections.specs.declared.id_place.IdPlace.{IdPlace}
use Rattle.perf_sections.specs.declared.ids.IdOfEvent.{IdOfEvent}
use Rattle.perf_file.specs.declared.owning.Owner.{Owner}
use Rattle.perf_file.specs.declared.owning.Owner.TheVariants as owner

-- whether records of the first event other than SAMPLE end with a sample id
abbrev pub first_has_ids : List perf_event_attr → Bool
first_has_ids [] = false
first_has_ids (a ∷ others) = (configured_by a).sample_id_all

-- whether a frame of that type belongs to the first event whatever it contains: there is no other
-- event, or such frames have no sample id
abbrev pub is_of_first : File → ℕ → Bool
is_of_first f type = nat_lt (length f.events) 2 || (not (type == 9) && not (first_has_ids (attributes_of f.events)))

-- the id at a place, if there is one
abbrev pub id_if : File → Option IdPlace → ℕ → List ℕ → Option ℕ
id_if f None type bytes = None
id_if f (Some place) type bytes = id_at (order_of f.order) place type bytes

-- the id of a frame of that type with these bytes after its header, at the place that all events have
abbrev pub id_in : File → ℕ → List ℕ → Option ℕ
id_in f type bytes = id_if f (first_place (attributes_of f.events)) type bytes

-- the event that was found for an id
abbrev pub owner_with : Option ℕ → ℕ → Owner
owner_with (Some event) id = owner.Event event
owner_with None id = owner.Unknown id

-- by the id of a frame: perf made the record itself if that is 0
abbrev pub owner_by : List IdOfEvent → Option ℕ → Owner
owner_by table None = owner.Short
owner_by table (Some id) = if id == 0 then owner.Event 0 else owner_with (event_of table id) id

-- The owner of a frame of that type with these bytes after its header. Types from 64 on are perf's
-- own.
abbrev pub owner_of : File → ℕ → List ℕ → Owner
owner_of f type bytes =
    if nat_le 64 type then owner.Perf
    else (if is_of_first f type then owner.Event 0
    else owner_by (table_of f.events) (id_in f type bytes))

-- the owner of what is found where a frame begins: a header that no whole frame follows has no bytes
abbrev pub owner_of_sight : File → Sight → Owner
owner_of_sight f (whole h bytes borrowed) = owner_of f h.type_ bytes
owner_of_sight f (bad h e) = owner_of f h.type_ []
