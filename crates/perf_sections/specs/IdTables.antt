-- Which event has an id.
use Rattle.std.specs.Prelude.{◌≡◌, ◌≢◌, ℕ, ◌+◌, ◌==◌, Bool, false, List, [], ◌∷◌, ◌++◌, map, min, Option, Some, None, Result, Ok, Err, if◌then◌else◌}
use Rattle.std.specs.List.{Contains}
use Rattle.perf_sections.specs.declared.ids.IdOfEvent.{IdOfEvent}
use Rattle.perf_sections.specs.declared.error.OpenError.{OpenError}
use Rattle.perf_sections.specs.declared.error.OpenError.TheVariants as errors

-- the ids of one event
abbrev pub ids_of : ℕ → List ℕ → List IdOfEvent
ids_of event ids = map (λ id. record { id = id; event = event }) ids

-- the ids of all events, the first of which has that number
abbrev pub id_table : ℕ → List (List ℕ) → List IdOfEvent
id_table event [] = []
id_table event (ids ∷ others) = ids_of event ids ++ id_table (event + 1) others

-- the first event that has an id
abbrev pub event_of : List IdOfEvent → ℕ → Option ℕ
event_of [] id = None
event_of (e ∷ es) id = if e.id == id then Some e.event else event_of es id

-- whether that is the one
abbrev pub is_event : Option ℕ → ℕ → Bool
is_event None event = false
is_event (Some first) event = first == event

-- the lesser of a number and another one, if there is one
abbrev pub lesser : ℕ → Option ℕ → ℕ
lesser a None = a
lesser a (Some b) = min a b

-- the least id of some entries that another event has before them in the table
abbrev pub least_shared : (table entries : List IdOfEvent) → Option ℕ
least_shared table [] = None
least_shared table (e ∷ es) =
    if is_event (event_of table e.id) e.event then least_shared table es
    else Some (lesser e.id (least_shared table es))

-- refuses the least id that two events have
abbrev pub shared_or_not : Option ℕ → Result (Unit {0}) OpenError
shared_or_not None = Ok tt
shared_or_not (Some id) = Err (errors.SharedId id)

abbrev pub checked_table : List IdOfEvent → Result (Unit {0}) OpenError
checked_table table = shared_or_not (least_shared table table)

-- no id is of two events
abbrev pub IsFunction : List IdOfEvent → Type 0
IsFunction ids = (id m n : ℕ) → Contains ids (record { id = id; event = m }) → Contains ids (record { id = id; event = n }) → m ≡ n

-- this id is of two events
abbrev pub SharesAnId : List IdOfEvent → ℕ → Type 0
SharesAnId ids id = (m : ℕ) × (n : ℕ) × (m ≢ n) × Contains ids (record { id = id; event = m }) × Contains ids (record { id = id; event = n })
