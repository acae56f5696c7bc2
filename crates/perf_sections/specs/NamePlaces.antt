-- Where the names of events are among the descriptions.
use Rattle.std.specs.Prelude.{◌≡◌, ◌≢◌, ℕ, ◌+◌, ◌*◌, ◌<◌, ◌^◌, ◌==◌, List, [], ◌∷◌, length, Option, Some, None, if◌then◌else◌}
use Rattle.std.specs.List.Sorted.{IsNonDecreasingBy}
use Rattle.std.specs.Prelude.{slice_index_or}
use Rattle.perf_base.specs.Order.{Order}
use Rattle.perf_sections.specs.Descriptions.{Description}
use Rattle.perf_sections.specs.Features.{part_in}
use Rattle.perf_sections.specs.IdPlaces.{number_if}
use Rattle.perf_sections.specs.Names.{Name, described_or, name_by_numbers}
use Rattle.perf_sections.specs.declared.descriptions.EventKey.{EventKey}
use Rattle.perf_sections.specs.declared.name_places.NamePlace.{NamePlace}
use Rattle.perf_sections.specs.declared.section.Section.{Section}

-- ---- keys

-- the key of a description
abbrev pub key_in : Description → EventKey
key_in d = record { type_ = d.type; config = d.config; id = d.id }

-- the first of so many ids at an offset, if its bytes are there
abbrev pub first_id_at : Order → List ℕ → (at count : ℕ) → Option ℕ
first_id_at o bytes at count = if count == 0 then None else number_if o bytes at

-- the key of an event with these numbers
abbrev pub key_at : Order → List ℕ → (type config at count : ℕ) → EventKey
key_at o bytes type config at count = record { type_ = type; config = config; id = first_id_at o bytes at count }

-- The two numbers of a key: 0 and an id, or the type of events without ids and 1, and their config.
abbrev pub kind_of : Option ℕ → (type : ℕ) → ℕ
kind_of (Some id) type = 0
kind_of None type = type + 1

abbrev pub number_of : Option ℕ → (config : ℕ) → ℕ
number_of (Some id) config = id
number_of None config = config

-- the second is one of eight bytes
abbrev pub Fits : EventKey → Type 0
Fits key = number_of key.id key.config < 2 ^ 64

-- events with a key, whose name was not found
abbrev pub unnamed : EventKey → NamePlace
unnamed key = record {
  kind = kind_of key.id key.type_;
  number = number_of key.id key.config;
  name = record { start = 0; size = 0 };
}

-- both numbers as one
abbrev pub rank : NamePlace → ℕ
rank p = p.kind * 2 ^ 64 + p.number

abbrev pub rank_of : EventKey → ℕ
rank_of key = rank (unnamed key)

-- they are sorted by it
abbrev pub Rises : List NamePlace → Type 0
Rises ps = IsNonDecreasingBy (λ (p : NamePlace). rank p) ps

-- ---- names

-- their name was not found
abbrev pub IsUnnamed : NamePlace → Type 0
IsUnnamed p = p.name.start ≡ 0

-- the bytes of a name at its place, if it was found
abbrev pub name_at : List ℕ → Section → Option (List ℕ)
name_at bytes s = if s.start == 0 then None else part_in bytes s

-- the name of events with these numbers, whose own name is at that place
abbrev pub name_or : List ℕ → Section → (type config : ℕ) → Name
name_or bytes s type config = described_or (name_at bytes s) (name_by_numbers type config)

-- where the name of the first events with a rank is
abbrev pub place_of : List NamePlace → (rank : ℕ) → Option Section
place_of [] r = None
place_of (p ∷ ps) r = if rank p == r then Some p.name else place_of ps r

-- there are events with a rank
abbrev pub HasRank : List NamePlace → (rank : ℕ) → Type 0
HasRank ps r = (s : Section) × (place_of ps r ≡ Some s)

-- the first events with a rank are there
pub record IsFirst (ps : List NamePlace) (r i : ℕ) : Type 0 where
  pub inside : i < length ps
  pub before : (k : ℕ) (d : NamePlace) → k < i → rank (slice_index_or ps k d) ≢ r
  pub here : (d : NamePlace) → rank (slice_index_or ps i d) ≡ r

-- events get a name, unless they have one
abbrev pub named : NamePlace → Section → NamePlace
named p s = if p.name.start == 0 then record p { name = s } else p

-- the first events with a rank do
abbrev pub put : (rank : ℕ) → Section → List NamePlace → List NamePlace
put r s [] = []
put r s (p ∷ ps) = if rank p == r then named p s ∷ ps else p ∷ put r s ps

-- the name of each key is at its place in these bytes
abbrev pub AreNamed : List ℕ → List NamePlace → (EventKey → Option (List ℕ)) → Type 0
AreNamed bytes ps name = (key : EventKey) (s : Section) → Fits key → place_of ps (rank_of key) ≡ Some s → name_at bytes s ≡ name key
