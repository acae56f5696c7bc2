-- Where the ids of each event are.
use Rattle.std.specs.Prelude.{ℕ, List, ◌∷◌, ◌+◌, ◌-◌, ◌*◌, ◌/◌, ◌%◌, ◌==◌, not, if◌then◌else◌, Result, Ok, Err}
use Rattle.perf_base.specs.Dynamic.{order_of}
use Rattle.perf_sections.specs.Sections.{section_at, is_inside, are_apart}
use Rattle.perf_sections.specs.Opens.{each_from}
use Rattle.perf_sections.specs.declared.section.Section.{Section}
use Rattle.perf_sections.specs.declared.head.Head.{Head}
use Rattle.perf_sections.specs.declared.error.OpenError.{OpenError}
use Rattle.perf_sections.specs.declared.error.OpenError.TheVariants as errors
use Rattle.perf_sections.specs.declared.error.Part.TheVariants as parts

-- where an entry of the attributes begins
abbrev pub entry_at : Head → ℕ → ℕ
entry_at h index = h.attributes.start + index * h.entry_size

-- how many entries there are
abbrev pub entry_count : Head → ℕ
entry_count h = h.attributes.size / h.entry_size

-- ids are whole numbers of eight bytes inside the file
abbrev pub checked_ids : List ℕ → ℕ → Section → Result Section OpenError
checked_ids bytes index ids =
    if not (ids.size % 8 == 0) then Err (errors.BadIds index)
    else (if not (is_inside bytes ids) then Err (errors.PastEnd (parts.Ids index))
    else Ok ids)

-- the last 16 bytes of an entry state where its ids are
abbrev pub id_section_at : List ℕ → Head → ℕ → Result Section OpenError
id_section_at bytes h index = checked_ids bytes index (section_at (order_of h.order) bytes (entry_at h index + h.entry_size - 16))

-- those of all entries
abbrev pub id_sections_in : List ℕ → Head → Result (List Section) OpenError
id_sections_in bytes h = each_from (id_section_at bytes h) 0 (entry_count h)

-- the head, the attributes, the data, and the ids of each event
abbrev pub sections_of : Head → List Section → List Section
sections_of h ids = record { start = 0; size = 104 } ∷ h.attributes ∷ h.frames ∷ ids

-- no part of the file begins inside another one
abbrev pub checked_apart : List Section → Result (Unit {0}) OpenError
checked_apart sections = if are_apart sections then Ok tt else Err errors.Overlap
