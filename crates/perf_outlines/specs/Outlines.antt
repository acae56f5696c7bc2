-- What is known of a file before its events are read into memory.
use Rattle.std.specs.Prelude.{ℕ, ◌/◌, List, Result, Ok, length, min, map, drop}
use Rattle.std.specs.List.{sum_by}
use Rattle.perf_base.specs.Layout.{words_of}
use Rattle.perf_base.specs.Order.{Order}
use Rattle.perf_sections.specs.Attributes.{attributes_in}
use Rattle.perf_sections.specs.IdSections.{id_sections_in, entry_count, sections_of, checked_apart}
use Rattle.perf_sections.specs.IdTables.{id_table}
use Rattle.perf_sections.specs.Opened.{checked_head}
use Rattle.perf_sections.specs.Opens.{◌>>=◌}
use Rattle.perf_sections.specs.declared.error.OpenError.{OpenError}
use Rattle.perf_sections.specs.declared.head.Head.{Head}
use Rattle.perf_sections.specs.declared.ids.IdOfEvent.{IdOfEvent}
use Rattle.perf_sections.specs.declared.section.Section.{Section}
use Rattle.perf_outlines.specs.declared.summary.Outline.{Outline}

-- how many ids a section has
abbrev pub ids_in : Section → ℕ
ids_in s = s.size / 8

-- how many these have together
abbrev pub id_count : List Section → ℕ
id_count sections = sum_by ids_in sections

-- refuses the first attribute that cannot be read
abbrev pub checked_attributes : List ℕ → Head → Result (Unit {0}) OpenError
checked_attributes bytes h = attributes_in bytes h >>= λ all. Ok tt

-- how many ids there are, at most one for eight bytes of the file
abbrev pub counted_ids : List ℕ → Head → Result ℕ OpenError
counted_ids bytes h = id_sections_in bytes h >>= λ all. Ok (min (id_count all) (length bytes / 8))

-- what is known of a file with that head and so many ids
abbrev pub outline_with : Head → ℕ → Outline
outline_with h ids = record { head = h; events = entry_count h; ids = ids }

-- the head, and how many events and ids there are
abbrev pub outline : List ℕ → Result Outline OpenError
outline bytes = do
  head ← checked_head bytes
  attributes ← checked_attributes bytes head
  ids ← counted_ids bytes head
  Ok (outline_with head ids)

-- all parts of a file
abbrev pub parts_in : List ℕ → Head → Result (List Section) OpenError
parts_in bytes h = id_sections_in bytes h >>= λ ids. Ok (sections_of h ids)

-- the same, if no two of them share a byte
abbrev pub apart_parts : List ℕ → Head → Result (List Section) OpenError
apart_parts bytes h = do
  parts ← parts_in bytes h
  apart ← checked_apart parts
  Ok parts

-- the ids in a section
abbrev pub words_in : Order → List ℕ → Section → List ℕ
words_in o bytes s = words_of o (s.size / 8) (drop s.start bytes)

-- the ids of all events, which are in these sections
abbrev pub table_in : Order → List ℕ → List Section → List IdOfEvent
table_in o bytes sections = id_table 0 (map (words_in o bytes) sections)
