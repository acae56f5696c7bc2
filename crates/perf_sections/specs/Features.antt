-- The features of a file: what perf states about the recording. They come after the frames, with a
-- table of where each of them is.
use Rattle.std.specs.Prelude.{ℕ, ◌+◌, ◌*◌, ◌%◌, ◌^◌, not, List, [], length, nat_lt, count_ones, Option, Some, None, Ok, Err, option_and_then, if◌then◌else◌}
use Rattle.perf_base.specs.Dynamic.{order_of}
use Rattle.perf_base.specs.Layout.{slice}
use Rattle.perf_sections.specs.Heads.{head_in}
use Rattle.perf_sections.specs.Sections.{section_at, is_inside}
use Rattle.perf_sections.specs.declared.section.Section.{Section}
use Rattle.perf_sections.specs.declared.head.Head.{Head}
use Rattle.perf_words.specs.Bits.{has_bit}

-- Where the table states a feature: it has 16 bytes for each feature of the file, in rising order, and
-- begins where the frames end.
abbrev pub feature_at : Head → (feature : ℕ) → ℕ
feature_at h feature = h.frames.start + h.frames.size + 16 * count_ones (h.features % 2 ^ feature)

-- the part of the file that a feature is, if the file has it
abbrev pub feature_section : List ℕ → Head → (feature : ℕ) → Option Section
feature_section bytes h feature =
    if not (has_bit h.features feature) then None
    else (if nat_lt (length bytes) (feature_at h feature + 16) then None
    else Some (section_at (order_of h.order) bytes (feature_at h feature)))

-- the bytes of a part, if it ends inside the file
abbrev pub part_in : List ℕ → Section → Option (List ℕ)
part_in bytes s = if is_inside bytes s then Some (slice bytes s.start s.size) else None

-- the bytes of a feature
abbrev pub feature_in : List ℕ → Head → (feature : ℕ) → Option (List ℕ)
feature_in bytes h feature = option_and_then (part_in bytes) (feature_section bytes h feature)

-- these, or none
abbrev pub or_nothing : Option (List ℕ) → List ℕ
or_nothing (Some bytes) = bytes
or_nothing None = []

-- the descriptions of events
abbrev pub descriptions_of : List ℕ → Head → List ℕ
descriptions_of bytes h = or_nothing (feature_in bytes h 12)

-- those of a file
abbrev pub file_descriptions : List ℕ → List ℕ
file_descriptions bytes = elim (head_in bytes) [ Ok h ↦ descriptions_of bytes h | Err e ↦ [] ]
