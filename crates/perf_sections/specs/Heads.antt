-- The head of a file.
use Rattle.std.specs.Prelude.{ℕ, ◌+◌, ◌-◌, ◌≤◌, List, length, nat_lt, ◌==◌, ◌%◌, not, if◌then◌else◌, Result, Ok, Err}
use Rattle.perf_base.specs.Dynamic.{order_of}
use Rattle.perf_base.specs.declared.endian.Dynamic.{Dynamic}
use Rattle.perf_base.specs.declared.endian.Dynamic.TheVariants.{Big, Little}
use Rattle.perf_sections.specs.Numbers.{number}
use Rattle.perf_sections.specs.Opens.{◌>>=◌}
use Rattle.perf_sections.specs.Sections.{section_at, is_inside}
use Rattle.perf_sections.specs.declared.section.Section.{Section}
use Rattle.perf_sections.specs.declared.head.Head.{Head}
use Rattle.perf_sections.specs.declared.error.OpenError.{OpenError}
use Rattle.perf_sections.specs.declared.error.OpenError.TheVariants as errors
use Rattle.perf_sections.specs.declared.error.Part.TheVariants as parts
use Rattle.perf_words.specs.Bits.{has_bit}

-- perf was killed before it wrote how many bytes of frames there are: they extend to the end of the file
abbrev pub frames_in : List ℕ → Section → Section
frames_in bytes s = if s.size == 0 then record { start = s.start; size = length bytes - s.start } else s

-- its numbers, in a file of at least 104 bytes; of the features the first 64
abbrev pub head_with : Dynamic → List ℕ → Head
head_with order bytes = record {
  order = order;
  is_closed = not (number (order_of order) bytes 48 == 0);
  entry_size = number (order_of order) bytes 16;
  attributes = section_at (order_of order) bytes 24;
  frames = frames_in bytes (section_at (order_of order) bytes 40);
  features = if number (order_of order) bytes 48 == 0 then 0 else number (order_of order) bytes 72;
}

-- the head, if it states its own size: a pipe has one of 16 bytes
abbrev pub head_by : Dynamic → List ℕ → Result Head OpenError
head_by order bytes =
    if number (order_of order) bytes 8 == 16 then Err errors.Pipe
    else (if not (number (order_of order) bytes 8 == 104) then Err errors.BadHead
    else (if nat_lt (length bytes) 104 then Err errors.BadHead
    else Ok (head_with order bytes)))

-- the order of a file by its first eight bytes, the lowest first: `PERFILE2`, these in the other
-- order, and `PERFFILE`
abbrev pub order_by : ℕ → Result Dynamic OpenError
order_by magic =
    if magic == 0x3245_4c49_4652_4550 then Ok Little
    else (if magic == 0x5045_5246_494c_4532 then Ok Big
    else (if magic == 0x454c_4946_4652_4550 then Err errors.OldFormat
    else Err errors.NotPerfData))

-- the head of a file
abbrev pub head_in : List ℕ → Result Head OpenError
head_in bytes =
    if nat_lt (length bytes) 16 then Err errors.NotPerfData
    else (order_by (number (order_of Little) bytes 0) >>= λ order. head_by order bytes)

-- features that change what the data are: 24 is a folder of files, 27 compression
abbrev pub checked_features : Head → Result (Unit {0}) OpenError
checked_features h =
    if has_bit h.features 24 then Err errors.Directory
    else (if has_bit h.features 27 then Err errors.Compressed
    else Ok tt)

-- where its parts end, and how many entries of attributes there are
abbrev pub checked_parts : List ℕ → Head → Result (Unit {0}) OpenError
checked_parts bytes h =
    if not (is_inside bytes h.attributes) then Err (errors.PastEnd parts.Attributes)
    else (if not (is_inside bytes h.frames) then Err (errors.PastEnd parts.Data)
    else (if nat_lt h.entry_size 80 then Err errors.BadEntry
    else (if not (h.attributes.size % h.entry_size == 0) then Err errors.BadEntry
    else (if h.attributes.size == 0 then Err errors.NoAttributes
    else Ok tt))))

-- what these checks leave
pub record IsGoodHead (bytes : List ℕ) (h : Head) : Type 0 where
  pub attributes : h.attributes.start + h.attributes.size ≤ length bytes
  pub frames : h.frames.start + h.frames.size ≤ length bytes
  pub entry : 80 ≤ h.entry_size
