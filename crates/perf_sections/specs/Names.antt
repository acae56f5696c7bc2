-- The name of an event.
use Rattle.std.specs.Prelude.{ℕ, ◌==◌, ◌&&◌, ◌/◌, ◌%◌, false, not, nat_le, Bool, List, [], ◌∷◌, ◌++◌, codes, decimal, flat_map, Option, Some, None, if◌then◌else◌}
use Rattle.std.specs.Fmt.{digits}
use Rattle.perf_base.specs.Dynamic.{order_of}
use Rattle.perf_base.specs.Order.{Order}
use Rattle.perf_base.specs.declared.endian.Dynamic.{Dynamic}
use Rattle.perf_sections.specs.Descriptions.{first_name, descriptions_in}
use Rattle.perf_sections.specs.KernelNames.{known_name}
use Rattle.perf_sections.specs.Opened.{FileEvent}
use Rattle.perf_sections.specs.declared.descriptions.EventKey.{EventKey}
use Rattle.perf_sections.specs.declared.naming.EventName.{EventName}
use Rattle.perf_sections.specs.declared.naming.EventName.TheVariants as names

-- a name: as the file describes the event, as the kernel knows it, or the two numbers of its attribute
pub data Name : Type 0 where
  described : List ℕ → Name
  known : List ℕ → Name
  numbers : (type config : ℕ) → Name

-- a name of the code
abbrev pub name_view : EventName → Name
name_view (names.Described bytes) = described bytes.now
name_view (names.Known text) = known text.now
name_view (names.Numbers type config) = numbers type config

-- the kernel's name, if there is one
abbrev pub kernel_or_numbers : Option (List ℕ) → (type config : ℕ) → Name
kernel_or_numbers (Some text) type config = known text
kernel_or_numbers None type config = numbers type config

-- the name by these numbers
abbrev pub name_by_numbers : (type config : ℕ) → Name
name_by_numbers type config = kernel_or_numbers (known_name type config) type config

-- the name that was described, unless it is empty
abbrev pub described_or : Option (List ℕ) → Name → Name
described_or (Some (byte ∷ bytes)) other = described (byte ∷ bytes)
described_or (Some []) other = other
described_or None other = other

-- the name of an event, by the descriptions of the file
abbrev pub name_with : Order → List ℕ → EventKey → Name
name_with o bytes key = described_or (first_name key (descriptions_in o bytes)) (name_by_numbers key.type_ key.config)

-- the first of some ids
abbrev pub first_of : List ℕ → Option ℕ
first_of [] = None
first_of (id ∷ ids) = Some id

-- by what an event is found
abbrev pub key_of : FileEvent → EventKey
key_of e = record { type_ = e.attribute.type_; config = e.attribute.config; id = first_of e.ids }

-- the name of an event of a file in an order with these descriptions
abbrev pub name_of : Dynamic → List ℕ → FileEvent → Name
name_of order descriptions e = name_with (order_of order) descriptions (key_of e)

-- ---- its text

-- whether a byte of a name stays as it is: it is printable ASCII and no backslash
abbrev pub stays : ℕ → Bool
stays byte = nat_le 32 byte && nat_le byte 126 && not (byte == 92)

-- such a byte, or else `\x` and its two digits
abbrev pub escaped : ℕ → List ℕ
escaped byte = if stays byte then byte ∷ [] else codes "\\x" ++ digits 16 false (byte / 16) ++ digits 16 false (byte % 16)

-- what is printed of a name
abbrev pub name_text : Name → List ℕ
name_text (described bytes) = flat_map escaped bytes
name_text (known text) = text
name_text (numbers type config) = codes "type " ++ decimal type ++ codes " config 0x" ++ digits 16 false config
