-- What perf states about each event for readers of the file: the feature EVENT_DESC.
use Rattle.std.specs.Prelude.{ℕ, zero, suc, ◌+◌, ◌*◌, ◌==◌, ◌&&◌, Bool, false, List, [], ◌∷◌, length, take, drop, nat_lt, nat_le, Option, Some, None, if◌then◌else◌}
use Rattle.perf_base.specs.Layout.{slice}
use Rattle.perf_base.specs.Order.{Order}
use Rattle.perf_sections.specs.Numbers.{number, small_number}
use Rattle.perf_sections.specs.declared.descriptions.EventKey.{EventKey}

-- how many bytes of a name there are, and after it how many ids: the two numbers after an attribute
-- of so many bytes
abbrev pub id_count : Order → (size : ℕ) → List ℕ → ℕ
id_count o size bytes = small_number o bytes size

abbrev pub text_length : Order → (size : ℕ) → List ℕ → ℕ
text_length o size bytes = small_number o bytes (size + 4)

-- where the ids begin
abbrev pub ids_at : Order → (size : ℕ) → List ℕ → ℕ
ids_at o size bytes = size + 8 + text_length o size bytes

-- how many bytes a description takes
abbrev pub description_length : Order → (size : ℕ) → List ℕ → ℕ
description_length o size bytes = ids_at o size bytes + 8 * id_count o size bytes

-- whether they are there
abbrev pub is_whole : Order → (size : ℕ) → List ℕ → Bool
is_whole o size bytes =
    if nat_lt (length bytes) (size + 8) then false
    else nat_le (description_length o size bytes) (length bytes)

-- how many bytes are before the first zero
abbrev pub zero_at : List ℕ → ℕ
zero_at [] = 0
zero_at (byte ∷ bytes) = if byte == 0 then 0 else suc (zero_at bytes)

-- these bytes
abbrev pub before_zero : List ℕ → List ℕ
before_zero bytes = take (zero_at bytes) bytes

-- a description: the type and the config of its attribute, its name, and its first id
pub record Description : Type 0 where
  pub type : ℕ
  pub config : ℕ
  pub name : List ℕ
  pub id : Option ℕ

-- the first id of a description
abbrev pub first_id : Order → (size : ℕ) → List ℕ → Option ℕ
first_id o size bytes =
    if id_count o size bytes == 0 then None else Some (number o bytes (ids_at o size bytes))

-- the description at the front
abbrev pub description_in : Order → (size : ℕ) → List ℕ → Description
description_in o size bytes = record {
  type = small_number o bytes 0;
  config = number o bytes 8;
  name = before_zero (slice bytes (size + 8) (text_length o size bytes));
  id = first_id o size bytes;
}

-- at most n descriptions, up to the first that is not whole
abbrev pub descriptions : Order → (size n : ℕ) → List ℕ → List Description
descriptions o size zero bytes = []
descriptions o size (suc n) bytes =
    if is_whole o size bytes
    then description_in o size bytes ∷ descriptions o size n (drop (description_length o size bytes) bytes)
    else []

-- Those of the feature: they come after their number and the size of their attributes, which is at
-- least 64.
abbrev pub descriptions_in : Order → List ℕ → List Description
descriptions_in o bytes =
    if nat_lt (length bytes) 8 then []
    else (if nat_lt (small_number o bytes 4) 64 then []
    else descriptions o (small_number o bytes 4) (small_number o bytes 0) (drop 8 bytes))

-- whether one with that first id is of an event: it has the same first id, or both have none and
-- otherwise they are alike
abbrev pub is_of : Option ℕ → Option ℕ → Bool → Bool
is_of (Some id) (Some other) alike = id == other
is_of None None alike = alike
is_of _ _ alike = false

-- whether a description is of an event
abbrev pub describes : EventKey → Description → Bool
describes key d = is_of key.id d.id (d.type == key.type_ && d.config == key.config)

-- the name in the first of them that is
abbrev pub first_name : EventKey → List Description → Option (List ℕ)
first_name key [] = None
first_name key (d ∷ ds) = if describes key d then Some d.name else first_name key ds
