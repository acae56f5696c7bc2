-- The parts of JSON.
use Rattle.std.specs.Prelude.{ℕ, List, Option, Some, None}
use Rattle.serde_json.specs.Data.{Data, null, number, array, unsigned}
use Rattle.serde_json.specs.View.{items_of}

-- a number
abbrev pub count_data : ℕ → Data
count_data n = number (unsigned n)

-- a list
abbrev pub list_data : List Data → Data
list_data xs = array (items_of xs)

-- a number, `null` if it is not known
abbrev pub number_data : Option ℕ → Data
number_data (Some n) = count_data n
number_data None = null
