-- Zero bytes: those that pad a name, and those at the end of an attribute that have no meaning.
use Rattle.std.specs.Prelude.{ℕ, Bool, List, [], ◌∷◌, ◌==◌, if◌then◌else◌}
use Rattle.std.specs.List.{list_all}

-- every byte is zero
abbrev pub all_zero : List ℕ → Bool
all_zero bytes = list_all (λ byte. byte == 0) bytes

-- Bytes without the zero bytes at the end; earlier zero bytes stay.
abbrev pub trim_zeros : List ℕ → List ℕ
trim_zeros [] = []
trim_zeros (byte ∷ bytes) = if all_zero (byte ∷ bytes) then [] else byte ∷ trim_zeros bytes
