-- The text of a stack.
use Rattle.std.specs.Prelude.{ℕ, List, ◌∷◌, ◌==◌, ◌||◌, nat_lt, if◌then◌else◌, map}

-- a byte of a name: `_` for `;` and control bytes
abbrev pub clean : ℕ → ℕ
clean byte = if byte == 59 || nat_lt byte 32 || byte == 127 then 95 else byte

-- the name of a function, after `;`
abbrev pub frame_text : List ℕ → List ℕ
frame_text name = 59 ∷ map clean name
