-- Times as texts.
use Rattle.std.specs.Prelude.{ℕ, ◌+◌, ◌-◌, ◌*◌, ◌^◌, ◌==◌, ◌&&◌, Bool, List, ◌++◌, fold, length, nat_le, nat_lt, replicate, Option, Some, None, if◌then◌else◌}
use Rattle.std.specs.Char.{is_ascii_digit}
use Rattle.std.specs.List.{after_first, before_first, list_all}

-- the number that digits make after a number
abbrev pub number_after : ℕ → (digits : List ℕ) → ℕ
number_after n digits = fold (λ m d. m * 10 + (d - 48)) n digits

-- the same, if all are digits and it is below 2^64
abbrev pub with_digits : ℕ → List ℕ → Option ℕ
with_digits n text = if list_all is_ascii_digit text && nat_lt (number_after n text) (2 ^ 64) then Some (number_after n text) else None

-- what is after the point of a text, or nothing without one
abbrev pub fraction : List ℕ → List ℕ
fraction text = after_first (λ b. b == 46) text

-- what is before the point, and nine digits, those after the point and zeros
abbrev pub digits_of : List ℕ → List ℕ
digits_of text = (before_first (λ b. b == 46) text ++ fraction text) ++ replicate (9 - length (fraction text)) 48

-- a time of seconds in nanoseconds, if at most nine digits are after the point
abbrev pub nanoseconds : List ℕ → Option ℕ
nanoseconds text = if nat_le (length (fraction text)) 9 then with_digits 0 (digits_of text) else None
