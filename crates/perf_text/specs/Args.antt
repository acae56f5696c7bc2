-- What the arguments of the program ask for.
use Rattle.std.specs.Prelude.{ℕ, ◌^◌, Bool, true, false, List, [], ◌∷◌, length, codes, ◌&&◌, nat_lt}
use Rattle.std.specs.Prelude.{◌-◌, Option, Some, None, if◌then◌else◌, option_and_then, option_map}
use Rattle.std.specs.Char.{is_ascii_digit}
use Rattle.std.specs.List.{list_all}
use Rattle.std.specs.Str.{bytes_eq}
use Rattle.std.specs.Str.Parse.{digits_value}
use Rattle.perf_text.specs.declared.command.Command.{Command}
use Rattle.perf_text.specs.Orders.{order_named}

-- a limit: decimal digits, at least one, whose value fits 64 bits
abbrev pub limit_named : List ℕ → Option ℕ
limit_named word =
    if (nat_lt 0 (length word) && list_all is_ascii_digit word)
    && nat_lt (digits_value 10 word) (2 ^ 64) then Some (digits_value 10 word)
    else None

-- what the name of an order and a limit ask for
abbrev pub command_with_limit : Bool → List ℕ → List ℕ → Option Command
command_with_limit with_attr order limit =
    option_and_then
    (λ name. option_map (λ most. record { order = name; limit = most; with_attr = with_attr })
    (limit_named limit)) (order_named order)

-- what the arguments of the program ask for, if anything
abbrev pub command_of : List (List ℕ) → Option Command
command_of [] = None
command_of (order ∷ []) = None
command_of (order ∷ limit ∷ []) = command_with_limit false order limit
command_of (order ∷ limit ∷ third ∷ []) =
    if bytes_eq third (codes "attr") then command_with_limit true order limit else None
command_of (order ∷ limit ∷ third ∷ fourth ∷ more) = None

-- what an order's name alone asks for: no limit but the greatest number of 64 bits
abbrev pub command_without_limit : Bool → List ℕ → Option Command
command_without_limit with_attr order =
    option_map (λ name. record { order = name; limit = 2 ^ 64 - 1; with_attr = with_attr })
    (order_named order)

-- what the words after the program's name ask for if they name no limit
abbrev pub unlimited_command_of : List (List ℕ) → Option Command
unlimited_command_of [] = None
unlimited_command_of (order ∷ []) = command_without_limit false order
unlimited_command_of (order ∷ second ∷ []) =
    if bytes_eq second (codes "attr") then command_without_limit true order else None
unlimited_command_of (order ∷ second ∷ third ∷ more) = None
