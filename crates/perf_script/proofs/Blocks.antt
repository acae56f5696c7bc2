-- Blocks of numbers, by how many bytes are left.
use Rattle.std.proofs.Common.{◌≡◌, ℕ, suc, ◌-◌, ◌*◌, ◌/◌, ◌≤◌, ◌<◌, Bool, true, false, List, ◌∷◌, length, drop, sym, ◌∙◌, ap, arith}
use Rattle.std.proofs.lemmas.List.{length-drop}
use Rattle.perf_base.specs.Order.{Order}
use Rattle.perf_counters.specs.GroupEntry.{block_len}
use Rattle.perf_script.specs.Blocks.{readings_in, first_reading}

-- a block is left
pub room : (wi wl : Bool) (n : ℕ) → 0 < n / (8 * block_len wi wl) → 8 * block_len wi wl ≤ n
room true true n some = omega (arith, some)
room true false n some = omega (arith, some)
room false true n some = omega (arith, some)
room false false n some = omega (arith, some)

-- after it is one less
pub fewer : (wi wl : Bool) (n m : ℕ) → 8 * block_len wi wl ≤ n → m ≡ n - 8 * block_len wi wl → n / (8 * block_len wi wl) ≡ suc (m / (8 * block_len wi wl))
fewer true true n m fits is = omega (arith, fits, is)
fewer true false n m fits is = omega (arith, fits, is)
fewer false true n m fits is = omega (arith, fits, is)
fewer false false n m fits is = omega (arith, fits, is)

-- the first counter, and those after it
pub readings_more : (o : Order) (wi wl : Bool) (count len : ℕ) (bytes : List ℕ) → len ≡ 8 * block_len wi wl → count ≡ suc (count - 1)
    → readings_in o wi wl count bytes ≡ first_reading o wi bytes ∷ readings_in o wi wl (count - 1) (drop len bytes)
readings_more o wi wl count len bytes is some =
    ap (λ k. readings_in o wi wl k bytes) some ∙ ap (λ n. first_reading o wi bytes ∷ readings_in o wi wl (count - 1) (drop n bytes)) (sym is)

-- how many are left
pub count_less : (wi wl : Bool) (count len : ℕ) (bytes : List ℕ) → len ≡ 8 * block_len wi wl → 0 < count → count ≡ length bytes / (8 * block_len wi wl) → count - 1 ≡ length (drop len bytes) / (8 * block_len wi wl)
count_less wi wl count len bytes is some left =
    let fits : 8 * block_len wi wl ≤ length bytes = room wi wl (length bytes) (omega (arith, some, left)) in
    let long : length (drop len bytes) ≡ length bytes - 8 * block_len wi wl = ap (λ n. length (drop n bytes)) is ∙ length-drop (8 * block_len wi wl) bytes in
    let less = fewer wi wl (length bytes) (length (drop len bytes)) fits long in
    omega (arith, left, less)
