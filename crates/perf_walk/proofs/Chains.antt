-- The numbers of a chain.
use Rattle.std.proofs.Common.{◌≡◌, ℕ, ◌+◌, ◌*◌, ◌/◌, ◌≤◌, List, [], length, drop, true, sym, ◌∙◌, ap, arith}
use Rattle.std.specs.Prelude.{Option, Some, None, nat_le}
use Rattle.std.proofs.lemmas.Bool.{le-leb}
use Rattle.std.proofs.lemmas.List.{length-take-le, length-drop}
use Rattle.std.proofs.lemmas.Nat.{div-mul-add}
use Rattle.perf_base.specs.Layout.{slice, words_of}
use Rattle.perf_base.specs.Order.{Order}
use Rattle.perf_flat.specs.Samples.{HasList}
use Rattle.perf_flat.specs.Strings.{HasNumbers}
use Rattle.perf_flat.specs.declared.frame.Span.{Span}
use Rattle.perf_walk.specs.Calls.{chain_calls}
use Rattle.perf_walk.specs.Parts.{bytes_at}
use Rattle.perf_walk.proofs.Stated.{nothing_here}

-- the numbers at a span
abbrev words_at : Order → List ℕ → Span → List ℕ
words_at o frame s = words_of o (length (bytes_at frame s) / 8) (bytes_at frame s)

slice_length : (frame : List ℕ) (at len : ℕ) → at + len ≤ length frame → length (slice frame at len) ≡ len
slice_length frame at len inside =
    let long = length-drop at frame in
    length-take-le len (drop at frame) (omega (arith, long, inside))

eighth : (n : ℕ) → 8 * n / 8 ≡ n
eighth n = let some = div-mul-add n 8 0 (omega arith) in let same : n * 8 + 0 ≡ 8 * n = omega arith in ap (λ m. m / 8) (sym same) ∙ some

numbers_here : (o : Order) (frame : List ℕ) (s : Span) (numbers : List ℕ) → HasNumbers o frame s (length numbers) (λ are. are ≡ numbers) → words_at o frame s ≡ numbers
numbers_here o frame s numbers has =
    let a : nat_le (s.at + s.len) (length frame) ≡ true = le-leb (s.at + s.len) (length frame) has.inside in
    let long : length (slice frame s.at s.len) ≡ s.len = slice_length frame s.at s.len has.inside in
    let count : length (slice frame s.at s.len) / 8 ≡ length numbers = ap (λ n. n / 8) (long ∙ has.many) ∙ eighth (length numbers) in
    rw a (ap (λ n. words_of o n (slice frame s.at s.len)) count ∙ has.there)

-- the calls of the chain at a span
pub calls_here : (o : Order) (frame : List ℕ) (s : Span) (chain : Option (List ℕ)) → HasList o frame s chain
    → chain_calls (words_of o (length (bytes_at frame s) / 8) (bytes_at frame s)) ≡ (elim chain [ Some numbers ↦ chain_calls numbers | None ↦ [] ])
calls_here o frame s (Some numbers) has = ap chain_calls (numbers_here o frame s numbers has)
calls_here o frame s None none =
    ap (λ (t : Span). chain_calls (words_at o frame t)) none ∙ ap (λ bytes. chain_calls (words_of o (length bytes / 8) bytes)) (nothing_here frame)
