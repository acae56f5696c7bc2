-- Numbers read one after another, as a loop does.
use Rattle.std.proofs.Common.{◌≡◌, ℕ, suc, ◌-◌, ◌+◌, ◌*◌, ◌<◌, List, [], ◌∷◌, ◌++◌, take, drop, refl, sym, ap, ◌∙◌, arith}
use Rattle.std.proofs.lemmas.List.{append_assoc, drop-drop}
use Rattle.perf_base.specs.Layout.{words_of}
use Rattle.perf_base.specs.Order.{Order}

pub words_more : (o : Order) (bytes front : List ℕ) (start count i n : ℕ) (total : List ℕ) → i < count → n ≡ o.eight (take 8 (drop (start + 8 * i) bytes))
    → front ++ words_of o (count - i) (drop (start + 8 * i) bytes) ≡ total → (front ++ n ∷ []) ++ words_of o (count - (i + 1)) (drop (start + 8 * (i + 1)) bytes) ≡ total
words_more o bytes front start count i n total lt is so_far =
    let k : count - i ≡ suc (count - (i + 1)) = omega arith in
    let place : start + 8 * (i + 1) ≡ start + 8 * i + 8 = omega arith in
    let far : drop (start + 8 * (i + 1)) bytes ≡ drop 8 (drop (start + 8 * i) bytes) = ap (λ m. drop m bytes) place ∙ sym (drop-drop 8 (start + 8 * i) bytes) in
    let one : words_of o (count - i) (drop (start + 8 * i) bytes) ≡ n ∷ words_of o (count - (i + 1)) (drop (start + 8 * (i + 1)) bytes) = rw (k, far, is) refl in
    append_assoc front (n ∷ []) (words_of o (count - (i + 1)) (drop (start + 8 * (i + 1)) bytes)) ∙ ap (λ xs. front ++ xs) (sym one) ∙ so_far
