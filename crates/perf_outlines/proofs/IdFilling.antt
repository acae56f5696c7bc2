-- Ids that are written one after another, as a loop does.
use Rattle.std.proofs.Common.{◌≡◌, ℕ, suc, ◌-◌, ◌+◌, ◌*◌, ◌<◌, List, [], ◌∷◌, ◌++◌, take, drop, refl, sym, ap, ◌∙◌, arith}
use Rattle.std.proofs.lemmas.List.{append_assoc, drop-drop}
use Rattle.perf_base.specs.Layout.{words_of}
use Rattle.perf_base.specs.Order.{Order}
use Rattle.perf_sections.specs.IdTables.{ids_of}
use Rattle.perf_sections.specs.declared.ids.IdOfEvent.{IdOfEvent}
use Rattle.perf_sections.proofs.Tables.{pair}

pub ids_more : (o : Order) (bytes : List ℕ) (event : ℕ) (front : List IdOfEvent) (start count i n : ℕ) → i < count → n ≡ o.eight (take 8 (drop (start + 8 * i) bytes))
    → (front ++ pair n event ∷ []) ++ ids_of event (words_of o (count - (i + 1)) (drop (start + 8 * (i + 1)) bytes)) ≡ front ++ ids_of event (words_of o (count - i) (drop (start + 8 * i) bytes))
ids_more o bytes event front start count i n lt is =
    let k : count - i ≡ suc (count - (i + 1)) = omega arith in
    let place : start + 8 * (i + 1) ≡ start + 8 * i + 8 = omega arith in
    let far : drop (start + 8 * (i + 1)) bytes ≡ drop 8 (drop (start + 8 * i) bytes) = ap (λ m. drop m bytes) place ∙ sym (drop-drop 8 (start + 8 * i) bytes) in
    let one : words_of o (count - i) (drop (start + 8 * i) bytes) ≡ n ∷ words_of o (count - (i + 1)) (drop (start + 8 * (i + 1)) bytes) = rw (k, far, is) refl in
    append_assoc front (pair n event ∷ []) (ids_of event (words_of o (count - (i + 1)) (drop (start + 8 * (i + 1)) bytes))) ∙ ap (λ xs. front ++ ids_of event xs) (sym one)
