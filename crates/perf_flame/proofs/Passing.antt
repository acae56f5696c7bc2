-- Steps of one pass over stacks in order.
use Rattle.std.proofs.Common.{◌≡◌, ℕ, ◌+◌, ◌<◌, ◌≤◌, inl, inr, cond, eqb, List, [], ◌∷◌, ◌++◌, drop, get_or, length, map, refl, sym, ap, ◌∙◌, add-one, append_assoc}
use Rattle.std.specs.Global.{Vec}
use Rattle.std.specs.Prelude.{◌⊎◌}
use Rattle.std.specs.List.{common_prefix_len}
use Rattle.std.proofs.Math.Seq.{drop-cons}
use Rattle.std.proofs.lemmas.List.{drop_all}
use Rattle.std.proofs.lemmas.Bool.{lt-ltb, le-ltb}
use Rattle.std.proofs.lemmas.List.Sums.{sum_by-cons}
use Rattle.perf_flame.specs.FoldedLines.{entry_line}
use Rattle.perf_flame.specs.Lines.{Line, total_of}
use Rattle.perf_flame.specs.Scans.{shares, run}

common_of_none : (xs : List ℕ) → common_prefix_len eqb xs [] ≡ 0
common_of_none [] = refl
common_of_none (x ∷ xs) = refl

-- a list that is passed shares no more
pub common_end : (xs ys : List ℕ) (n : ℕ) → (length xs ≤ n) ⊎ (length ys ≤ n) → common_prefix_len eqb (drop n xs) (drop n ys) ≡ 0
common_end xs ys n (inl le) = ap (λ zs. common_prefix_len eqb zs (drop n ys)) (drop_all n xs le)
common_end xs ys n (inr le) = ap (common_prefix_len eqb (drop n xs)) (drop_all n ys le) ∙ common_of_none (drop n xs)

abbrev pub Entry : Type 0
Entry = Vec ℕ × ℕ

lines_from : (es : List Entry) (at : ℕ) (d : Entry) → at < length es → map entry_line (drop at es) ≡ entry_line (get_or es at d) ∷ map entry_line (drop (at + 1) es)
lines_from es at d lt = ap (map entry_line) (drop-cons es at d lt) ∙ ap (λ n. entry_line (get_or es at d) ∷ map entry_line (drop n es)) (sym (add-one at))

shares_from : (ns : List ℕ) (at : ℕ) → at < length ns → drop at ns ≡ get_or ns at 0 ∷ drop (at + 1) ns
shares_from ns at lt = drop-cons ns at 0 lt ∙ ap (λ n. get_or ns at 0 ∷ drop n ns) (sym (add-one at))

-- one more share
pub shares_more : (es : List Entry) (at : ℕ) (d : Entry) (found : List ℕ) (last : List ℕ) → at < length es
    → found ++ shares last (map entry_line (drop at es)) ≡ (found ++ common_prefix_len eqb last (get_or es at d).0.items ∷ []) ++ shares (get_or es at d).0.items (map entry_line (drop (at + 1) es))
shares_more es at d found last lt =
    ap (λ (ls : List Line). found ++ shares last ls) (lines_from es at d lt)
    ∙ sym (append_assoc found (common_prefix_len eqb last (get_or es at d).0.items ∷ []) (shares (get_or es at d).0.items (map entry_line (drop (at + 1) es))))

-- one more stack of a run
pub run_more : (place : ℕ) (ns : List ℕ) (es : List Entry) (at : ℕ) (d : Entry) → at < length ns → at < length es → place < get_or ns at 0
    → run place (drop at ns) (map entry_line (drop at es)) ≡ (get_or es at d).1 + run place (drop (at + 1) ns) (map entry_line (drop (at + 1) es))
run_more place ns es at d in_ns in_es lt =
    ap (λ ms. run place ms (map entry_line (drop at es))) (shares_from ns at in_ns)
    ∙ ap (run place (get_or ns at 0 ∷ drop (at + 1) ns)) (lines_from es at d in_es)
    ∙ ap (λ b. cond b ((get_or es at d).1 + run place (drop (at + 1) ns) (map entry_line (drop (at + 1) es))) 0) (lt-ltb place (get_or ns at 0) lt)

run_of_none : (place : ℕ) (ns : List ℕ) → run place ns [] ≡ 0
run_of_none place [] = refl
run_of_none place (n ∷ ns) = refl

run_stops : (place n : ℕ) (ns : List ℕ) (ls : List Line) → n ≤ place → run place (n ∷ ns) ls ≡ 0
run_stops place n ns [] le = refl
run_stops place n ns (l ∷ ls) le = ap (λ b. cond b (l.count + run place ns ls) 0) (le-ltb place n le)

-- the end of a run
pub run_end : (place : ℕ) (ns : List ℕ) (es : List Entry) (at : ℕ) → (length ns ≤ at) ⊎ ((length es ≤ at) ⊎ ((at < length ns) × (get_or ns at 0 ≤ place)))
    → run place (drop at ns) (map entry_line (drop at es)) ≡ 0
run_end place ns es at (inl le) = ap (λ ms. run place ms (map entry_line (drop at es))) (drop_all at ns le)
run_end place ns es at (inr (inl le)) = ap (λ (rest : List Entry). run place (drop at ns) (map entry_line rest)) (drop_all at es le) ∙ run_of_none place (drop at ns)
run_end place ns es at (inr (inr (lt, le))) =
    ap (λ ms. run place ms (map entry_line (drop at es))) (shares_from ns at lt) ∙ run_stops place (get_or ns at 0) (drop (at + 1) ns) (map entry_line (drop at es)) le

pub total_more : (es : List Entry) (at : ℕ) (d : Entry) → at < length es → total_of (map entry_line (drop at es)) ≡ (get_or es at d).1 + total_of (map entry_line (drop (at + 1) es))
total_more es at d lt = ap total_of (lines_from es at d lt) ∙ sum_by-cons (λ (l : Line). l.count) (entry_line (get_or es at d)) (map entry_line (drop (at + 1) es))
