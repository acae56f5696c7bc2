-- A count that is added to that of an entry of a tally.
use Rattle.std.proofs.Common.{◌≡◌, ℕ, zero, suc, ◌<◌, List, [], ◌∷◌, length, map, get_or, set, ap, ◌∙◌, arith}
use Rattle.perf_flame.specs.Lines.{Line, add_count, add_lines}
use Rattle.perf_flame.specs.Tallies.{counted_line}
use Rattle.perf_flame.specs.declared.tally.Counted.{Counted}
use Rattle.perf_flame.proofs.Merging.{added, past, twice}

pub one_more : (es : List Counted) (i : ℕ) (d e : Counted) (n : ℕ) (ls : List Line) → i < length es → e.stack.items ≡ (get_or es i d).stack.items → e.count ≡ added (get_or es i d).count n
    → add_lines ls (map counted_line (set es i e)) ≡ add_count (add_lines ls (map counted_line es)) (get_or es i d).stack.items n
one_more [] i d e n ls below same sum = absurd (omega (arith, below))
one_more (x ∷ es) zero d e n ls below same sum =
    let rest : List Line = map counted_line es in
    (λ k. add_lines (add_count ls (same k) (sum k)) rest)
    ∙ ap (λ (ks : List Line). add_lines ks rest) (twice ls x.stack.items x.count n)
    ∙ past rest (add_count ls x.stack.items x.count) x.stack.items n
one_more (x ∷ es) (suc i) d e n ls below same sum = one_more es i d e n (add_count ls x.stack.items x.count) (omega (arith, below)) same sum
